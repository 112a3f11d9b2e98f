-- `story_image::spelling::put_name` meets its contract.
use Rattle.story_image.proofs.NameTexts.{spelled-long}
use mathlib.Core.Path.{sym}
use Rattle.story_image.proofs.spelling.put_name.Goals as goal

pub slice_bounds-put_text_copy-end : goal.slice_bounds-put_text_copy-end
slice_bounds-put_text_copy-end c = sym (spelled-long c.args.name c.requires)

pub put_text_copy-requires : goal.put_text_copy-requires
put_text_copy-requires c = sym (spelled-long c.args.name c.requires)
