-- `image::order::texts_rise` meets its contract.
use mathlib.Core.Path.{◌∙◌}
use Rattle.image.proofs.order.texts_rise.Goals as goal

pub returns : goal.returns
returns c = c.comes_before.ensures ∙ rw (c.text_bytes.ensures, c.text_bytes-2.ensures)
