-- `image::part_word` meets its contract.
use mathlib.Core.Path.{◌∙◌, sym}
use Rattle.words.proofs.Words.{word_at_lem}
use Rattle.image.proofs.part_word.Goals as goal

pub returns : goal.returns
returns c = c.word.ensures ∙ sym (word_at_lem c.args.part.now c.args.k c.requires)
