-- `answers::view_words::container` meets its contract.
use mathlib.Core.Path.{◌≡◌, ap, ◌∙◌}
use mir.Facts.{to_z-of_z}
use Rattle.answers.specs.AnswerWords.{unsigned}
use Rattle.answers.proofs.view_words.container.Goals as goal

pub returns : goal.returns
returns c = let e : c.unsigned_of.result ≡ unsigned c.args.flags = c.unsigned_of.ensures ∙ ap unsigned (to_z-of_z c.ranges.flags) in rw (← e, ← c.span_or.ensures) c.text_alone.ensures
