-- `answers::view_words::choice` meets its contract.
use mathlib.Core.Path.{◌≡◌, ap, ◌∙◌}
use mir.Facts.{to_z-of_z}
use Rattle.image.specs.Tags.{choice_tag}
use Rattle.views.specs.declared.Span.{Span}
use Rattle.answers.specs.AnswerWords.{unsigned}
use Rattle.answers.specs.RecordWords.{text_alone}
use Rattle.answers.proofs.view_words.choice.Goals as goal

pub returns : goal.returns
returns c = let e : c.unsigned_of.result ≡ unsigned c.args.flags = c.unsigned_of.ensures ∙ ap unsigned (to_z-of_z c.ranges.flags) in rw (← e, ← c.word_or.ensures) (c.text_alone.ensures ∙ ap (λ (t : Span). text_alone choice_tag t c.word_or.result 0 c.unsigned_of.result) c.no_span.ensures)
