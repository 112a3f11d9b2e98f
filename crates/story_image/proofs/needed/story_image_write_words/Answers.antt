-- `story_image::needed::story_image_write_words` meets its contract.
use Rattle.story_image.proofs.WorkWords.{most_to_write, some_to_write}
use mathlib.Core.Path.{ap, ◌∙◌}
use Rattle.image.specs.declared.EntryCounts.{EntryCounts}
use Rattle.draft.specs.Needs.{words_for, needed_of}
use Rattle.story_image.proofs.needed.story_image_write_words.Goals as goal

pub returns-in-None : goal.returns-in-None
returns-in-None c =
    let fit = c in
    most_to_write _ _ (fit.work_words_fit.ensures ∙ ap (λ (n : EntryCounts). needed_of (words_for n) _) fit.entry_counts-counts.ensures) c.in-None.is

pub returns-in-Some : goal.returns-in-Some
returns-in-Some c =
    let fit = c in
    some_to_write _ _ (fit.work_words_fit.ensures ∙ ap (λ (n : EntryCounts). needed_of (words_for n) _) fit.entry_counts-counts.ensures) _ c.in-Some.is
