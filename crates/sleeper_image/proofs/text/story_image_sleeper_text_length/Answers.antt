-- `sleeper_image::text::story_image_sleeper_text_length` meets its contract.
use Rattle.sleeper_image.proofs.TextCopies.{no_length-view, no_length-kind, length-asked}
use borrow.Author.Rules.{rules}
use Rattle.sleeper_image.proofs.text.story_image_sleeper_text_length.Goals as goal

pub returns-then-view-lt-VIEW_WORDS : goal.returns-then-view-lt-VIEW_WORDS
returns-then-view-lt-VIEW_WORDS c = search (rules, no_length-view)

pub returns-then-kind-ge-TEXT_KINDS : goal.returns-then-kind-ge-TEXT_KINDS
returns-then-kind-ge-TEXT_KINDS c = search (rules, no_length-kind)

pub returns : goal.returns
returns c = search (rules, length-asked)
