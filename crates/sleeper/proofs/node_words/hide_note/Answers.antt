-- `sleeper::node_words::hide_note` meets its contract.
use Rattle.sleeper.proofs.SeenWords.{note-words, other-words}
use borrow.Author.Rules.{rules}
use Rattle.sleeper.proofs.node_words.hide_note.Goals as goal

pub returns-then-is_note : goal.returns-then-is_note
returns-then-is_note c = search (rules, note-words)

pub returns-else-is_note : goal.returns-else-is_note
returns-else-is_note c = search (rules, other-words)
