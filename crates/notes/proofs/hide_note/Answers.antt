-- `notes::hide_note` meets its contract.
use Rattle.notes.proofs.Hiding.{note-hidden, other-kept}
use borrow.Author.Rules.{rules}
use Rattle.notes.proofs.hide_note.Goals as goal

pub returns-then-is_note_kind : goal.returns-then-is_note_kind
returns-then-is_note_kind c = search (rules, note-hidden)

pub returns-else-is_note_kind : goal.returns-else-is_note_kind
returns-else-is_note_kind c = search (rules, other-kept)
