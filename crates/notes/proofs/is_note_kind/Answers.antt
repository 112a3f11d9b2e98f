-- `notes::is_note_kind` meets its contract.
use Rattle.notes.proofs.is_note_kind.Goals as goal

pub returns-in-Tag : goal.returns-in-Tag
returns-in-Tag c = cc
