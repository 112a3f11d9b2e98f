-- `draft::source::entry_at` meets its contract.
use Rattle.image.specs.Entries.{text_entry_of}
use Rattle.draft.proofs.source.entry_at.Goals as goal

pub returns : goal.returns
unfolding text_entry_of
returns c = cc
