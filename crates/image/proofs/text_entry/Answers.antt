-- `image::text_entry` meets its contract.
use Rattle.image.specs.Entries.{text_entry_of}
use Rattle.image.proofs.text_entry.Goals as goal

pub returns : goal.returns
unfolding text_entry_of
returns c = cc
