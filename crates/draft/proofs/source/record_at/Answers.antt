-- `draft::source::record_at` meets its contract.
use Rattle.image.specs.Entries.{record_of}
use Rattle.draft.proofs.source.record_at.Goals as goal

pub returns : goal.returns
unfolding record_of
returns c = λ v i e. cc
