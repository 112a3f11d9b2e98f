-- `draft::source::definition_at` meets its contract.
use Rattle.image.specs.Entries.{definition_of}
use Rattle.draft.proofs.source.definition_at.Goals as goal

pub returns : goal.returns
unfolding definition_of
returns c = cc
