-- `draft::source::node_words` meets its contract.
use native.Mathlib.Omega.{arith}
use Rattle.draft.proofs.source.node_words.Goals as goal

pub returns : goal.returns
returns c = rw c.node_size.ensures (omega arith)
