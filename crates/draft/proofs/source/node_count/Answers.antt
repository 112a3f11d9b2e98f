-- `draft::source::node_count` meets its contract.
use Prim.Native.Nat.{ℕ, ◌/◌}
use mathlib.Core.Path.{ap}
use native.Mathlib.Omega.{arith}
use lib.ListN.{length}
use Rattle.image.proofs.Widths.{words-some}
use Rattle.draft.proofs.source.node_count.Goals as goal

pub nonzero_div-result : goal.nonzero_div-result
nonzero_div-result c = let some = words-some c.args.source.version in omega (arith, c.node_words.ensures)

pub returns : goal.returns
returns c = ap (λ (w : ℕ). length c.args.nodes.now / w) c.node_words.ensures
