-- `sleeper::sections::nodes_end` meets its contract.
use Prim.Native.Nat.{ℕ, ◌+◌, ◌*◌}
use mathlib.Core.Path.{ap}
use native.Mathlib.Omega.{arith}
use Rattle.sleeper.proofs.SectionPlaces.{nodes-most}
use Rattle.sleeper.proofs.sections.nodes_end.Goals as goal

pub overflow_mul-result : goal.overflow_mul-result
overflow_mul-result c = omega (arith, nodes-most c.args.count c.args.version _ (omega arith) c.node_size.ensures)

pub overflow_add-result : goal.overflow_add-result
overflow_add-result c = omega (arith, nodes-most c.args.count c.args.version _ (omega arith) c.node_size.ensures)

pub returns : goal.returns
returns c = let most = nodes-most c.args.count c.args.version _ (omega arith) c.node_size.ensures in
    record {
      value = ap (λ (x : ℕ). 88 + c.args.count * x) c.node_size.ensures;
      most = omega (arith, most);
    }
