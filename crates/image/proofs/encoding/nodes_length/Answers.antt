-- `image::encoding::nodes_length` meets its contract.
use Prim.Native.Nat.{ℕ, ◌*◌, ◌≤◌}
use mathlib.Core.Path.{sym, ap, subst}
use native.Mathlib.Omega.{arith}
use Rattle.image.proofs.encoding.nodes_length.Goals as goal

pub overflow_mul-result : goal.overflow_mul-result
overflow_mul-result c =
    let fits = subst (λ (x : ℕ). c.args.count * x ≤ 18446744073709551615) (sym c.node_size.ensures) c.requires in
    omega arith

pub returns : goal.returns
returns c = ap (λ (x : ℕ). c.args.count * x) c.node_size.ensures
