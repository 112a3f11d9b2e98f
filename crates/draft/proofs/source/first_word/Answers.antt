-- `draft::source::first_word` meets its contract.
use Prim.Native.Nat.{ℕ, ◌*◌}
use mathlib.Core.Path.{◌≡◌, ap}
use native.Mathlib.Omega.{arith}
use Rattle.image.specs.Sections.{node_words}
use Rattle.draft.proofs.source.first_word.Goals as goal

pub overflow_mul-result : goal.overflow_mul-result
overflow_mul-result c =
    let to = c.args in
    let same : to.i * c.node_words.result ≡ to.i * node_words to.source.version = ap (λ (w : ℕ). to.i * w) c.node_words.ensures in
    omega arith

pub returns : goal.returns
returns c = ap (λ (w : ℕ). c.args.i * w) c.node_words.ensures
