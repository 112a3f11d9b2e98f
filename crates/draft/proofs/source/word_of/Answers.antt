-- `draft::source::word_of` meets its contract.
use Prim.Native.Nat.{ℕ, ◌+◌, ◌*◌, ◌≤◌}
use mathlib.Core.Path.{ap, ◌∙◌}
use native.Mathlib.Omega.{arith}
use native.Mathlib.Nat.{mul-le-mul_left}
use lib.ListN.{get_or}
use Rattle.image.specs.Sections.{most_words, node_words}
use Rattle.image.proofs.Widths.{width}
use Rattle.draft.proofs.source.word_of.Goals as goal

few : (n version : ℕ) → n * node_words version ≤ n * most_words
few n version = mul-le-mul_left n (width version).most

pub first_word-requires : goal.first_word-requires
first_word-requires c = let to = c.args in omega (arith, few to.n to.source.version)

pub overflow_add-first_word : goal.overflow_add-first_word
overflow_add-first_word c = let to = c.args in omega (arith, few to.n to.source.version)

pub returns : goal.returns
returns c =
    let to = c.args in
    c.word.ensures ∙ ap (λ (at : ℕ). get_or to.nodes.now (at + to.k) 0) c.first_word.ensures
