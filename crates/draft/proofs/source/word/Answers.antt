-- `draft::source::word` meets its contract.
use Prim.Native.Nat.{ℕ, ◌≤◌}
use mathlib.Core.Path.{◌≡◌, sym}
use mathlib.Core.List.{List}
use lib.ListN.{length, get_or, get_or-eq_default}
use borrow.Author.Rules.{rules}
use Rattle.draft.proofs.source.word.Goals as goal

past : (ws : List ℕ) (i : ℕ) → length ws ≤ i → 0 ≡ get_or ws i 0
past ws i h = sym (get_or-eq_default ws 0 {n = i} h)

pub returns-else-i-words : goal.returns-else-i-words
returns-else-i-words c = search (rules, past)
