-- How many texts an optional text is.
use Prim.Native.Nat.{ℕ, ◌≤◌}
use mathlib.Core.Bool.{Bool, true, false, cond}
use native.Mathlib.Omega.{arith}
use Rattle.words.specs.Words.{is_none}
use Rattle.write_tree_sections.specs.Encoded.{text_count}

-- an optional text is at most one
pub count_small : (offset : ℕ) → text_count offset ≤ 1
count_small offset = go (is_none offset)
  where
    go : (b : Bool) → cond b 0 1 ≤ 1
    go true = omega arith
    go false = omega arith
