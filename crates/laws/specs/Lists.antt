-- Lists: joined images, membership, the place of an element; a number that may be missing.
use Rattle.std.specs.Prelude.{ℕ, suc, ◌<◌, Bool, true, false, cond, ◌||◌, eqb, None, Option, Some}
use mathlib.Core.List.{List, [], ◌∷◌, ◌++◌, Memᴰ}

unfoldable pub flat_map : {X Y : Type 0} → (X → List Y) → List X → List Y
flat_map f [] = []
flat_map f (x ∷ xs) = f x ++ flat_map f xs

unfoldable pub has : ℕ → List ℕ → Bool
has n [] = false
has n (x ∷ xs) = eqb n x || has n xs

-- the place of n in the list, or the list's length
unfoldable pub place_in : List ℕ → ℕ → ℕ
place_in [] n = 0
place_in (x ∷ xs) n = let r = place_in xs n in cond (eqb n x) 0 (suc r)

-- every element is below n: what a slice of bytes (256) or words (2 ^ 32) holds
abbrev pub Below : ℕ → List ℕ → Type 0
Below n xs = (x : ℕ) → Memᴰ x xs → x < n

-- names on an `unfolding` line what a computation with this module needs
unfoldable pub lists : Unit {0}
unfolding flat_map has place_in
lists = tt
