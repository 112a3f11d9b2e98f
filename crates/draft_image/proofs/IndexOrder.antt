-- The containers of the index: each is a container of the draft, by its number in the image.
use Prim.Native.Nat.{ℕ, zero, suc, ◌<◌}
use mathlib.Core.Path.{◌≡◌, refl}
use mathlib.Core.List.{List, [], ◌∷◌, ◌++◌}
use mathlib.Core.Bool.{Bool, true, false, cond}
use native.Mathlib.Omega.{arith}
use lib.ListN.{length, get_or}
use Rattle.laws.specs.Counted.{those}
use Rattle.laws.proofs.Members.{All, all_append, all_map}
use Rattle.laws.proofs.Sorted.{all_isort}
use Rattle.texts.specs.Text.{by_key}
use Rattle.image.specs.Sections.{Sections, node_count, is_container}
use Rattle.draft.specs.Numbering.{old_of}
use Rattle.draft_image.specs.Strings.{by_path, path_of}
use Rattle.draft_image.proofs.Joins.{all_nth}

-- ---- the numbers below n that pass a test

pub those-pass : (n : ℕ) (t : ℕ → Bool) → All (λ x. (x < n) × (t x ≡ true)) (those n t)
unfolding those
those-pass zero t = tt
those-pass (suc n) t = go (all_map (those n t) (λ x p. (omega (arith, p.0), p.1)) (those-pass n t)) (t n) refl
  where
    go : All (λ x. (x < suc n) × (t x ≡ true)) (those n t) → (b : Bool) → t n ≡ b → All (λ x. (x < suc n) × (t x ≡ true)) (those n t ++ cond b (n ∷ []) [])
    go more true e = all_append (λ x. (x < suc n) × (t x ≡ true)) (those n t) (n ∷ []) more ((omega arith, e), tt)
    go more false e = all_append (λ x. (x < suc n) × (t x ≡ true)) (those n t) [] more tt

-- ---- the node of index entry k

module _ (s : Sections) (order : List ℕ) where
  paths-pass : All (λ j. (j < node_count s) × (is_container s (old_of order j) ≡ true)) (by_path s order)
  unfolding by_path
  paths-pass =
      all_isort (by_key (path_of s order)) _ (those (node_count s) (λ j. is_container s (old_of order j))) (those-pass (node_count s) (λ j. is_container s (old_of order j)))

  pub path-node : (k : ℕ) → k < length (by_path s order)
      → (get_or (by_path s order) k 0 < node_count s) × (is_container s (old_of order (get_or (by_path s order) k 0)) ≡ true)
  path-node k h = all_nth (λ j. (j < node_count s) × (is_container s (old_of order j) ≡ true)) (by_path s order) k h paths-pass
