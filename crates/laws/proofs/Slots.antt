-- Lists joined of pieces: from the front or by number, and of pieces of one length each at its place.
use Prim.Native.Nat.{ℕ, zero, suc, ◌+◌, ◌*◌, ◌<◌}
use mathlib.Core.Path.{◌≡◌, refl, sym, ap, ◌∙◌}
use mathlib.Core.List.{List, [], ◌∷◌, ◌++◌, append_assoc, append-nil}
use native.Mathlib.Omega.{arith}
use native.Mathlib.Nat.{mul-zero, mul-suc}
use lib.ListN.{length, get_or, take, drop, length-append}
use lib.Seq.{take_at, drop-append-add}
use Rattle.laws.specs.Counted.{join_of}
use Rattle.laws.specs.Lists.{flat_map}

pub join_front : (n : ℕ) (g : ℕ → List ℕ) → join_of (suc n) g ≡ g 0 ++ join_of n (λ j. g (suc j))
unfolding join_of
join_front zero g = sym (append-nil (g 0))
join_front (suc n) g = ap (λ (l : List ℕ). l ++ g (suc n)) (join_front n g) ∙ append_assoc (g 0) (join_of n (λ j. g (suc j))) (g (suc n))

-- pieces taken by number are those of the list
pub join_flat : (g : ℕ → List ℕ) (xs : List ℕ) → join_of (length xs) (λ j. g (get_or xs j 0)) ≡ flat_map g xs
unfolding join_of flat_map
join_flat g [] = refl
join_flat g (x ∷ xs) = join_front (length xs) (λ j. g (get_or (x ∷ xs) j 0)) ∙ ap (λ (l : List ℕ). g x ++ l) (join_flat g xs)

singles : (xs : List ℕ) → flat_map (λ x. x ∷ []) xs ≡ xs
unfolding flat_map
singles [] = refl
singles (x ∷ xs) = ap (λ (l : List ℕ). x ∷ l) (singles xs)

-- a list is its elements, taken by number
pub words-joined : (xs : List ℕ) → join_of (length xs) (λ j. get_or xs j 0 ∷ []) ≡ xs
words-joined xs = join_flat (λ x. x ∷ []) xs ∙ singles xs

-- ---- pieces of w elements each

module _ (w : ℕ) (g : ℕ → List ℕ) (each : (x : ℕ) → length (g x) ≡ w) where
  pub join_length : (n : ℕ) → length (join_of n g) ≡ w * n
  unfolding join_of
  join_length zero = sym (mul-zero w)
  join_length (suc n) = omega (arith, length-append (join_of n g) (g n), join_length n, each n, mul-suc w n)

  -- the piece of the k-th element, whatever follows the last one
  pub flat_piece : (xs rest : List ℕ) (k : ℕ) → k < length xs → take w (drop (w * k) (flat_map g xs ++ rest)) ≡ g (get_or xs k 0)
  unfolding flat_map
  flat_piece [] rest k h = absurd (omega arith)
  flat_piece (x ∷ xs) rest zero h =
      rw (mul-zero w, append_assoc (g x) (flat_map g xs) rest) (take_at (g x) (flat_map g xs ++ rest) w (each x))
  flat_piece (x ∷ xs) rest (suc k) h =
      let e : w * suc k ≡ length (g x) + w * k = omega (arith, mul-suc w k, each x) in
      rw (e, append_assoc (g x) (flat_map g xs) rest)
      (ap (take w) (drop-append-add (g x) (flat_map g xs ++ rest) (w * k)) ∙ flat_piece xs rest k (omega arith))
