-- Laws of lists of numbers: elements below a bound, parts of a list, a list copied onto another.
use Prim.Native.Nat.{ℕ, zero, suc, ◌+◌, ◌-◌, ◌≤◌, ◌<◌}
use mathlib.Core.Path.{◌≡◌, refl, sym, ap, ◌∙◌}
use mathlib.Core.Logic.{⊎_elim}
use mathlib.Core.List.Memᴰ
use mathlib.Core.List.{List, [], ◌∷◌, ◌++◌, append-nil}
use native.Mathlib.Omega.{arith}
use native.Mathlib.Numerals.{add-one}
use lib.ListN.{length, get_or, take, drop, set, length-drop, drop_of_length-le}
use lib.Seq.{take_all, take-length, take-take, drop-drop, drop-cons}
use borrow.Rule.Slice.PartMut.{put_mid}
use Rattle.laws.specs.Lists.{Below}

-- ---- lists whose elements are below a bound

pub below_none : (n : ℕ) → Below n []
below_none n x m = absurd (Memᴰ.not-nil m)

pub below_cons : (n a : ℕ) (xs : List ℕ) → a < n → Below n xs → Below n (a ∷ xs)
below_cons n a xs h b x m = ⊎_elim (λ e. omega arith) (b x) (Memᴰ.cases_cons m)

pub below-head : (n a : ℕ) (xs : List ℕ) → Below n (a ∷ xs) → a < n
below-head n a xs b = b a (Memᴰ.head refl)

pub below_tail : (n a : ℕ) (xs : List ℕ) → Below n (a ∷ xs) → Below n xs
below_tail n a xs b x m = b x (Memᴰ.tail m)

pub below_at : (n i : ℕ) (xs : List ℕ) → 0 < n → Below n xs → get_or xs i 0 < n
below_at n i [] h b = h
below_at n zero (x ∷ xs) h b = below-head n x xs b
below_at n (suc i) (x ∷ xs) h b = below_at n i xs h (below_tail n x xs b)

-- ---- parts of a list

-- the element at i, and what follows it
pub drop-next : (s : List ℕ) (i j : ℕ) → j ≡ i + 1 → i < length s → drop i s ≡ get_or s i 0 ∷ drop j s
drop-next s i j e h = drop-cons s i 0 h ∙ ap (λ k. get_or s i 0 ∷ drop k s) (sym (e ∙ add-one i))

-- lists that agree from a place on agree from a later one on
pub drop_more : (a b : ℕ) (x y : List ℕ) → a ≤ b → drop a x ≡ drop a y → drop b x ≡ drop b y
drop_more a b x y h e =
    let k : b ≡ a + (b - a) = omega arith in
    rw (k, ← drop-drop (b - a) a x, ← drop-drop (b - a) a y, e)

-- a part that runs to the end
pub to_end : (k : ℕ) (s : List ℕ) → take (length s - k) (drop k s) ≡ drop k s
to_end k s = take_all (length s - k) (drop k s) (simp length-drop (omega arith))

-- a part that was lent from k to the end, as it comes back
pub part-back : (k : ℕ) (s part : List ℕ) → put_mid k (length s - k) s part ≡ take k s ++ part
part-back k s part =
    let none : drop (length s - k) (drop k s) ≡ [] = drop_of_length-le (drop k s) {i = length s - k} (omega (arith, length-drop k s)) in
    ap (λ (l : List ℕ). take k s ++ l) (ap (λ (l : List ℕ). part ++ l) none ∙ append-nil part)

-- a part of the first n elements
pub part_of_first : (l : List ℕ) (n at len : ℕ) → at + len ≤ n → take len (drop at (take n l)) ≡ take len (drop at l)
part_of_first l n zero len h = take-take len n l (omega arith)
part_of_first l zero (suc at) len h = absurd (omega arith)
part_of_first [] (suc n) (suc at) len h = refl
part_of_first (x ∷ l) (suc n) (suc at) len h = part_of_first l n at len (omega arith)

-- ---- a list copied onto another, element by element

copy_suc : (t d : List ℕ) (i : ℕ) → i < length t → i < length d → set (take i t ++ drop i d) i (get_or t i 0) ≡ take (suc i) t ++ drop (suc i) d
copy_suc [] d i h g = absurd (omega arith)
copy_suc (x ∷ t) [] i h g = absurd (omega arith)
copy_suc (x ∷ t) (y ∷ d) zero h g = refl
copy_suc (x ∷ t) (y ∷ d) (suc i) h g = ap (λ (l : List ℕ). x ∷ l) (copy_suc t d i (omega arith) (omega arith))

pub copy_step : (t d now : List ℕ) (i : ℕ) → now ≡ take i t ++ drop i d → i < length t → i < length d → set now i (get_or t i 0) ≡ take (i + 1) t ++ drop (i + 1) d
copy_step t d now i e h g = rw (e, add-one i) (copy_suc t d i h g)

pub copy_end : (t d now : List ℕ) (i : ℕ) → i ≡ length t → now ≡ take i t ++ drop i d → now ≡ t ++ drop (length t) d
copy_end t d now i p e = e ∙ rw (p, take-length t)
