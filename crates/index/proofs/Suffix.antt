-- A text against the end of another: what is left before an end that both have, and the texts that fit a path piece by piece from its end on.
use Prim.Native.Nat.{ℕ, ◌+◌, ◌-◌, ◌≤◌, ◌<◌}
use mathlib.Core.Path.{◌≡◌, refl, sym, ap, ◌∙◌}
use mathlib.Core.List.{List, [], ◌++◌}
use mathlib.Core.Bool.{Bool, true, false, ◌&&◌}
use native.Mathlib.Omega.{arith}
use lib.Dec.{eqb}
use lib.ListN.{length, take, drop, length-append}
use lib.Seq.{take_at, drop_at, take-add, length-take-le}
use borrow.Author.Tests.{eqb-true, eqb-false}
use Rattle.laws.proofs.Flags.{and-false}
use Rattle.texts.specs.Text.{same}
use Rattle.texts.proofs.Text.{same_self, unlike-same, same_iff, length-same}

-- ---- two texts with ends of one length

same_ends : (x y a b : List ℕ) → length y ≡ length b → x ++ y ≡ a ++ b → (x ≡ a) × (y ≡ b)
same_ends x y a b h e =
    let n : length a ≡ length x = omega (arith, ap length e, length-append x y, length-append a b) in (
      sym (take_at x y (length x) refl) ∙ ap (take (length x)) e ∙ take_at a b (length x) n,
      sym (drop_at x y (length x) refl) ∙ ap (drop (length x)) e ∙ drop_at a b (length x) n,
    )

-- an end that both have does not matter
same-front : (x a b : List ℕ) → same (x ++ b) (a ++ b) ≡ same x a
same-front x a b = same_iff (x ++ b) (a ++ b) x a (λ e. (same_ends x b a b refl e).0) (ap (λ (l : List ℕ). l ++ b))

other_end : (x y a b : List ℕ) → length y ≡ length b → (y ≡ b → ⊥) → same (x ++ y) (a ++ b) ≡ false
other_end x y a b h d = unlike-same (x ++ y) (a ++ b) (λ e. d (same_ends x y a b h e).1)

too_short : (t a b : List ℕ) → length t < length b → same t (a ++ b) ≡ false
too_short t a b h = length-same t (a ++ b) (λ e. omega (arith, length-append a b))

-- a text up to a place is what stands before a start, and what stands from there on
pub cut : (t : List ℕ) (start end : ℕ) → start ≤ end → take end t ≡ take start t ++ take (end - start) (drop start t)
cut t start end h = let e : end ≡ start + (end - start) = omega arith in ap (λ (n : ℕ). take n t) e ∙ take-add start (end - start) t

pub empty-part : (t : List ℕ) (end : ℕ) → end ≤ length t → same (take end t) [] ≡ eqb end 0
empty-part t end h = by (eqb end 0) refl
  where
    by : (b : Bool) → eqb end 0 ≡ b → same (take end t) [] ≡ b
    by true e = rw (eqb-true end 0 e) (same_self [])
    by false e = length-same (take end t) [] (λ q. eqb-false end 0 e (sym (length-take-le end t h) ∙ q))

-- ---- a text that fits a path: it is the path, and the path has all its pieces

abbrev pub fits_path : Bool → List ℕ → List ℕ → Bool
fits_path whole t path = whole && same t path

module _ (whole : Bool) where
  pub fits-front : (x a b : List ℕ) → fits_path whole (x ++ b) (a ++ b) ≡ fits_path whole x a
  fits-front x a b = rw (same-front x a b)

  pub fits-other : (x y a b : List ℕ) → length y ≡ length b → (y ≡ b → ⊥) → fits_path whole (x ++ y) (a ++ b) ≡ false
  fits-other x y a b h d = rw (other_end x y a b h d) (and-false whole)

  pub fits-short : (t a b : List ℕ) → length t < length b → fits_path whole t (a ++ b) ≡ false
  fits-short t a b h = rw (too_short t a b h) (and-false whole)
