-- Text order is strict and total, and equality of texts is sameness: the laws, and the steps of a comparison byte by byte.
use Prim.Native.Nat.{ℕ, ◌+◌, ◌<◌, ◌≤◌}
use mathlib.Core.Path.{◌≡◌, refl, sym, ap, ◌∙◌}
use mathlib.Core.Logic.{◌⊎◌, inl, inr}
use mathlib.Core.List.{List, [], ◌∷◌, ◌++◌}
use mathlib.Core.Bool.{Bool, true, false, false≢true}
use native.Mathlib.Omega.{arith}
use native.Mathlib.Numerals.{add-one}
use lib.Dec.{ltb}
use lib.ListN.{length, get_or, drop, drop_of_length-le}
use lib.Seq.{drop-cons}
use borrow.Author.Tests.{ltb-true, ltb-false, lt-ltb, le-ltb}
use Rattle.std.specs.declared.cmp.Ordering.{Ordering}
use Rattle.std.specs.declared.cmp.Ordering.TheVariants.{Less, Equal, Greater}
use Rattle.texts.specs.Text.{by_head, order_of, is_less, is_equal, before, same}

-- what two first bytes say, by cases
data Heads (a b : ℕ) : Bool → Bool → Type 0 where
  less : a < b → Heads a b true false
  like : a ≡ b → Heads a b false false
  more : b < a → Heads a b false true

heads : (a b : ℕ) → Heads a b (ltb a b) (ltb b a)
heads a b = by (ltb a b) (ltb b a) refl refl
  where
    by : (t u : Bool) → ltb a b ≡ t → ltb b a ≡ u → Heads a b t u
    by true true p q = absurd (omega (arith, ltb-true a b p, ltb-true b a q))
    by true false p q = less (ltb-true a b p)
    by false true p q = more (ltb-true b a q)
    by false false p q = like (omega (arith, ltb-false a b p, ltb-false b a q))

-- ---- order

pub order-self : (s : List ℕ) → order_of s s ≡ Equal
unfolding order_of
order-self [] = refl
order-self (a ∷ s) = rw (le-ltb a a (omega arith)) (order-self s)

-- the order of two texts, taken the other way round
abbrev pub turned : Ordering → Ordering
turned Less = Greater
turned Equal = Equal
turned Greater = Less

pub order-turned : (s t : List ℕ) → order_of t s ≡ turned (order_of s t)
unfolding order_of
order-turned [] [] = refl
order-turned [] (b ∷ t) = refl
order-turned (a ∷ s) [] = refl
order-turned (a ∷ s) (b ∷ t) = by (ltb a b) (ltb b a) (heads a b) (order-turned s t)
  where
    by : (p q : Bool) → Heads a b p q → order_of t s ≡ turned (order_of s t) → by_head q p (order_of t s) ≡ turned (by_head p q (order_of s t))
    by p q (less h) r = refl
    by p q (like h) r = r
    by p q (more h) r = refl

pub order-equal : (s t : List ℕ) → order_of s t ≡ Equal → s ≡ t
unfolding order_of
order-equal [] [] e = refl
order-equal [] (b ∷ t) e = cc
order-equal (a ∷ s) [] e = cc
order-equal (a ∷ s) (b ∷ t) e = by (ltb a b) (ltb b a) (heads a b) (order-equal s t) e
  where
    by : (p q : Bool) → Heads a b p q → (order_of s t ≡ Equal → s ≡ t) → by_head p q (order_of s t) ≡ Equal → a ∷ s ≡ b ∷ t
    by p q (less h) r e = cc
    by p q (like h) r e = let tails = r e in cc
    by p q (more h) r e = cc

pub order_trans : (s t u : List ℕ) → order_of s t ≡ Less → order_of t u ≡ Less → order_of s u ≡ Less
unfolding order_of
order_trans [] [] u d e = cc
order_trans [] (b ∷ t) [] d e = cc
order_trans [] (b ∷ t) (c ∷ u) d e = refl
order_trans (a ∷ s) [] u d e = cc
order_trans (a ∷ s) (b ∷ t) [] d e = cc
order_trans (a ∷ s) (b ∷ t) (c ∷ u) d e = by (ltb a b) (ltb b a) (ltb b c) (ltb c b) (heads a b) (heads b c) (order_trans s t u) d e
  where
    by : (p q v w : Bool) → Heads a b p q → Heads b c v w → (order_of s t ≡ Less → order_of t u ≡ Less → order_of s u ≡ Less)
        → by_head p q (order_of s t) ≡ Less → by_head v w (order_of t u) ≡ Less → by_head (ltb a c) (ltb c a) (order_of s u) ≡ Less
    by p q v w (less h) (less k) r d e = rw (lt-ltb a c (omega arith))
    by p q v w (less h) (like k) r d e = rw (lt-ltb a c (omega arith))
    by p q v w (less h) (more k) r d e = cc
    by p q v w (like h) (less k) r d e = rw (lt-ltb a c (omega arith))
    by p q v w (like h) (like k) r d e = rw (le-ltb a c (omega arith), le-ltb c a (omega arith)) (r d e)
    by p q v w (like h) (more k) r d e = cc
    by p q v w (more h) k r d e = cc

-- texts that begin alike are ordered by what follows
pub order-front : (p s t : List ℕ) → order_of (p ++ s) (p ++ t) ≡ order_of s t
unfolding order_of
order-front [] s t = refl
order-front (a ∷ p) s t = rw (le-ltb a a (omega arith)) (order-front p s t)

-- ---- equality

pub same_self : (s : List ℕ) → same s s ≡ true
unfolding same
same_self s = rw (order-self s)

pub same-equal : (s t : List ℕ) → same s t ≡ true → s ≡ t
unfolding same
same-equal s t p = order-equal s t (by (order_of s t) p)
  where
    by : (o : Ordering) → is_equal o ≡ true → o ≡ Equal
    by Less q = absurd (false≢true q)
    by Equal q = refl
    by Greater q = absurd (false≢true q)

pub equal-same : (s t : List ℕ) → s ≡ t → same s t ≡ true
equal-same s t e = rw e (same_self t)

pub unlike-same : (s t : List ℕ) → (s ≡ t → ⊥) → same s t ≡ false
unlike-same s t d = by (same s t) refl
  where
    by : (b : Bool) → same s t ≡ b → b ≡ false
    by true e = absurd (d (same-equal s t e))
    by false e = refl

pub same-unlike : (s t : List ℕ) → same s t ≡ false → s ≡ t → ⊥
same-unlike s t p e = false≢true (sym p ∙ equal-same s t e)

pub not-equal-same : (s t : List ℕ) → (order_of s t ≡ Equal → ⊥) → false ≡ same s t
not-equal-same s t d = sym (unlike-same s t (λ e. d (rw e (order-self t))))

-- two questions with one answer
pub same_iff : (s t u v : List ℕ) → (s ≡ t → u ≡ v) → (u ≡ v → s ≡ t) → same s t ≡ same u v
same_iff s t u v f g = by (same s t) refl
  where
    by : (b : Bool) → same s t ≡ b → b ≡ same u v
    by true e = sym (equal-same u v (f (same-equal s t e)))
    by false e = sym (unlike-same u v (λ q. same-unlike s t e (g q)))

pub length-same : (s t : List ℕ) → (length s ≡ length t → ⊥) → same s t ≡ false
length-same s t d = unlike-same s t (λ e. d (ap length e))

pub same-turned : (s t : List ℕ) → same t s ≡ same s t
unfolding same
same-turned s t = rw (order-turned s t) (by (order_of s t))
  where
    by : (o : Ordering) → is_equal (turned o) ≡ is_equal o
    by Less = refl
    by Equal = refl
    by Greater = refl

-- ---- before

less-only : (o : Ordering) → is_less o ≡ true → o ≡ Less
less-only Less q = refl
less-only Equal q = absurd (false≢true q)
less-only Greater q = absurd (false≢true q)

pub before-less : (s t : List ℕ) → before s t ≡ true → order_of s t ≡ Less
unfolding before
before-less s t p = less-only (order_of s t) p

pub not-less-before : (s t : List ℕ) → (order_of s t ≡ Less → ⊥) → false ≡ before s t
not-less-before s t d = by (before s t) (before-less s t)
  where
    by : (b : Bool) → (b ≡ true → order_of s t ≡ Less) → false ≡ b
    by true f = absurd (d (f refl))
    by false f = refl

pub less-before : (s t : List ℕ) → order_of s t ≡ Less → before s t ≡ true
unfolding before
less-before s t p = rw p

pub before_greater : (s t : List ℕ) → before t s ≡ true → order_of s t ≡ Greater
before_greater s t p = order-turned t s ∙ ap turned (before-less t s p)

pub greater_before : (s t : List ℕ) → order_of s t ≡ Greater → before t s ≡ true
greater_before s t p = less-before t s (order-turned s t ∙ ap turned p)

pub before_self : (s : List ℕ) → before s s ≡ false
unfolding before
before_self s = rw (order-self s)

pub before-unlike : (s t : List ℕ) → before s t ≡ true → s ≡ t → ⊥
before-unlike s t p e = false≢true (sym (before_self t) ∙ (rw e at p))

pub before_asym : (s t : List ℕ) → before s t ≡ true → before t s ≡ false
unfolding before
before_asym s t p = rw (order-turned s t, before-less s t p)

pub before-trans : (s t u : List ℕ) → before s t ≡ true → before t u ≡ true → before s u ≡ true
before-trans s t u p q = less-before s u (order_trans s t u (before-less s t p) (before-less t u q))

-- of two texts one comes before the other, or they are one
pub trichotomy : (s t : List ℕ) → (before s t ≡ true) ⊎ ((s ≡ t) ⊎ (before t s ≡ true))
trichotomy s t = by (order_of s t) refl
  where
    by : (o : Ordering) → order_of s t ≡ o → (before s t ≡ true) ⊎ ((s ≡ t) ⊎ (before t s ≡ true))
    by Less e = inl (less-before s t e)
    by Equal e = inr (inl (order-equal s t e))
    by Greater e = inr (inr (greater_before s t e))

pub unlike-before : (s t : List ℕ) → (s ≡ t → ⊥) → (before s t ≡ true) ⊎ (before t s ≡ true)
unlike-before s t d = by (trichotomy s t)
  where
    by : (before s t ≡ true) ⊎ ((s ≡ t) ⊎ (before t s ≡ true)) → (before s t ≡ true) ⊎ (before t s ≡ true)
    by (inl p) = inl p
    by (inr (inl e)) = absurd (d e)
    by (inr (inr q)) = inr q

-- a text that is not before t comes after all that are
pub before-apart : (s t u : List ℕ) → before s t ≡ true → before u t ≡ false → before s u ≡ true
before-apart s t u p q = by (trichotomy t u)
  where
    by : (before t u ≡ true) ⊎ ((t ≡ u) ⊎ (before u t ≡ true)) → before s u ≡ true
    by (inl r) = before-trans s t u p r
    by (inr (inl e)) = rw e at p
    by (inr (inr r)) = absurd (false≢true (sym q ∙ r))

-- ---- two texts from the index i on: one byte more, and the ends

module _ (a b : List ℕ) (i : ℕ) where
  pub byte-like : i < length a → i < length b → get_or a i 0 ≡ get_or b i 0 → order_of (drop i a) (drop i b) ≡ order_of (drop (i + 1) a) (drop (i + 1) b)
  unfolding order_of
  byte-like ha hb e = rw (add-one, drop-cons a i 0, drop-cons b i 0, e, le-ltb (get_or b i 0) (get_or b i 0) (omega arith))

  pub byte-less : i < length a → i < length b → get_or a i 0 < get_or b i 0 → order_of (drop i a) (drop i b) ≡ Less
  unfolding order_of
  byte-less ha hb h = rw (drop-cons a i 0, drop-cons b i 0, lt-ltb (get_or a i 0) (get_or b i 0) h)

  pub byte_more : i < length a → i < length b → get_or b i 0 < get_or a i 0 → order_of (drop i a) (drop i b) ≡ Greater
  unfolding order_of
  byte_more ha hb h = rw (drop-cons a i 0, drop-cons b i 0, lt-ltb (get_or b i 0) (get_or a i 0) h, le-ltb (get_or a i 0) (get_or b i 0) (omega arith))

  pub first-longer : i < length a → length b ≤ i → order_of (drop i a) (drop i b) ≡ Greater
  unfolding order_of
  first-longer ha hb = rw (drop-cons a i 0, drop_of_length-le b hb)

  pub second-longer : length a ≤ i → i < length b → order_of (drop i a) (drop i b) ≡ Less
  unfolding order_of
  second-longer ha hb = rw (drop-cons b i 0, drop_of_length-le a ha)

  pub both_end : length a ≤ i → length b ≤ i → order_of (drop i a) (drop i b) ≡ Equal
  unfolding order_of
  both_end ha hb = rw (drop_of_length-le b hb, drop_of_length-le a ha)
