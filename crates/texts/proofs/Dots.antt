-- Laws of the first dot of a text.
use Prim.Native.Nat.{ℕ, zero, suc, ◌<◌, ◌≤◌}
use mathlib.Core.Path.{◌≡◌, refl, sym, ap, ◌∙◌}
use mathlib.Core.List.{List, [], ◌∷◌, ◌++◌, Memᴰ}
use mathlib.Core.Bool.{Bool, true, false, cond}
use native.Mathlib.Omega.{arith}
use native.Mathlib.Nat.{not-suc-le-zero}
use native.Mathlib.Numerals.{one-add}
use lib.Dec.{eqb, ltb}
use lib.ListN.{length, get_or, take, drop}
use lib.Seq.{split_at, length-take-le}
use borrow.Author.Tests.{eqb-true, eqb-false, eq-eqb, ne_eqb, ltb-true, ltb-false, lt-ltb, le-ltb}
use Rattle.std.specs.Prelude.{Option, Some, None, unwrap_or}
use Rattle.std.specs.List.{position, position_or_len}
use Rattle.std.proofs.lemmas.List.Recursion.{is_position_or_len}
use Rattle.texts.specs.Dots.{dot, first_dot, has_dot, before_dot, after_dot}

-- ---- one byte

dot_here : (b : ℕ) (t : List ℕ) → b ≡ dot → first_dot (b ∷ t) ≡ 0
unfolding first_dot
dot_here b t e = rw (eq-eqb b dot e)

dot_later : (b : ℕ) (t : List ℕ) → (b ≡ dot → ⊥) → first_dot (b ∷ t) ≡ suc (first_dot t)
unfolding first_dot
dot_later b t d = rw (ne_eqb b dot d)

-- by whether the first byte is the dot
by_byte : (P : List ℕ → Type 0) → P [] → ((b : ℕ) (t : List ℕ) → b ≡ dot → P (b ∷ t)) → ((b : ℕ) (t : List ℕ) → (b ≡ dot → ⊥) → P t → P (b ∷ t)) → (t : List ℕ) → P t
by_byte P none here later [] = none
by_byte P none here later (b ∷ t) = by (eqb b dot) refl (by_byte P none here later t)
  where
    by : (e : Bool) → eqb b dot ≡ e → P t → P (b ∷ t)
    by true e p = here b t (eqb-true b dot e)
    by false e p = later b t (eqb-false b dot e) p

-- ---- where the first dot is

pub dot_within : (t : List ℕ) → first_dot t ≤ length t
unfolding first_dot
dot_within = by_byte (λ t. first_dot t ≤ length t) (omega arith) (λ b t e. omega (arith, dot_here b t e)) (λ b t d p. omega (arith, dot_later b t d))

pub dot_there : (t : List ℕ) → first_dot t < length t → get_or t (first_dot t) 0 ≡ dot
unfolding first_dot
dot_there =
    by_byte (λ t. first_dot t < length t → get_or t (first_dot t) 0 ≡ dot) (λ h. absurd (not-suc-le-zero h)) (λ b t e h. rw (dot_here b t e) e)
    (λ b t d p h. rw (dot_later b t d) (p (omega (arith, dot_later b t d))))

-- no dot stands before it
pub dot_first : (t : List ℕ) (k : ℕ) → k < first_dot t → get_or t k 0 ≡ dot → ⊥
unfolding first_dot
dot_first =
    by_byte (λ t. (k : ℕ) → k < first_dot t → get_or t k 0 ≡ dot → ⊥) (λ k h. absurd (not-suc-le-zero h)) (λ b t e k h. absurd (omega (arith, dot_here b t e))) later
  where
    later : (b : ℕ) (t : List ℕ) → (b ≡ dot → ⊥) → ((k : ℕ) → k < first_dot t → get_or t k 0 ≡ dot → ⊥) → (k : ℕ) → k < first_dot (b ∷ t) → get_or (b ∷ t) k 0 ≡ dot → ⊥
    later b t d p zero h = d
    later b t d p (suc k) h = p k (omega (arith, dot_later b t d))

-- a text without a dot
pub dot_none : (t : List ℕ) → (Memᴰ dot t → ⊥) → first_dot t ≡ length t
unfolding first_dot
dot_none =
    by_byte (λ t. (Memᴰ dot t → ⊥) → first_dot t ≡ length t) (λ d. refl) (λ b t e d. absurd (d (Memᴰ.head (sym e))))
    (λ b t d p q. dot_later b t d ∙ ap suc (p (λ m. q (Memᴰ.tail m))))

-- a text that is put together at a dot, the first part without one
pub dot_joined : (s t : List ℕ) → first_dot s ≡ length s → first_dot (s ++ dot ∷ t) ≡ length s
dot_joined s t = by_byte (λ s. first_dot s ≡ length s → first_dot (s ++ dot ∷ t) ≡ length s) (λ e. dot_here dot t refl)
    (λ b s e q. absurd (omega (arith, q, dot_here b s e)))
    (λ b s d p q. dot_later b (s ++ dot ∷ t) d ∙ ap suc (p (omega (arith, q, dot_later b s d)))) s

-- ---- the two parts

pub dot_has : (t : List ℕ) → has_dot t ≡ true → first_dot t < length t
dot_has t h = ltb-true (first_dot t) (length t) h

pub has_dot_lem : (t : List ℕ) → first_dot t < length t → has_dot t ≡ true
has_dot_lem t h = lt-ltb (first_dot t) (length t) h

pub has_no_dot : (t : List ℕ) → first_dot t ≡ length t → has_dot t ≡ false
has_no_dot t e = le-ltb (first_dot t) (length t) (omega arith)

pub dot_split : (t : List ℕ) → has_dot t ≡ true → t ≡ before_dot t ++ dot ∷ after_dot t
unfolding before_dot after_dot
dot_split t h =
    split_at t (first_dot t) 0 (dot_has t h) ∙ ap (λ (b : ℕ). take (first_dot t) t ++ b ∷ drop (suc (first_dot t)) t) (dot_there t (dot_has t h))

pub length_before : (t : List ℕ) → length (before_dot t) ≡ first_dot t
unfolding before_dot
length_before t = length-take-le (first_dot t) t (dot_within t)

-- what stands before the first dot has none
pub before-none : (t : List ℕ) → first_dot (before_dot t) ≡ length (before_dot t)
unfolding first_dot before_dot
before-none =
    by_byte (λ t. first_dot (take (first_dot t) t) ≡ length (take (first_dot t) t)) refl (λ b t e. rw (dot_here b t e))
    (λ b t d p. rw (dot_later b t d) (dot_later b (take (first_dot t) t) d ∙ ap suc p))

-- ---- a search

-- the place is that of the first byte that is a dot
first_dot_is : (t : List ℕ) → first_dot t ≡ position_or_len (λ b. eqb b dot) t
unfolding first_dot
first_dot_is = is_position_or_len first_dot (λ b. eqb b dot) refl (λ b t. rw one-add)

pub dot_or_end : (t : List ℕ) (r : Option ℕ) → r ≡ position (λ b. eqb b dot) t → unwrap_or r (length t) ≡ first_dot t
dot_or_end t r e = rw (e, ← first_dot_is t) (by (ltb (first_dot t) (length t)) refl)
  where
    by : (b : Bool) → ltb (first_dot t) (length t) ≡ b → unwrap_or (cond b (Some (first_dot t)) None) (length t) ≡ first_dot t
    by true p = refl
    by false p = omega (arith, ltb-false (first_dot t) (length t) p, dot_within t)
