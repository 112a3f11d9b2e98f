-- Slices that are lent for results: what is written at their start, and what a refusal leaves.
use Rattle.std.specs.Prelude.{None, Option, Some}
use Prim.Native.Nat.{ℕ, zero, suc, ◌≤◌, ◌<◌}
use mathlib.Core.Path.{◌≡◌, refl, sym, ap, ◌∙◌}
use mathlib.Core.List.{List, [], ◌∷◌, ◌++◌}
use native.Mathlib.Nat.{not-suc-le-zero}
use lib.ListN.{length, set, drop}
use borrow.Author.Tests.{le-leb, lt-leb}
use Rattle.answers.specs.Lent.{written_after, spelled_number, text_or, Spelled}

-- ---- words, and the first word

pub words_put : (ws vs xs now : List ℕ) → ws ≡ vs → now ≡ ws ++ drop (length ws) xs → now ≡ written_after 0 vs xs
unfolding written_after
words_put ws vs xs now e h = h ∙ ap (λ (l : List ℕ). l ++ drop (length l) xs) e

pub words_left : (r : ℕ) (ws xs : List ℕ) → (r ≡ 0 → ⊥) → xs ≡ written_after r ws xs
unfolding written_after
words_left zero ws xs d = absurd (d refl)
words_left (suc r) ws xs d = refl

pub first-set : (xs : List ℕ) (n : ℕ) → 1 ≤ length xs → set xs 0 n ≡ n ∷ drop 1 xs
first-set [] n h = absurd (not-suc-le-zero h)
first-set (x ∷ xs) n h = refl

-- ---- a text and its length

pub unspelled : (o : Option (List ℕ)) (text size : List ℕ) → o ≡ None → Spelled o text text size size 18
unfolding written_after
unspelled o text size e = record { number = sym (ap (λ (p : Option (List ℕ)). spelled_number p (length text) (length size)) e); spelling = refl; size = refl }

module _ (t text size : List ℕ) where
  pub no_size : length size < 1 → Spelled (Some t) text text size size 23
  unfolding written_after
  no_size h = record { number = rw (lt-leb 1 (length size) h); spelling = refl; size = refl }

  pub no_room : 1 ≤ length size → length text < length t → Spelled (Some t) text text size size 23
  unfolding written_after
  no_room k h = record { number = rw (le-leb 1 (length size) k, lt-leb (length t) (length text) h); spelling = refl; size = refl }

  pub roomy : 1 ≤ length size → length t ≤ length text → (now : List ℕ) (n : ℕ) → now ≡ t ++ drop (length t) text → n ≡ length t
      → Spelled (Some t) text now size (set size 0 n) 0
  unfolding written_after
  roomy k h now n e q =
      record {
        number = rw (le-leb 1 (length size) k, le-leb (length t) (length text) h);
        spelling = e;
        size = first-set size n k ∙ ap (λ (m : ℕ). m ∷ drop 1 size) q;
      }

-- a text that equals another is spelled as it
pub spelled_as : (p o : Option (List ℕ)) (text now size long : List ℕ) (r : ℕ) → p ≡ o → Spelled p text now size long r → Spelled o text now size long r
spelled_as p o text now size long r e h =
    record {
      number = h.number ∙ ap (λ (q : Option (List ℕ)). spelled_number q (length text) (length size)) e;
      spelling = h.spelling ∙ ap (λ (q : Option (List ℕ)). written_after r (text_or q) text) e;
      size = h.size ∙ ap (λ (q : Option (List ℕ)). written_after r (length (text_or q) ∷ []) size) e;
    }
