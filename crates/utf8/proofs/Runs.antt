-- Laws of texts that are one piece after the other: what a loop sees that goes from piece to piece.
use Prim.Native.Nat.{ℕ, zero, suc, ◌+◌, ◌≤◌, ◌<◌}
use mathlib.Core.Path.{◌≡◌, refl, sym, ap, ◌∙◌}
use mathlib.Core.List.{List, [], ◌∷◌}
use mathlib.Core.Bool.{true, false}
use native.Mathlib.Omega.{arith}
use lib.ListN.{length, drop, get_or, length-drop, drop_of_length-le}
use lib.Seq.{drop-cons, drop-drop}
use Rattle.utf8.specs.Runs.{run_from, is_run, Passes, Advances}

module _ (front : List ℕ → ℕ) where
  pub run_nil : is_run front [] ≡ true
  unfolding is_run run_from
  run_nil = refl

  -- the rest of a piece
  pub run_rest : (k : ℕ) (t : List ℕ) → k ≤ length t → run_from front t k ≡ is_run front (drop k t)
  unfolding is_run run_from
  run_rest zero t h = refl
  run_rest (suc k) [] h = absurd (omega arith)
  run_rest (suc k) (b ∷ t) h = run_rest k t (omega arith)

  -- one piece
  pub run_cons : (k b : ℕ) (t : List ℕ) → front (b ∷ t) ≡ suc k → k ≤ length t → is_run front (b ∷ t) ≡ is_run front (drop k t)
  unfolding is_run run_from
  run_cons k b t e h = rw e (run_rest k t h)

  -- no piece
  pub run_none : (b : ℕ) (t : List ℕ) → front (b ∷ t) ≡ 0 → is_run front (b ∷ t) ≡ false
  unfolding is_run run_from
  run_none b t e = rw e

  -- the same at an index
  pub run_next : (s : List ℕ) (i k : ℕ) → i < length s → k ≡ front (drop i s) → (k ≡ 0 → ⊥) → i + k ≤ length s → is_run front (drop i s) ≡ is_run front (drop (i + k) s)
  run_next s i zero h e d l = absurd (d refl)
  run_next s i (suc k) h e d l =
      rw (drop-cons s i 0)
      (run_cons k (get_or s i 0) (drop (suc i) s) (sym (rw (drop-cons s i 0) at e)) (simp length-drop (omega arith))
      ∙ ap (is_run front) (drop-drop k (suc i) s ∙ ap (λ (n : ℕ). drop n s) {x = suc i + k} {y = i + suc k} (omega arith)))

  pub run_stop : (s : List ℕ) (i k : ℕ) → i < length s → k ≡ front (drop i s) → k ≡ 0 → is_run front (drop i s) ≡ false
  run_stop s i k h e z = rw (drop-cons s i 0) (run_none (get_or s i 0) (drop (suc i) s) (sym (rw (drop-cons s i 0) at e) ∙ z))

  pub run_end : (s : List ℕ) (i : ℕ) → length s ≤ i → is_run front (drop i s) ≡ true
  run_end s i h = rw (drop_of_length-le s h) run_nil

-- a piece ends in the text
pub piece_end : (front : List ℕ → ℕ) → ((t : List ℕ) → front t ≤ length t) → (s : List ℕ) (i k : ℕ) → i < length s → k ≡ front (drop i s) → i + k ≤ length s
piece_end front within s i k h e = omega (arith, within (drop i s), length-drop i s)

-- ---- whole pieces between two indexes

module _ {front : List ℕ → ℕ} {s : List ℕ} where
  pub passes_none : (i : ℕ) → i ≤ length s → Passes front s i i
  passes_none i h = record { from = omega arith; to = h; same = refl }

  pub passes-next : {i e : ℕ} (k : ℕ) → Passes front s i e → e < length s → k ≡ front (drop e s) → (k ≡ 0 → ⊥) → e + k ≤ length s → Passes front s i (e + k)
  passes-next {i} {e} k p h q d l = record { from = omega arith; to = l; same = p.same ∙ run_next front s e k h q d l }

  -- a piece is missing at e
  pub advances_not : {i e : ℕ} (k : ℕ) → Passes front s i e → e < length s → k ≡ front (drop e s) → k ≡ 0 → Advances front s i i
  advances_not {i} {e} k p h q z = record { passes = passes_none i (omega arith); stays = λ r. p.same ∙ run_stop front s e k h q z }

  -- pieces from the start to the end
  pub run_all : {e : ℕ} → Passes front s 0 e → length s ≤ e → true ≡ is_run front s
  run_all {e} p h = sym (p.same ∙ run_end front s e h)

  -- pieces from the start to where one is missing
  pub run_not : {i e : ℕ} → Passes front s 0 i → Advances front s i e → e ≡ i → false ≡ is_run front s
  run_not p q z = sym (p.same ∙ q.stays z)
