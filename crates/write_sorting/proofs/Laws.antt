-- A merge of two sorted lists is the sort of the two; a list in order is its own sort; the order of texts is one to sort by.
use Prim.Native.Nat.{ℕ, ◌<◌}
use mathlib.Core.Path.{◌≡◌, refl, sym, ap}
use mathlib.Core.List.{List, [], ◌∷◌, ◌++◌}
use mathlib.Core.Bool.{Bool, true, false, cond, false≢true}
use native.Mathlib.Omega.{arith}
use lib.ListN.{length}
use Rattle.laws.specs.Sorted.{insert, isort}
use Rattle.texts.proofs.Text.{before_self, before-trans, before-apart}
use Rattle.texts.specs.Text.{by_key}
use Rattle.draft.specs.declared.layout.Layout.{Layout}
use Rattle.write_text_keys.specs.Keys.{key_of}
use Rattle.write_sorting.specs.Sorted.{merge_with, merge, Strict, right_first}

-- the two cases of a test, each with its equation
pub cases : {P : Type 0} (t : Bool) → (t ≡ true → P) → (t ≡ false → P) → P
cases true f g = f refl
cases false f g = g refl

pub differ : {P : Type 0} → ◌≡◌ {A = Bool} true false → P
differ e = absurd (false≢true (sym e))

-- keys in text order are an order to sort by
pub key_strict : (key : ℕ → List ℕ) → Strict (by_key key)
key_strict key =
    record {
      self = λ a. before_self (key a);
      trans = λ a b c. before-trans (key a) (key b) (key c);
      apart = λ a b c. before-apart (key a) (key b) (key c);
    }

-- the order of the texts that tables say
abbrev pub by_tables : ℕ → List ℕ → List ℕ → Layout → List ℕ → ℕ → ℕ → Bool
by_tables version nodes strings l tables = by_key (key_of version nodes strings l.texts l.paths l.lengths tables)

pub tables_strict : (version : ℕ) (nodes strings : List ℕ) (l : Layout) (tables : List ℕ) → Strict (by_tables version nodes strings l tables)
tables_strict version nodes strings l tables = key_strict (key_of version nodes strings l.texts l.paths l.lengths tables)

-- ---- the steps of a merge

pub merge_step : (lt : ℕ → ℕ → Bool) (x : ℕ) (xs : List ℕ) (y : ℕ) (ys : List ℕ)
    → merge lt (x ∷ xs) (y ∷ ys) ≡ cond (lt y x) (y ∷ merge lt (x ∷ xs) ys) (x ∷ merge lt xs (y ∷ ys))
unfolding merge merge_with
merge_step lt x xs y ys = refl

pub merge_nil : (lt : ℕ → ℕ → Bool) (xs : List ℕ) → merge lt xs [] ≡ xs
unfolding merge merge_with
merge_nil lt [] = refl
merge_nil lt (x ∷ xs) = ap (λ (l : List ℕ). x ∷ l) (merge_nil lt xs)

pub first-right : (lt : ℕ → ℕ → Bool) (xs : List ℕ) (y : ℕ) (ys : List ℕ) → right_first lt xs (y ∷ ys) ≡ true → merge lt xs (y ∷ ys) ≡ y ∷ merge lt xs ys
unfolding right_first merge
first-right lt [] y ys e = refl
first-right lt (x ∷ xs) y ys e = rw (merge_step, e)

pub first-left : (lt : ℕ → ℕ → Bool) (x : ℕ) (xs ys : List ℕ) → right_first lt (x ∷ xs) ys ≡ false → merge lt (x ∷ xs) ys ≡ x ∷ merge lt xs ys
unfolding right_first merge merge_with
first-left lt x xs [] e = refl
first-left lt x xs (y ∷ ys) e = rw e

-- ---- a merge sorts

pub isort-short : (lt : ℕ → ℕ → Bool) (l : List ℕ) → length l < 2 → isort lt l ≡ l
unfolding isort insert
isort-short lt [] h = refl
isort-short lt (x ∷ []) h = refl
isort-short lt (x ∷ y ∷ l) h = absurd (omega arith)

module _ (lt : ℕ → ℕ → Bool) (S : Strict lt) where
  ins_nil : (x : ℕ) (b : List ℕ) → insert lt x b ≡ merge lt (x ∷ []) b
  unfolding merge merge_with insert
  ins_nil x [] = refl
  ins_nil x (y ∷ ys) = cases (lt y x) (λ e. rw (e, ins_nil x ys)) (λ e. rw e)

  ins_step : (x a : ℕ) (xs : List ℕ) → ((b : List ℕ) → insert lt x (merge lt xs b) ≡ merge lt (insert lt x xs) b)
      → (b : List ℕ) → insert lt x (merge lt (a ∷ xs) b) ≡ merge lt (insert lt x (a ∷ xs)) b
  unfolding merge merge_with insert
  ins_step x a xs ih [] = cases (lt a x) (λ e. rw (e, ih [])) (λ e. rw e)
  ins_step x a xs ih (y ∷ ys) =
      let more = ins_step x a xs ih ys in
      cases (lt a x)
      (λ e. cases (lt y a)
      (λ f. let g : lt y x ≡ true = S.trans y a x f e in simp (e, f, g) (ap (λ (l : List ℕ). y ∷ l) (simp e at more)))
      (λ f. simp (e, f) (ap (λ (l : List ℕ). a ∷ l) (ih (y ∷ ys)))))
      (λ e. cases (lt y x)
      (λ f. let g : lt y a ≡ true = S.apart y x a f e in simp (e, f, g) (ap (λ (l : List ℕ). y ∷ l) (simp e at more)))
      (λ f. cases (lt y a) (λ g. simp (e, f, g)) (λ g. simp (e, f, g))))

  -- what is inserted into a merge may as well be inserted into its left list
  pub insert-merge : (x : ℕ) (a b : List ℕ) → insert lt x (merge lt a b) ≡ merge lt (insert lt x a) b
  unfolding merge insert
  insert-merge x [] b = ins_nil x b
  insert-merge x (a ∷ xs) b = ins_step x a xs (insert-merge x xs) b

  pub sort_append : (a b : List ℕ) → isort lt (a ++ b) ≡ merge lt (isort lt a) (isort lt b)
  unfolding isort merge
  sort_append [] b = refl
  sort_append (x ∷ a) b = rw (sort_append a b, insert-merge x)
