-- Kinds that distinct names name in order: what a text or a number stands for.
use Rattle.std.specs.Prelude.{None, Option, Some, option_copied}
use Rattle.std.specs.Borrow.{Bor}
use Rattle.std.specs.Slice.{IsItemAt}
use Prim.Native.Nat.{ℕ, zero, suc, ◌+◌, ◌≤◌, ◌<◌}
use mathlib.Core.Path.{◌≡◌, refl, sym, ap, ◌∙◌}
use mathlib.Core.List.{List, [], ◌∷◌}
use mathlib.Core.Bool.{Bool, true, false, ◌&&◌, false≢true}
use native.Mathlib.Omega.{arith}
use native.Mathlib.Nat.{not-suc-le-zero, le_of_suc-le-suc}
use lib.Dec.{eqb}
use lib.ListN.{length, get_or}
use borrow.Author.Tests.{eqb-true}
use Rattle.laws.specs.Refusal.{unless, first_of}
use Rattle.laws.proofs.First.{passed, first_all}
use Rattle.names.specs.Names.{number_in}
use Rattle.names.specs.Spelling.{element_at, element_of, element_named}
use Rattle.names.proofs.Distinct.{distinct, number-placed, place-number}

-- one computed test, at each number below n
pub every : (n : ℕ) (f : ℕ → Bool) → first_of n (λ k. unless (f k) 1) ≡ 0 → (k : ℕ) → k < n → f k ≡ true
every n f p k h = passed (f k) 0 (first_all n (λ j. unless (f j) 1) p k h)

-- the name of a kind
abbrev pub name_in : {A : Type 0} → (A → ℕ) → List (List ℕ) → A → List ℕ
name_in number names a = get_or names (number a) []

-- the kinds have the numbers i, i + 1, ..
unfoldable pub in_order : {A : Type 0} → (A → ℕ) → ℕ → List A → Bool
in_order number i [] = true
in_order number i (x ∷ xs) = eqb (number x) i && in_order number (suc i) xs

pub record Numbered {A : Type 0} (number : A → ℕ) (kinds : List A) (names : List (List ℕ)) : Type 0 where
  pub told : (a : A) → element_at kinds (number a) ≡ Some a
  pub ordered : in_order number 0 kinds ≡ true
  pub counts : length kinds ≡ length names
  pub apart : distinct names ≡ true

in_order_lem : {A : Type 0} (number : A → ℕ) (xs : List A) (i k : ℕ) (a : A) → in_order number i xs ≡ true → element_at xs k ≡ Some a → number a ≡ i + k
unfolding in_order element_at
in_order_lem number [] i k a t p = absurd (let z : ◌≡◌ {A = ℕ} 0 1 = cc in omega arith)
in_order_lem number (x ∷ xs) i k a t p = by (eqb (number x) i) refl t k p (λ u j q. in_order_lem number xs (suc i) j a u q)
  where
    by : (b : Bool) → eqb (number x) i ≡ b → (b && in_order number (suc i) xs) ≡ true → (k : ℕ) → element_at (x ∷ xs) k ≡ Some a
        → (in_order number (suc i) xs ≡ true → (j : ℕ) → element_at xs j ≡ Some a → number a ≡ suc i + j) → number a ≡ i + k
    by false e u k q r = absurd (false≢true u)
    by true e u zero q r = let z : x ≡ a = cc in rw (← z) (omega (arith, eqb-true (number x) i e))
    by true e u (suc j) q r = let h = r u j q in omega arith

pub element_at_lem : {A : Type 0} (xs : List A) (k : ℕ) (a d : A) → element_at xs k ≡ Some a → get_or xs k d ≡ a
unfolding element_at
element_at_lem [] k a d p = absurd (let z : ◌≡◌ {A = ℕ} 0 1 = cc in omega arith)
element_at_lem (x ∷ xs) zero a d p = cc
element_at_lem (x ∷ xs) (suc k) a d p = element_at_lem xs k a d p

pub at_element : {A : Type 0} (xs : List A) (k : ℕ) (d : A) → k < length xs → element_at xs k ≡ Some (get_or xs k d)
unfolding element_at
at_element [] k d h = absurd (not-suc-le-zero h)
at_element (x ∷ xs) zero d h = refl
at_element (x ∷ xs) (suc k) d h = at_element xs k d (le_of_suc-le-suc h)

-- the same, of an element that was read there
found_element : {A : Type 0} (xs : List A) (k : ℕ) (a : A) → k < length xs → a ≡ get_or xs k a → Some a ≡ element_at xs k
found_element xs k a h e = ap Some e ∙ sym (at_element xs k a h)

pub past_element : {A : Type 0} (xs : List A) (k : ℕ) → length xs ≤ k → element_at xs k ≡ None
unfolding element_at
past_element [] k h = refl
past_element (x ∷ xs) zero h = absurd (not-suc-le-zero h)
past_element (x ∷ xs) (suc k) h = past_element xs k (le_of_suc-le-suc h)

-- what a slice's `get` lends is the element
pub looked_up : {A : Type 0} (xs : List A) (k : ℕ) (r : Option (Bor A)) → IsItemAt xs k r → option_copied r ≡ element_at xs k
looked_up xs k None h = sym (past_element xs k h.3)
looked_up xs k (Some x) h = found_element xs k x.now h.3.0 h.1

element_none : {A : Type 0} (xs : List A) (k : ℕ) → element_at xs k ≡ None → length xs ≤ k
unfolding element_at
element_none [] k p = omega arith
element_none (x ∷ xs) zero p = absurd (let z : ◌≡◌ {A = ℕ} 0 1 = cc in omega arith)
element_none (x ∷ xs) (suc k) p = let h = element_none xs k p in omega arith

pub element_below : {A : Type 0} (xs : List A) (k : ℕ) (a : A) → element_at xs k ≡ Some a → k < length xs
unfolding element_at
element_below [] k a p = absurd (let z : ◌≡◌ {A = ℕ} 0 1 = cc in omega arith)
element_below (x ∷ xs) zero a p = omega arith
element_below (x ∷ xs) (suc k) a p = let h = element_below xs k a p in omega arith

module _ {A : Type 0} {number : A → ℕ} {kinds : List A} {names : List (List ℕ)} (n : Numbered number kinds names) where
  -- a kind's number is below their count
  pub number-below : (a : A) → number a < length names
  number-below a = rw n.counts at (element_below kinds (number a) a (n.told a))

  -- no two kinds have one number
  pub number-once : (a b : A) → number a ≡ number b → a ≡ b
  number-once a b e = let p = n.told a in let q = n.told b in let s : element_at kinds (number a) ≡ element_at kinds (number b) = ap (element_at kinds) e in cc

  -- a kind's name has the kind's number
  pub name-number : (a : A) → number_in names (name_in number names a) ≡ Some (number a)
  name-number a = place-number names n.apart (number a) (number-below a)

  -- and names that kind
  pub name-names : (a : A) → element_named kinds names (name_in number names a) ≡ Some a
  unfolding element_named
  name-names a = rw (name-number a) (n.told a)

  -- no two kinds have one name
  pub name-once : (a b : A) → name_in number names a ≡ name_in number names b → a ≡ b
  name-once a b e = let p = name-names a in let q = name-names b in let s = ap (element_named kinds names) e in cc

  -- what names a kind has its number
  pub named-number : (t : List ℕ) (a : A) → element_named kinds names t ≡ Some a → number_in names t ≡ Some (number a)
  unfolding element_named
  named-number t a p = by (number_in names t) p
    where
      by : (o : Option ℕ) → element_of kinds o ≡ Some a → o ≡ Some (number a)
      by None q = absurd (let z : ◌≡◌ {A = ℕ} 0 1 = cc in omega arith)
      by (Some k) q = let e = in_order_lem number kinds 0 k a n.ordered q in ap Some (omega arith)

  -- and is its name
  pub named-text : (t : List ℕ) (a : A) → element_named kinds names t ≡ Some a → t ≡ name_in number names a
  named-text t a p = (number-placed names t (number a) (named-number t a p)).text

  -- what names no kind has no number
  pub unnamed-number : (t : List ℕ) → element_named kinds names t ≡ None → number_in names t ≡ None
  unfolding element_named
  unnamed-number t p = by (number_in names t) refl p
    where
      by : (o : Option ℕ) → number_in names t ≡ o → element_of kinds o ≡ None → o ≡ None
      by None e q = refl
      by (Some k) e q =
          let h = (number-placed names t k e).below in
          let l = element_none kinds k q in
          let c = n.counts in
          absurd (omega arith)

-- the answers by name, from those by number
pub named_yes : {A : Type 0} (kinds : List A) (names : List (List ℕ)) (t : List ℕ) (k : ℕ) (o : Option A) → Some k ≡ number_in names t → o ≡ element_at kinds k
    → o ≡ element_named kinds names t
unfolding element_named
named_yes kinds names t k o p q = rw (← p) q

pub named_no : {A : Type 0} (kinds : List A) (names : List (List ℕ)) (t : List ℕ) → None ≡ number_in names t → None ≡ element_named kinds names t
unfolding element_named
named_no kinds names t p = rw (← p)
