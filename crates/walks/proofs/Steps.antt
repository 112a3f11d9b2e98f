-- Laws of walks, by the tests that the code makes: a step, the loop over components, where a walk starts.
use Rattle.std.specs.Prelude.{None, Option, Some, ℕ}
use Prim.Native.Nat.{ℕ, ◌+◌, ◌-◌, ◌≤◌, ◌<◌, min}
use native.Mathlib.Decide.{dec_lt}
use Rattle.laws.proofs.Lists.{to_end}
use mathlib.Core.Path.{◌≡◌, refl, sym, ap, ◌∙◌}
use mathlib.Core.List.{List, [], ◌∷◌}
use mathlib.Core.Bool.{Bool, true, false, not}
use native.Mathlib.Omega.{arith}
use native.Mathlib.Nat.{add-sub_cancel_left}
use lib.ListN.{length, get_or, take, drop, drop_of_length-le}
use borrow.Author.Tests.{eq-eqb, ne_eqb, le-leb, lt-leb, not-true, not-false}
use Rattle.laws.proofs.Flags.{and-false}
use Rattle.words.specs.Words.{NONE}
use Rattle.image.specs.declared.NodeRecord.{NodeRecord}
use Rattle.image.specs.Sections.{Sections, parent_of, tag_of, part_at, inside}
use Rattle.views.specs.Found.{node_found}
use Rattle.views.specs.Children.{child_query}
use Rattle.lookups.specs.Lookup.{find_named}
use Rattle.views.proofs.Reading.{no_node, a_node}
use Rattle.walks.specs.Walk.{Component, Broken, component, components, parent_query, step, steps, resolve}

-- ---- a step up

module _ (s : Sections) (i : ℕ) (r : Option NodeRecord) (e : r ≡ node_found s i) where
  pub parent-missing : r ≡ None → None ≡ parent_query s i
  unfolding parent_query
  parent-missing h = rw (no_node s i r e h)

  module _ (x : NodeRecord) (h : r ≡ Some x) where
    same-parent : x.parent ≡ parent_of s i
    same-parent = ap (λ (y : NodeRecord). y.parent) (a_node s i r e x h).1

    pub parent-none : x.parent ≡ NONE → None ≡ parent_query s i
    unfolding parent_query
    parent-none n = rw (eq-eqb (parent_of s i) NONE (sym same-parent ∙ n), and-false (inside s i))

    pub parent-there : (x.parent ≡ NONE → ⊥) → Some x.parent ≡ parent_query s i
    unfolding parent_query
    parent-there d = rw ((a_node s i r e x h).0, ne_eqb (parent_of s i) NONE (λ q. d (same-parent ∙ q))) (ap Some same-parent)

-- ---- a step along a component, by its kind

module _ (s : Sections) (i : ℕ) (names : List ℕ) (a b : ℕ) where
  at_kind : (k kind : ℕ) → kind ≡ k → (r : Option ℕ) → r ≡ step s i (component names k a b) → r ≡ step s i (component names kind a b)
  at_kind k kind e r h = h ∙ ap (λ (n : ℕ). step s i (component names n a b)) (sym e)

  pub step-parent : (kind : ℕ) → kind ≡ 0 → (r : Option ℕ) → r ≡ parent_query s i → r ≡ step s i (component names kind a b)
  unfolding component step
  step-parent kind e r h = at_kind 0 kind e r h

  pub step-index : (kind : ℕ) → kind ≡ 1 → (r : Option ℕ) → r ≡ child_query s i a → r ≡ step s i (component names kind a b)
  unfolding component step
  step-index kind e r h = at_kind 1 kind e r h

  pub step-name : (kind : ℕ) → kind ≡ 2 → (r : Option ℕ) → r ≡ step s i (component names 2 a b) → r ≡ step s i (component names kind a b)
  step-name kind e r h = at_kind 2 kind e r h

  pub step-broken : (kind : ℕ) → (kind ≡ 0 → ⊥) → (kind ≡ 1 → ⊥) → (kind ≡ 2 → ⊥) → None ≡ step s i (component names kind a b)
  unfolding component step
  step-broken kind p q r = rw (ne_eqb kind 0 p, ne_eqb kind 1 q, ne_eqb kind 2 r)

  -- the name lies in the lent names, or not
  pub name-inside : a + b ≤ length names → (r : Option ℕ) → r ≡ find_named s i (take (a + b - a) (drop a names)) → r ≡ step s i (component names 2 a b)
  unfolding component step part_at
  name-inside h r g = rw (le-leb (a + b) (length names) h) (rw (add-sub_cancel_left a b) at g)

  pub name-outside : length names < a + b → None ≡ step s i (component names 2 a b)
  unfolding component step
  name-outside h = rw (lt-leb (a + b) (length names) h)

-- ---- the loop over components

-- what was not found stays so
lost : (s : Sections) (cs : List Component) → steps s None cs ≡ None
unfolding steps
lost s [] = refl
lost s (c ∷ cs) = lost s cs

-- fewer than three words are a broken component
short : (names xs : List ℕ) → 0 < length xs → length xs < 3 → components names xs ≡ Broken ∷ []
unfolding components
short names [] h l = absurd (omega arith)
short names (x ∷ []) h l = refl
short names (x ∷ y ∷ []) h l = refl
short names (x ∷ y ∷ z ∷ xs) h l = absurd (omega arith)

-- a skipped component is not read
skipped : (names xs : List ℕ) → components names (drop 3 xs) ≡ drop 1 (components names xs)
unfolding components
skipped names [] = refl
skipped names (x ∷ []) = refl
skipped names (x ∷ y ∷ []) = refl
skipped names (x ∷ y ∷ z ∷ xs) = refl

-- what the loop keeps: the walk from `at` along the words that are left is all that is left
abbrev pub Along : Sections → List ℕ → List ℕ → ℕ → ℕ → List ℕ → Type 0
Along s names path from at left = steps s (Some from) (components names path) ≡ steps s (Some at) (components names left)

module _ (s : Sections) (names path : List ℕ) (from at : ℕ) where
  pub along_end : (left : List ℕ) → length left ≡ 0 → Along s names path from at left → Some at ≡ steps s (Some from) (components names path)
  unfolding steps components
  along_end [] h w = sym w
  along_end (x ∷ left) h w = absurd (omega arith)

  pub along-broken : (left : List ℕ) → (length left ≡ 0 → ⊥) → length left < 3 → Along s names path from at left → None ≡ steps s (Some from) (components names path)
  unfolding steps step
  along-broken left h l w = sym (w ∙ ap (steps s (Some at)) (short names left (omega arith) l))

  -- three words are there, and a rest
  module _ (left rest : List ℕ) (l : 3 ≤ length left) (e : rest ≡ drop 3 left) (w : Along s names path from at left)
      (r : Option ℕ) (q : r ≡ step s at (component names (get_or left 0 0) (get_or left 1 0) (get_or left 2 0))) where
    stepped : steps s (Some from) (components names path) ≡ steps s r (components names rest)
    unfolding steps components
    stepped = w ∙ rw (q, e) (by left l)
      where
        by : (xs : List ℕ) → 3 ≤ length xs
            → steps s (Some at) (components names xs) ≡ steps s (step s at (component names (get_or xs 0 0) (get_or xs 1 0) (get_or xs 2 0))) (components names (drop 3 xs))
        by [] h = absurd (omega arith)
        by (x ∷ []) h = absurd (omega arith)
        by (x ∷ y ∷ []) h = absurd (omega arith)
        by (x ∷ y ∷ z ∷ xs) h = refl

    pub along-lost : r ≡ None → None ≡ steps s (Some from) (components names path)
    along-lost h = sym (stepped ∙ ap (λ (x : Option ℕ). steps s x (components names rest)) h ∙ lost s (components names rest))

    pub along-next : (next : ℕ) → r ≡ Some next → Along s names path from next rest
    along-next next h = stepped ∙ ap (λ (x : Option ℕ). steps s x (components names rest)) h

-- ---- where a walk starts

-- the words behind those that are skipped, of which there may be fewer
pub words_behind : (path : List ℕ) (skip n : ℕ) → n ≡ min (length path) skip → take (length path - n) (drop n path) ≡ drop skip path
words_behind path skip n e = to_end n path ∙ by (dec_lt (length path) skip)
  where
    by : Dec (length path < skip) → drop n path ≡ drop skip path
    by (yes l) = drop_of_length-le path {i = n} (omega arith) ∙ sym (drop_of_length-le path {i = skip} (omega arith))
    by (no l) = let z : n ≡ skip = omega arith in ap (λ k. drop k path) z

module _ (s : Sections) (i : ℕ) (relative : Bool) (names path : List ℕ) (a : Option ℕ) where
  pub absolute : not relative ≡ true → a ≡ steps s (Some 0) (components names path) → a ≡ resolve s relative i (components names path)
  unfolding resolve
  absolute n h = rw (not-true relative n) h

  module _ (y : not relative ≡ false) (r : Option NodeRecord) (e : r ≡ node_found s i) where
    pub origin-missing : r ≡ None → a ≡ None → a ≡ resolve s relative i (components names path)
    unfolding resolve
    origin-missing h q = rw (not-false relative y, no_node s i r e h) q

    module _ (x : NodeRecord) (h : r ≡ Some x) where
      same_tag : x.tag ≡ tag_of s i
      same_tag = ap (λ (z : NodeRecord). z.tag) (a_node s i r e x h).1

      pub from-container : x.tag ≡ 1 → a ≡ steps s (Some i) (components names path) → a ≡ resolve s relative i (components names path)
      unfolding resolve
      from-container t g = rw (not-false relative y, (a_node s i r e x h).0, eq-eqb (tag_of s i) 1 (sym same_tag ∙ t)) g

      module _ (t : x.tag ≡ 1 → ⊥) where
        pub from-root : x.parent ≡ NONE → a ≡ None → a ≡ resolve s relative i (components names path)
        unfolding resolve
        from-root n g =
            rw (not-false relative y, (a_node s i r e x h).0, ne_eqb (tag_of s i) 1 (λ q. t (same_tag ∙ q)), ← parent-none s i r e x h n)
            (g ∙ sym (lost s (drop 1 (components names path))))

        pub from-leaf : (x.parent ≡ NONE → ⊥) → a ≡ steps s (Some x.parent) (components names (drop 3 path)) → a ≡ resolve s relative i (components names path)
        unfolding resolve
        from-leaf d g =
            rw (not-false relative y, (a_node s i r e x h).0, ne_eqb (tag_of s i) 1 (λ q. t (same_tag ∙ q)), ← parent-there s i r e x h d)
            (g ∙ ap (steps s (Some x.parent)) (skipped names path))
