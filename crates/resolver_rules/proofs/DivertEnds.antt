-- Where a divert's path ends: behind 21 a name and a step up lead to containers only, so a container is there wherever one is due.
use Rattle.std.specs.Prelude.{None, Option, Some, ℕ}
use Prim.Native.Nat.{ℕ, zero, suc, ◌+◌, ◌-◌, ◌*◌, ◌≤◌, ◌<◌}
use mathlib.Core.Path.{◌≡◌, refl, sym, ap, ◌∙◌}
use mathlib.Core.Logic.{◌≢◌, inl, inr}
use mathlib.Core.List.{List, [], ◌∷◌}
use mathlib.Core.Bool.{Bool, true, false, cond, ◌&&◌, not, true≢false}
use native.Mathlib.Omega.{arith}
use native.Mathlib.Decide.{ℕ_discrete}
use lib.ListN.{length, get_or, take, drop, length-drop}
use lib.Seq.{get_or-take, get_or-drop, length-take-le}
use lib.Dec.{leb, eqb}
use borrow.Author.Tests.{eqb-false, ne_eqb, not-true}
use Rattle.laws.proofs.Flags.{both_true}
use Rattle.words.specs.Words.{NONE, is_none}
use Rattle.image.specs.Sections.{Sections, node_count, named_count, parent_of, tag_of, f, named_word, part_at, inside, is_container, inside_container}
use Rattle.image.specs.Tags.{container_tag, divert_tag}
use Rattle.records.specs.Records.{number_of_named}
use Rattle.records.proofs.PassedRules.{node_of_lem}
use Rattle.tree.specs.Tree.{named_at}
use Rattle.draft.specs.PathList.{path_word}
use Rattle.lookups.specs.Lookup.{entry_text, searched, found_at, named_by, find_named}
use Rattle.lookups.proofs.HalvingSearch.{found-there}
use Rattle.walks.specs.Walk.{Component, Parent, Index, Name, Broken, index_kind, component, components, parent_query, step, step_from, steps, resolve}
use Rattle.walks.proofs.WalkEnds.{node-equal, nothing, found_if}
use Rattle.written.specs.DraftRules.{ShapeRight}
use Rattle.target_finding.specs.Targets.{PathList, path_components, path_end}
use Rattle.resolver_rules.specs.ResolverRules.{ListRight, Follows, EndsInIndex, ContainerDue, NeverOfDivert}

-- ---- a path whose last component is no index

abbrev NoIndex : Component → Type 0
NoIndex Parent = Unit {0}
NoIndex (Index j) = ⊥
NoIndex (Name t) = Unit {0}
NoIndex Broken = Unit {0}

abbrev LastOther : List Component → Type 0
LastOther [] = Unit {0}
LastOther (c ∷ []) = NoIndex c
LastOther (c ∷ d ∷ cs) = LastOther (d ∷ cs)

skip-other : (cs : List Component) → LastOther cs → LastOther (drop 1 cs)
skip-other [] l = tt
skip-other (c ∷ []) l = tt
skip-other (c ∷ d ∷ cs) l = l

no_index : (names : List ℕ) (kind a b : ℕ) → kind ≢ index_kind → NoIndex (component names kind a b)
unfolding component
no_index names kind a b d = by (eqb kind 0) (eqb kind 1) (ne_eqb kind 1 d) (eqb kind 2 && leb (a + b) (length names))
  where
    by : (x y : Bool) → y ≡ false → (z : Bool) → NoIndex (cond x Parent (cond y (Index a) (cond z (Name (part_at names a b)) Broken)))
    by true y e z = tt
    by false true e z = absurd (let q : ◌≡◌ {A = Bool} true false = e in true≢false q)
    by false false e true = tt
    by false false e false = tt

last-other : (names : List ℕ) (n : ℕ) (ws : List ℕ) → length ws ≡ 3 * n → (0 < n → get_or ws (3 * (n - 1)) 0 ≢ index_kind) → LastOther (components names ws)
unfolding components
last-other names n [] e h = tt
last-other names n (x ∷ []) e h = absurd (omega arith)
last-other names n (x ∷ y ∷ []) e h = absurd (omega arith)
last-other names zero (x ∷ y ∷ z ∷ ws) e h = absurd (omega arith)
last-other names (suc n) (x ∷ y ∷ z ∷ []) e h = no_index names x y z (λ q. h (omega arith) (rw (first n (omega arith)) q))
  where
    first : (m : ℕ) → m ≡ 0 → 3 * (suc m - 1) ≡ 0
    first m e = omega arith
last-other names (suc n) (x ∷ y ∷ z ∷ v ∷ []) e h = absurd (omega arith)
last-other names (suc n) (x ∷ y ∷ z ∷ v ∷ w ∷ []) e h = absurd (omega arith)
last-other names (suc n) (x ∷ y ∷ z ∷ v ∷ w ∷ u ∷ ws) e h = last-other names n (v ∷ w ∷ u ∷ ws) (omega arith) further
  where
    further : 0 < n → get_or (v ∷ w ∷ u ∷ ws) (3 * (n - 1)) 0 ≢ index_kind
    further l q = h (omega arith) (ap (λ (m : ℕ). get_or (x ∷ y ∷ z ∷ v ∷ w ∷ u ∷ ws) m 0) (shift n l) ∙ q)
      where
        shift : (m : ℕ) → 0 < m → 3 * (suc m - 1) ≡ suc (suc (suc (3 * (m - 1))))
        shift m l = omega arith

-- of lent words, so many components from the first on
part-other : (names lent : List ℕ) (first count : ℕ) → 3 * (first + count) ≤ length lent → (0 < count → get_or lent (3 * (first + count - 1)) 0 ≢ index_kind)
    → LastOther (components names (part_at lent (3 * first) (3 * count)))
unfolding part_at
part-other names lent first count few d = last-other names count (take (3 * count) (drop (3 * first) lent)) long last
  where
    long : length (take (3 * count) (drop (3 * first) lent)) ≡ 3 * count
    long = length-take-le (3 * count) (drop (3 * first) lent) (simp length-drop (omega arith))

    place : 0 < count → 3 * (first + count - 1) ≡ 3 * first + 3 * (count - 1)
    place l = omega arith

    last : 0 < count → get_or (take (3 * count) (drop (3 * first) lent)) (3 * (count - 1)) 0 ≢ index_kind
    last l q =
        d l
        (ap (λ (n : ℕ). get_or lent n 0) (place l)
        ∙ sym (get_or-take (3 * count) (drop (3 * first) lent) (3 * (count - 1)) 0 (omega arith) ∙ get_or-drop (3 * first) lent (3 * (count - 1)) 0) ∙ q)

-- ---- steps to containers, by rule 21

module _ (s : Sections) (t : ShapeRight s) where
  -- what is found is a container
  abbrev InContainer : Option ℕ → Type 0
  InContainer r = (n : ℕ) → r ≡ Some n → tag_of s n ≡ container_tag

  at_container : (i : ℕ) → tag_of s i ≡ container_tag → InContainer (Some i)
  at_container i e n h = ap (tag_of s) (sym (node-equal i n h)) ∙ e

  parent-container : (i : ℕ) → InContainer (parent_query s i)
  unfolding parent_query
  parent-container i n h =
      let q = found_if (inside s i && not (is_none (parent_of s i))) (Some (parent_of s i)) n h in
      let b = both_true (inside s i) (not (is_none (parent_of s i))) q.0 in
      let Some = eqb-false (parent_of s i) NONE (not-true (is_none (parent_of s i)) b.1) in
      at_container (parent_of s i) (by (ℕ_discrete i 0) (node_of_lem s i b.0).below Some) n q.1
    where
      by : Dec (i ≡ 0) → i < node_count s → parent_of s i ≢ NONE → tag_of s (parent_of s i) ≡ container_tag
      by (yes e) l d = absurd (d (ap (parent_of s) e ∙ t.root-parent))
      by (no e) l d = (t.parents i l (omega arith)).container.container

  named-container : (i : ℕ) (name : List ℕ) → InContainer (find_named s i name)
  unfolding find_named named_by searched named_word number_of_named
  named-container i name n h =
      let q = found_if (inside_container s i) (named_by s.named s.strings (f s i 5) (f s i 6) name) n h in
      let b = both_true (inside s i) (is_container s i) q.0 in
      let r = found_if (leb (f s i 5 + f s i 6) (named_count s)) (found_at (λ j. named_at s i j 2) (searched s.named s.strings (f s i 5) (f s i 6) name)) n q.1 in
      by (searched s.named s.strings (f s i 5) (f s i 6) name) refl b.1 (node_of_lem s i b.0).below r.1
    where
      by : (x : Option ℕ) → searched s.named s.strings (f s i 5) (f s i 6) name ≡ x → is_container s i ≡ true → i < node_count s
          → found_at (λ j. named_at s i j 2) x ≡ Some n → tag_of s n ≡ container_tag
      by None e c l q = absurd (nothing n q)
      by (Some j) e c l q =
          let below = (found-there (λ y. entry_text s.named s.strings (f s i 5 + y)) name (f s i 6) 0 (f s i 6) j e).below in
          at_container (named_at s i j 2) (t.entry i l j (rw c below)).container.container n q

  step-container : (i : ℕ) (c : Component) → NoIndex c → InContainer (step s i c)
  unfolding step
  step-container i Parent l n h = parent-container i n h
  step-container i (Index j) l n h = absurd l
  step-container i (Name name) l n h = named-container i name n h
  step-container i Broken l n h = absurd (nothing n h)

  last-container : (at : Option ℕ) (c : Component) → NoIndex c → InContainer (step_from s at c)
  last-container None c l n h = absurd (nothing n h)
  last-container (Some i) c l n h = step-container i c l n h

  steps-last : (cs : List Component) (c : Component) → LastOther (c ∷ cs) → (at : Option ℕ) → InContainer (steps s at (c ∷ cs))
  unfolding steps
  steps-last [] c l at n h = last-container at c l n h
  steps-last (d ∷ cs) c l at n h = steps-last cs d l (step_from s at c) n h

  steps-container : (cs : List Component) → LastOther cs → (at : Option ℕ) → InContainer at → InContainer (steps s at cs)
  unfolding steps
  steps-container [] l at g n h = g n h
  steps-container (c ∷ cs) l at g n h = steps-last cs c l at n h

  -- a walk starts at a container: at the root, or from a node that is none at its parent
  walk-container : (relative : Bool) (origin : ℕ) → is_container s origin ≡ false → (cs : List Component) → LastOther cs → InContainer (resolve s relative origin cs)
  unfolding resolve
  walk-container false origin o cs l n h = steps-container cs l (Some 0) (at_container 0 t.root-container) n h
  walk-container true origin o cs l n h =
      let q = found_if (inside s origin) _ n (rw o at h) in
      steps-container (drop 1 cs) (skip-other cs l) (parent_query s origin) (parent-container origin) n q.1

  -- a divert's path of whole components ends in a container where one is due
  pub divert-container : (p : PathList) → ListRight s p → (i k : ℕ) → Follows s p i k → tag_of s i ≡ divert_tag → ContainerDue s p i k → InContainer (path_end s p i k)
  unfolding path_end path_components
  divert-container p r i k g e due n h =
      walk-container _ i (ne_eqb (tag_of s i) container_tag (λ q. omega (arith, sym e ∙ q)))
      (components p.names (path_components p k))
      (part-other p.names p.components (path_word p.entries k 2) (path_word p.entries k 3) (r.entry k g.listed).components
      (λ some last. other due (record { some = some; last = last }))) n h
    where
      other : ContainerDue s p i k → EndsInIndex p k → ⊥
      other (inl q) x = omega (arith, sym e ∙ q)
      other (inr (inl q)) x = omega (arith, sym e ∙ q)
      other (inr (inr q)) x = q.1 x

pub never_of_divert : NeverOfDivert
never_of_divert ink s p work d e =
    let q = d.fails in
    q.other (divert-container s d.tests.shape p d.tests.list d.node q.entry q.follows e q.due q.node q.end)
