-- The numbering of a draft whose tables are right and whose nodes are all reached.
use Prim.Native.Nat.{ℕ, ◌<◌}
use mathlib.Core.Path.{◌≡◌, refl, sym, ap, ◌∙◌, subst}
use mathlib.Core.List.{List, [], ◌∷◌, ◌++◌, reverse, reverse-cons}
use mathlib.Core.Bool.{true}
use native.Mathlib.Omega.{arith}
use native.Mathlib.Decide.{dec_lt}
use lib.ListN.{length, length-reverse, get_or-append}
use lib.Seq.{get_or-append_seam}
use lib.Dec.{eqb}
use borrow.Author.Tests.{eq-eqb}
use Rattle.laws.specs.Lists.{has, place_in}
use Rattle.laws.proofs.First.{passed}
use Rattle.laws.proofs.Flags.{all_at}
use Rattle.laws.proofs.Places.{place_get}
use Rattle.image.specs.Sections.{Sections, node_count, parent_of, is_container}
use Rattle.tree.specs.Tree.{child_at, named_at, entries_rule, entry_nodes, turns, read_walk, all_seen}
use Rattle.laws.proofs.Members.{or_left, or_right, All, all_map, all_append, has_reverse}
use Rattle.tree.proofs.Entries.{entry-each, children-pass, named-pass, child-container, named-container}
use Rattle.tree.proofs.Numbers.{EachOnce, read-once, read-inside}
use Rattle.tree.proofs.Walks.{Turns, walk-turns}
use Rattle.draft.specs.Draft.{reach_rule}
use Rattle.draft.specs.Numbering.{numbering, old_of}
use Rattle.draft.proofs.Rules.{TablesBy, entries-counts, entries_below}

pub reached : (s : Sections) → reach_rule s ≡ 0 → (i : ℕ) → i < node_count s → has i (read_walk s).seen ≡ true
unfolding reach_rule all_seen
reached s p i h = all_at _ _ (passed _ 19 p) i h

-- each number below n once, and 0 first
abbrev pub Numbered : ℕ → List ℕ → Type 0
Numbered n order = EachOnce n order

module _ (s : Sections) {rule : ℕ → ℕ} (t : TablesBy s rule) where
  -- the writer's walk marks nodes only
  pub marks-below : All (λ x. x < node_count s) (read_walk s).seen
  marks-below = read-inside s (entries-counts s t) (λ i h. entries_below s t i h)

  pub numbered : ((i : ℕ) → i < node_count s → has i (read_walk s).seen ≡ true) → Numbered (node_count s) (numbering s)
  unfolding numbering
  numbered all = read-once s (entries-counts s t) (λ i h. entries_below s t i h) all

-- ---- a node comes after its parent

module _ (s : Sections) where
  -- the node at place j has its parent at an earlier place, and that is a container
  pub record ParentBefore (order : List ℕ) (j : ℕ) : Type 0 where
    pub place : ℕ
    pub earlier : place < j
    pub parent : old_of order place ≡ parent_of s (old_of order j)
    pub container : is_container s (parent_of s (old_of order j)) ≡ true

  -- node x is the root, or its parent is a marked container
  abbrev After : List ℕ → ℕ → Type 0
  After marks x = (x < node_count s) × ((x ≡ 0 → ⊥) → (has (parent_of s x) marks ≡ true) × (is_container s (parent_of s x) ≡ true))

  -- each mark was so when it was made
  abbrev InTurn : List ℕ → Type 0
  InTurn [] = Unit {0}
  InTurn (x ∷ marks) = After marks x × InTurn marks

  -- the marks in their order
  turned : (marks : List ℕ) → InTurn marks → (j : ℕ) → j < length marks → (old_of (reverse marks) j ≡ 0 → ⊥) → ParentBefore (reverse marks) j
  turned [] a j h d = absurd (omega arith)
  turned (x ∷ marks) a j h d = subst (λ (l : List ℕ). ParentBefore l j) (sym (reverse-cons x marks)) (go (dec_lt j (length marks)) (turned marks a.1 j))
    where
      front : List ℕ
      front = reverse marks

      away : old_of (front ++ (x ∷ [])) j ≡ 0 → ⊥
      away z = d (ap (λ (l : List ℕ). old_of l j) (reverse-cons x marks) ∙ z)

      -- one of those before x, and x
      former : j < length front → ParentBefore front j → ParentBefore (front ++ (x ∷ [])) j
      former l b =
          let here = get_or-append front (x ∷ []) 0 j l in
          record {
            place = b.place;
            earlier = b.earlier;
            parent = get_or-append front (x ∷ []) 0 b.place (omega (arith, b.earlier)) ∙ b.parent ∙ ap (parent_of s) (sym here);
            container = ap (λ (y : ℕ). is_container s (parent_of s y)) here ∙ b.container;
          }

      newest : j ≡ length front → old_of (front ++ (x ∷ [])) j ≡ x → ParentBefore (front ++ (x ∷ [])) j
      newest e here =
          let up = a.0.1 (λ z. away (here ∙ z)) in
          let p = place_get front (parent_of s x) (has_reverse (parent_of s x) marks ∙ up.0) in
          record {
            place = place_in front (parent_of s x);
            earlier = omega (arith, p.1);
            parent = get_or-append front (x ∷ []) 0 (place_in front (parent_of s x)) p.1 ∙ p.0 ∙ ap (parent_of s) (sym here);
            container = ap (λ (y : ℕ). is_container s (parent_of s y)) here ∙ up.1;
          }

      go : Dec (j < length marks) → (j < length marks → (old_of front j ≡ 0 → ⊥) → ParentBefore front j) → ParentBefore (front ++ (x ∷ [])) j
      go (yes l) r =
          let k : j < length front = omega (arith, length-reverse marks) in
          former k (r l (λ z. away (get_or-append front (x ∷ []) 0 j k ∙ z)))
      go (no l) r =
          let e : j ≡ length front = omega (arith, length-reverse marks) in
          newest e (ap (old_of (front ++ (x ∷ []))) e ∙ get_or-append_seam front x [] 0)

  -- where tables and relations are right
  module _ (some : 0 < node_count s) (entries : (i : ℕ) → i < node_count s → entries_rule s i ≡ 0) where
    -- what a node pushes comes after it
    pushed : (i : ℕ) (marks : List ℕ) → i < node_count s → All (After (i ∷ marks)) (entry_nodes s i)
    unfolding has
    pushed i marks h =
        entry-each s i (After (i ∷ marks))
        (λ j k. let c = children-pass s i (entries i h) j k in below (child_at s i j) c.below c.parent (child-container s i j k))
        (λ j k. let c = named-pass s i (entries i h) j k in below (named_at s i j 2) c.below c.parent (named-container s i j k))
      where
        below : (x : ℕ) → x < node_count s → parent_of s x ≡ i → is_container s i ≡ true → After (i ∷ marks) x
        below x l e c = (l, λ d. (or_left _ _ (eq-eqb _ _ e), ap (is_container s) e ∙ c))

    later : (i x : ℕ) (marks : List ℕ) → After marks x → After (i ∷ marks) x
    unfolding has
    later i x marks a = (a.0, λ d. (or_right (eqb (parent_of s x) i) _ (a.1 d).0, (a.1 d).1))

    marked : Turns (λ i. 0) (entry_nodes s) (λ n marks due. InTurn marks × All (After marks) due) (λ w. InTurn w.seen)
    marked = record {
      over = λ marks due a. a.0;
      done = λ n marks a. a.0;
      skip = λ n i marks due a e. (a.0, a.1.1);
      enter = λ n i marks due a e p. (
        (a.1.0, a.0),
        all_append (After (i ∷ marks)) (entry_nodes s i) due (pushed i marks a.1.0.0) (all_map due (λ x b. later i x marks b) a.1.1),
      );
      refuse = λ n i r marks due a e p. absurd (omega arith);
    }

    pub parent-before : (j : ℕ) → j < length (numbering s) → (old_of (numbering s) j ≡ 0 → ⊥) → ParentBefore (numbering s) j
    unfolding numbering read_walk
    parent-before j h d =
        turned (read_walk s).seen (walk-turns (λ i. 0) (entry_nodes s) marked (turns s) [] (0 ∷ []) (tt, ((some, λ z. absurd (z refl)), tt))) j
        (omega (arith, length-reverse (read_walk s).seen)) d
