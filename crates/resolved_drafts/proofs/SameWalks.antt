-- Walks through a resolved draft are those through the draft.
use Rattle.std.specs.Prelude.{None, Some}
use Prim.Native.Nat.{ℕ, ◌+◌}
use mathlib.Core.Path.{◌≡◌, refl, ◌∙◌}
use mathlib.Core.List.{List}
use mathlib.Core.Bool.{Bool, true, false, cond, ◌&&◌, not}
use native.Mathlib.Omega.{arith}
use lib.Dec.{ltb, eqb}
use borrow.Author.Tests.{eqb-true}
use Rattle.laws.proofs.Flags.{and-false}
use Rattle.words.specs.Words.{is_none}
use Rattle.image.specs.Sections.{Sections, child_count, tag_of, f, child_word, inside_among, inside, is_container, inside_container}
use Rattle.image.specs.Tags.{container_tag}
use Rattle.views.specs.Children.{child_query}
use Rattle.lookups.specs.Lookup.{named_by, find_named}
use Rattle.walks.specs.Walk.{Component, Parent, Index, Name, Broken, parent_query, step}
use Rattle.walks.proofs.SameWalks.{SameSteps, same_walks}
use Rattle.resolved_drafts.specs.Resolved.{ResolvedWalks}
use Rattle.draft.specs.Source.{with_nodes}
use Rattle.draft.proofs.SameTree.{SameTree, same-inside, same_box}
use Rattle.resolved_drafts.proofs.Reading.{same-tree}
use Rattle.resolved_drafts.proofs.Rules.{taken}

module _ (s : Sections) (ws : List ℕ) (a : SameTree s ws) where
  abbrev r : Sections
  r = with_nodes s ws

  no_box : (i : ℕ) → is_container s i ≡ false → inside_container s i ≡ false
  no_box i e = rw (e, and-false (inside s i))

  no_box_either : (i : ℕ) → is_container s i ≡ false → inside_container r i ≡ false
  no_box_either i e = rw (same_box s ws a i ∙ e, and-false (inside r i))

  same-parent : (i : ℕ) → parent_query r i ≡ parent_query s i
  unfolding parent_query
  same-parent i = λ t. cond (inside_among (a.count t) i && not (is_none (a.parents i t))) (Some (a.parents i t)) None

  same-child : (i j : ℕ) → child_query r i j ≡ child_query s i j
  same-child i j = by (is_container s i) refl
    where
      by : (b : Bool) → is_container s i ≡ b → child_query r i j ≡ child_query s i j
      by true e = unfold child_query child_word in
          let first : f r i 3 ≡ f s i 3 = a.boxes i 3 (eqb-true (tag_of s i) container_tag e) (omega arith) in
          let many : f r i 4 ≡ f s i 4 = a.boxes i 4 (eqb-true (tag_of s i) container_tag e) (omega arith) in
          λ t.
          cond (inside_among (a.count t) i && eqb (a.tags i t) container_tag && ltb j (many t) && ltb (first t + j) (child_count s))
          (Some (child_word s (first t + j))) None
      by false e = unfold child_query in rw (no_box i e, no_box_either i e) refl

  same-named : (i : ℕ) (name : List ℕ) → find_named r i name ≡ find_named s i name
  same-named i name = by (is_container s i) refl
    where
      by : (b : Bool) → is_container s i ≡ b → find_named r i name ≡ find_named s i name
      by true e = unfold find_named in
          let first : f r i 5 ≡ f s i 5 = a.boxes i 5 (eqb-true (tag_of s i) container_tag e) (omega arith) in
          let many : f r i 6 ≡ f s i 6 = a.boxes i 6 (eqb-true (tag_of s i) container_tag e) (omega arith) in
          λ t. cond (inside_among (a.count t) i && eqb (a.tags i t) container_tag) (named_by s.named s.strings (first t) (many t) name) None
      by false e = unfold find_named in rw (no_box i e, no_box_either i e) refl

  same_step : (i : ℕ) (c : Component) → step r i c ≡ step s i c
  unfolding step
  same_step i Parent = same-parent i
  same_step i (Index j) = same-child i j
  same_step i (Name t) = same-named i t
  same_step i Broken = refl

  pub same : SameSteps r s
  same = record { nodes = same-inside s ws a; containers = same_box s ws a; steps = same_step }

pub resolved-walks : ResolvedWalks
resolved-walks ink s p work h = same_walks _ s (same s _ (same-tree s p (taken ink s p work h).whole))
