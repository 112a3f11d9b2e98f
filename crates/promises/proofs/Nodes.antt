-- At each node of sections that keep the rules: parent steps, children, targets and texts.
use Prim.Native.Nat.{ℕ, zero, suc, ◌+◌, ◌*◌, ◌≤◌, ◌<◌}
use mathlib.Core.Path.{◌≡◌, refl, sym, ap, ◌∙◌, subst}
use mathlib.Core.Logic.{inl, inr}
use mathlib.Core.List.{Memᴰ}
use mathlib.Core.Bool.{true, false≢true}
use native.Mathlib.Omega.{arith}
use native.Mathlib.Nat.{div-lt_iff_lt-mul}
use native.Mathlib.Decide.{ℕ_discrete}
use lib.ListN.{length, get_or-eq_default}
use lib.Dec.{eqb}
use borrow.Author.Tests.{eqb-true}
use Rattle.words.specs.Words.{NONE}
use Rattle.image.proofs.Widths.{words-some}
use Rattle.image.specs.Sections.{Sections, node_words, node_count, child_count, named_count, node_word, parent_of, tag_of, f, is_container}
use Rattle.records.specs.Fields.{kinds, kind_of, fields, Field, text, optional, command, operator, node, optionalNode, container, optionalContainer, plain, at_most, children, named, payload, wrong}
use Rattle.records.specs.Records.{target_of, fields_at, number_of_children, number_of_named, children_before, named_before}
use Rattle.records.proofs.PassedRules.{target}
use Rattle.tree.specs.Reach.{climb}
use Rattle.tree.proofs.ParentSteps.{tree-climbs}
use Rattle.promises.specs.Rules.{TextRight, OptionalRight, FieldRight, ChildRight, NamedRight}
use Rattle.promises.specs.Promises.{ReachesRoot, TargetInside, TextInside, FieldTexts, OrderedChild, NamedChild}
use Rattle.promises.proofs.Fields.{right-fields}
use Rattle.promises.proofs.Acceptance.{right-sections}
use Rattle.promises.proofs.Premises.{Kept}

-- ---- texts

pub text-inside : (s : Sections) (at len : ℕ) → TextRight s at len → TextInside s at len
text-inside s at len t d e = t.inside

pub optional-inside : (s : Sections) (at len : ℕ) → OptionalRight s at len → TextInside s at len
optional-inside s at len (inl a) d e = absurd (d a.0)
optional-inside s at len (inr t) d e = t.inside

field_texts_lem : (s : Sections) (i : ℕ) (x : Field) → FieldRight s i x → FieldTexts s i x
field_texts_lem s i (text k) r = text-inside s _ _ r
field_texts_lem s i (optional k) r = optional-inside s _ _ r
field_texts_lem s i (command k) r = text-inside s _ _ r.0
field_texts_lem s i (operator k) r = text-inside s _ _ r.0
field_texts_lem s i payload r =
    record {
      item-origin = λ j h. optional-inside s _ _ (r.1.item-origin j h);
      item-name = λ j h. text-inside s _ _ (r.1.item-name j h);
      origin = λ j h. text-inside s _ _ (r.1.origin j h);
    }
field_texts_lem s i (node k) r = tt
field_texts_lem s i (optionalNode k) r = tt
field_texts_lem s i (container k) r = tt
field_texts_lem s i (optionalContainer k) r = tt
field_texts_lem s i (plain k) r = tt
field_texts_lem s i (at_most k n) r = tt
field_texts_lem s i children r = tt
field_texts_lem s i named r = tt
field_texts_lem s i wrong r = tt

-- ---- parent steps

-- no container lies past the nodes
past : (s : Sections) (n : ℕ) → node_count s < n → is_container s n ≡ true → ⊥
unfolding node_word
past s n h c =
    let some : 0 < node_words s.version = omega (arith, words-some s.version) in
    let long : length s.nodes < n * node_words s.version = (div-lt_iff_lt-mul some).0 h in
    false≢true (sym (ap (λ (t : ℕ). eqb t 1) (get_or-eq_default s.nodes 0 {n = n * node_words s.version + 2} (omega arith))) ∙ c)

module _ (s : Sections) (g : Kept s) where
  -- ---- parents

  -- a container that a step arrives at is a node: only node 0 has no parent, and NONE is past the nodes
  parent-inside : (i : ℕ) → i < node_count s → is_container s (parent_of s i) ≡ true → parent_of s i < node_count s
  parent-inside i h c =
      elim (ℕ_discrete i 0) [
        | yes e ↦ absurd (past s NONE g.nodes (sym (ap (is_container s) (ap (parent_of s) e ∙ g.rules.root-parent)) ∙ c))
        | no d ↦ (g.rules.parents i h (omega arith)).container.node.below
      ]

  climb-inside : (k i : ℕ) → i < node_count s → ((m : ℕ) → m < suc k → is_container s (climb s (suc m) i) ≡ true) → climb s (suc k) i < node_count s
  unfolding climb
  climb-inside zero i h c = parent-inside i h (c 0 (omega arith))
  climb-inside (suc k) i h c = climb-inside k (parent_of s i) (parent-inside i h (c 0 (omega arith))) (λ m l. c (suc m) (omega arith))

  pub reaches : (i : ℕ) → i < node_count s → ReachesRoot s i
  reaches i h =
      let c = tree-climbs s g.some (right-sections s g.some g.rules).tree i h in
      record {
        steps = c.steps;
        few = omega (arith, c.few);
        arrives = c.arrives;
        inside = λ k l. climb-inside k i h (λ m n. c.containers m (omega arith));
        containers = c.containers;
      }

  module _ (i : ℕ) (h : i < node_count s) where
    -- ---- fields

    pub target-inside : TargetInside s (target_of s i (kind_of (tag_of s i)))
    target-inside d = (target s i (right-fields s i (g.rules.fields i h)) d).below

    pub texts-inside : (x : Field) → Memᴰ x (fields_at s i) → FieldTexts s i x
    texts-inside x m = field_texts_lem s i x (g.rules.fields i h x m)

    -- the fields of a node by its tag
    pub tagged : (t : ℕ) → tag_of s i ≡ t → (x : Field) → Memᴰ x (fields (kind_of t)) → FieldRight s i x
    tagged t e x m = g.rules.fields i h x (subst (λ (y : ℕ). Memᴰ x (fields (kind_of y))) (sym e) m)

    -- ---- children

    module _ (c : is_container s i ≡ true) where
      pub child-range : (f s i 3 + f s i 4 ≤ child_count s) × (f s i 3 ≡ children_before s i)
      unfolding fields kinds
      child-range = tagged 1 (eqb-true (tag_of s i) 1 c) children (Memᴰ.tail (Memᴰ.tail (Memᴰ.head refl)))

      pub named-range : (f s i 5 + f s i 6 ≤ named_count s) × (f s i 5 ≡ named_before s i)
      unfolding fields kinds
      named-range = tagged 1 (eqb-true (tag_of s i) 1 c) named (Memᴰ.tail (Memᴰ.tail (Memᴰ.tail (Memᴰ.head refl))))

      pub child-right : (j : ℕ) → j < f s i 4 → ChildRight s i j
      unfolding number_of_children
      child-right j k = g.rules.child i h j (rw c k)

      pub named-right : (j : ℕ) → j < f s i 6 → NamedRight s i j
      unfolding number_of_named
      named-right j k = g.rules.entry i h j (rw c k)

      pub ordered-child : (j : ℕ) → j < f s i 4 → OrderedChild s i j
      ordered-child j k = let q = child-right j k in record { inside = q.node.below; parent = q.parent; place = q.place }

      pub named-child : (j : ℕ) → j < f s i 6 → NamedChild s i j
      named-child j k = let q = named-right j k in record { inside = q.container.node.below; parent = q.parent }
