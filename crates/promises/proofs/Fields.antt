-- The tests of texts, nodes and fields in plain words, both ways.
use Prim.Native.Nat.{ℕ, ◌<◌}
use mathlib.Core.Path.{◌≡◌, refl, sym, ◌∙◌}
use mathlib.Core.Logic.{◌≢◌, ◌⊎◌, inl, inr}
use mathlib.Core.List.{Memᴰ}
use mathlib.Core.Bool.{Bool, true, ◌||◌, or-true, true≢false}
use native.Mathlib.Omega.{arith}
use native.Mathlib.Decide.{ℕ_discrete}
use borrow.Author.Tests.{eq-eqb, ne_eqb, le-leb, lt-ltb, eqb-true}
use Rattle.laws.proofs.First.{then, pass, first_of_lem}
use Rattle.laws.proofs.Flags.{both_true}
use Rattle.words.specs.Words.{NONE, is_none}
use Rattle.image.specs.Sections.{Sections, node_count, parent_of, tag_of, f, present, good_text, good_optional, inside, is_container, inside_container}
use Rattle.image.proofs.Parts.{good, good-inside, optional-present, optional-absent, optional_half}
use Rattle.records.specs.Fields.{Field, text, optional, command, operator, node, optionalNode, container, optionalContainer, plain, at_most, children, named, payload, wrong}
use Rattle.records.specs.Records.{fields_at, list_items, list_origins, list_item_rule, list_origin_rule, payload_rule, field_rule, fields_rule, parent_rule}
use Rattle.records.proofs.PassedRules.{node_of_lem, parent, list-passed, text-passed, optional-passed, command_passed, operator_passed, node-passed, container-passed, optional-node-passed, optional-container-passed, at_most-passed, children-passed, named-passed, payload-passed, each_field, all_fields-pass}
use Rattle.promises.specs.Rules.{TextRight, OptionalRight, NodeRight, ContainerRight, PayloadRight, FieldRight, ParentRight}

-- ---- texts

-- neither word is NONE
given : (at len : ℕ) → present at len ≡ true → (at ≢ NONE) × (len ≢ NONE)
given at len h = (λ e. true≢false (sym h ∙ rw (eq-eqb at NONE e)), λ e. true≢false (sym h ∙ rw (eq-eqb len NONE e, or-true (is_none at))))

module _ (s : Sections) (at len : ℕ) where
  pub text-right : good_text s at len ≡ true → TextRight s at len
  text-right h =
      let g = good s.strings at len h in
      let p = given at len g.there in
      record { offset_given = p.0; length-given = p.1; inside = g.inside; encoded = g.encoded }

  pub right-text : TextRight s at len → good_text s at len ≡ true
  right-text t = good-inside s.strings at len t.offset_given t.length-given t.inside ∙ t.encoded

  pub optional-right : good_optional s at len ≡ true → OptionalRight s at len
  optional-right h = by (ℕ_discrete at NONE) (ℕ_discrete len NONE)
    where
      by : Dec (at ≡ NONE) → Dec (len ≡ NONE) → OptionalRight s at len
      by (yes a) (yes b) = inl (a, b)
      by (yes a) (no e) = absurd (true≢false (sym h ∙ optional_half s.strings at len a e))
      by (no d) b = inr (text-right (sym (optional-present s.strings at len d) ∙ h))

  pub right-optional : OptionalRight s at len → good_optional s at len ≡ true
  right-optional (inl e) = optional-absent s.strings at len e.0 e.1
  right-optional (inr t) = optional-present s.strings at len t.offset_given ∙ right-text t

-- ---- nodes

-- absent, or what a test says
either-right : (n : ℕ) (b : Bool) (P : Type 0) → (b ≡ true → P) → ((n ≢ NONE) → b ≡ true) → (n ≡ NONE) ⊎ P
either-right n b P g h = by (ℕ_discrete n NONE)
  where
    by : Dec (n ≡ NONE) → (n ≡ NONE) ⊎ P
    by (yes e) = inl e
    by (no d) = inr (g (h d))

right-either : (n : ℕ) (b : Bool) (P : Type 0) → (P → b ≡ true) → (n ≡ NONE) ⊎ P → (is_none n || b) ≡ true
right-either n b P g (inl e) = rw (eq-eqb n NONE e)
right-either n b P g (inr p) = rw (g p) (or-true (is_none n))

module _ (s : Sections) (n : ℕ) where
  pub node-right : inside s n ≡ true → NodeRight s n
  node-right h = let p = node_of_lem s n h in record { below = p.below; given = p.some }

  pub right-node : NodeRight s n → inside s n ≡ true
  right-node p = rw (lt-ltb n (node_count s) p.below, ne_eqb n NONE p.given)

  pub container-right : inside_container s n ≡ true → ContainerRight s n
  container-right h = let p = both_true (inside s n) (is_container s n) h in record { node = node-right p.0; container = eqb-true (tag_of s n) 1 p.1 }

  pub right-container : ContainerRight s n → inside_container s n ≡ true
  right-container p = rw (right-node p.node, eq-eqb (tag_of s n) 1 p.container)

-- ---- a list's payload

module _ (s : Sections) (at len : ℕ) where
  pub payload-right : payload_rule s at len ≡ 0 → PayloadRight s at len
  payload-right p =
      let q = list-passed s at len p in
      record {
        inside = q.inside;
        long = q.long;
        exact = q.exact;
        item-origin = λ j h. optional-right s _ _ (q.item-origin j h);
        item-name = λ j h. text-right s _ _ (q.item-name j h);
        origin = λ j h. text-right s _ _ (q.origin j h);
      }

  pub right-payload : PayloadRight s at len → payload_rule s at len ≡ 0
  unfolding payload_rule list_item_rule list_origin_rule
  right-payload q =
      then _ _ (pass _ 11 (rw (le-leb _ _ q.inside, le-leb _ _ q.long, eq-eqb _ _ q.exact)))
      (then _ _
      (first_of_lem (list_items s at) (list_item_rule s at)
      (λ j h. then _ _ (pass _ 10 (right-optional s _ _ (q.item-origin j h))) (pass _ 10 (right-text s _ _ (q.item-name j h)))))
      (first_of_lem (list_origins s at) (list_origin_rule s at) (λ j h. pass _ 10 (right-text s _ _ (q.origin j h)))))

-- ---- fields

module _ (s : Sections) (i : ℕ) where
  pub field_right : (x : Field) → field_rule s i x ≡ 0 → FieldRight s i x
  field_right (text k) p = text-right s _ _ (text-passed s i k p)
  field_right (optional k) p = optional-right s _ _ (optional-passed s i k p)
  field_right (command k) p = let q = command_passed s i k p in (text-right s _ _ q.0, q.1)
  field_right (operator k) p = let q = operator_passed s i k p in (text-right s _ _ q.0, q.1)
  field_right (node k) p = node-right s _ (node-passed s i k p)
  field_right (optionalNode k) p = either-right (f s i k) _ _ (node-right s (f s i k)) (optional-node-passed s i k p)
  field_right (container k) p = container-right s _ (container-passed s i k p)
  field_right (optionalContainer k) p = either-right (f s i k) _ _ (container-right s (f s i k)) (optional-container-passed s i k p)
  field_right (plain k) p = tt
  field_right (at_most k n) p = at_most-passed s i k n p
  field_right children p = children-passed s i p
  field_right named p = named-passed s i p
  field_right payload p = let q = payload-passed s i p in (q.0, payload-right s _ _ q.1)
  field_right wrong p = unfold field_rule in let z : ◌≡◌ {A = ℕ} 12 0 = p in omega arith

  pub right_field : (x : Field) → FieldRight s i x → field_rule s i x ≡ 0
  unfolding field_rule
  right_field (text k) r = pass _ 10 (right-text s _ _ r)
  right_field (optional k) r = pass _ 10 (right-optional s _ _ r)
  right_field (command k) r = then _ _ (pass _ 10 (right-text s _ _ r.0)) (pass _ 12 r.1)
  right_field (operator k) r = then _ _ (pass _ 10 (right-text s _ _ r.0)) (pass _ 12 r.1)
  right_field (node k) r = pass _ 9 (right-node s _ r)
  right_field (optionalNode k) r = pass _ 9 (right-either (f s i k) _ _ (right-node s (f s i k)) r)
  right_field (container k) r = pass _ 9 (right-container s _ r)
  right_field (optionalContainer k) r = pass _ 9 (right-either (f s i k) _ _ (right-container s (f s i k)) r)
  right_field (plain k) r = refl
  right_field (at_most k n) r = pass _ 12 (le-leb _ _ r)
  right_field children r = pass _ 11 (rw (le-leb _ _ r.0, eq-eqb _ _ r.1))
  right_field named r = pass _ 11 (rw (le-leb _ _ r.0, eq-eqb _ _ r.1))
  right_field payload r = then _ _ (pass _ 11 (eq-eqb _ _ r.0)) (right-payload s _ _ r.1)
  right_field wrong r = absurd r

  pub fields-right : fields_rule s i ≡ 0 → (x : Field) → Memᴰ x (fields_at s i) → FieldRight s i x
  fields-right p x m = field_right x (each_field s i (fields_at s i) p x m)

  pub right-fields : ((x : Field) → Memᴰ x (fields_at s i) → FieldRight s i x) → fields_rule s i ≡ 0
  right-fields r = all_fields-pass s i (fields_at s i) (λ x m. right_field x (r x m))

  -- ---- parents

  pub parent-right : 0 < i → parent_rule s i ≡ 0 → ParentRight s i
  parent-right h p =
      let q = parent s i h p in
      record {
        container = record { node = record { below = q.node.below; given = q.node.some }; container = eqb-true (tag_of s (parent_of s i)) 1 q.container };
        other = q.other;
      }

  pub right-parent : (0 < i → ParentRight s i) → parent_rule s i ≡ 0
  unfolding parent_rule
  right-parent r = by (ℕ_discrete i 0)
    where
      by : Dec (i ≡ 0) → parent_rule s i ≡ 0
      by (yes e) = rw (eq-eqb i 0 e)
      by (no d) =
          let q : ParentRight s i = r (omega arith) in
          rw (ne_eqb i 0 d) (pass _ 9 (rw (right-container s (parent_of s i) q.container, ne_eqb (parent_of s i) i q.other)))
