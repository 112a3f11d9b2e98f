-- Every text that the sleeper's reader gives of sections that keep the rules has good bytes.
use Rattle.std.specs.Prelude.{None, Option, Some}
use Prim.Native.Nat.{ℕ, ◌+◌, ◌*◌, ◌<◌}
use mathlib.Core.Path.{◌≡◌, refl, sym, ap, ◌∙◌, subst}
use mathlib.Core.Logic.{◌⊎◌, inl, inr}
use mathlib.Core.List.Memᴰ
use mathlib.Core.List.{List, [], Memᴰ}
use mathlib.Core.Bool.{Bool, true, false, cond, ◌&&◌}
use native.Mathlib.Omega.{arith}
use lib.ListN.{length}
use lib.Dec.{leb, ltb, eqb}
use borrow.Author.Tests.{lt-leb, leb-true, ltb-true, eqb-true}
use Rattle.laws.proofs.Flags.{both_true, and-false}
use Rattle.words.specs.Words.{word_at}
use Rattle.image.specs.Sections.{Sections, good_bytes, node_count, definition_count, item_count, tag_of, f, text_or_empty, present, inside, is_container, inside_container}
use Rattle.image.specs.Tags.{list_tag}
use Rattle.image.proofs.Parts.{text-inside}
use Rattle.image.proofs.Tests.{inside-true}
use Rattle.records.specs.Fields.{fields, kinds, kind_of, Field, payload}
use Rattle.definitions.specs.Definitions.{first_item, number_of_items}
use Rattle.views.specs.declared.Span.{Span}
use Rattle.views.specs.declared.NodeKindView.{NodeKindView}
use Rattle.views.specs.declared.NodeKindView.TheVariants as kind
use Rattle.views.specs.declared.ValueView.{ValueView}
use Rattle.views.specs.declared.ValueView.TheVariants as value
use Rattle.views.specs.declared.NodeView.{NodeView}
use Rattle.views.specs.declared.NamedChildView.{NamedChildView}
use Rattle.views.specs.declared.ListEntry.{ListEntry}
use Rattle.views.specs.declared.DefinitionView.{DefinitionView}
use Rattle.views.specs.declared.ItemView.{ItemView}
use Rattle.views.specs.View.{span, shown, node_view}
use Rattle.views.specs.Children.{named_query, text_query}
use Rattle.views.specs.Lists.{list_part, list_entry, list_origin, definition_query, item_entry, item_query}
use Rattle.notes.specs.Notes.{note_kind, hide_in, hidden}
use Rattle.promises.specs.Answers.{given, of_node, of_named as numberNamed, of_text as numberText, of_entry as numberEntry, of_definition as numberDefinition, of_item as numberItem}
use Rattle.promises.specs.Rules.{FieldRight, PayloadRight}
use Rattle.promises.specs.Readers.{Whole, texts_in, view_texts, ListRead, ImageReads}
use Rattle.promises.proofs.Answers.{given-equal, given-refused}
use Rattle.promises.proofs.Premises.{Kept}
use Rattle.promises.proofs.ViewParts.{All, all_none, all_one}
use Rattle.promises.proofs.Whole.{shown-part, list_read}
use Rattle.promises.proofs.Readers.{image-reads}
use Rattle.sleeper.specs.declared.Which.{Which}
use Rattle.sleeper.specs.declared.Which.TheVariants as which
use Rattle.sleeper.specs.Texts.{value_text, kind_text, kind_variable, of_kind, of_named, of_definition, of_item, entry_name, entry_origin, of_text, text_place, bytes_if, sleeper_text}
use Rattle.sleeper.specs.Lists.{list_of}
use Rattle.sleeper_promises.specs.Answers.{of_bytes}
use Rattle.sleeper_promises.specs.Shown.{TextsGood}

-- ---- what is given is what the answer holds

pub node-given : (r : Option NodeView) (v : NodeView) → of_node r ≡ given v → r ≡ Some v
node-given (Some w) v e = ap Some (given-equal w v e)
node-given None v e = absurd (given-refused 17 v e)

pub named-given : (r : Option NamedChildView) (v : NamedChildView) → numberNamed r ≡ given v → r ≡ Some v
named-given (Some w) v e = ap Some (given-equal w v e)
named-given None v e = absurd (given-refused 17 v e)

pub text-given : (r : Option Span) (v : Span) → numberText r ≡ given v → r ≡ Some v
text-given (Some w) v e = ap Some (given-equal w v e)
text-given None v e = absurd (given-refused 17 v e)

pub entry-given : (r : Option ListEntry) (v : ListEntry) → numberEntry r ≡ given v → r ≡ Some v
entry-given (Some w) v e = ap Some (given-equal w v e)
entry-given None v e = absurd (given-refused 17 v e)

pub definition-given : (r : Option DefinitionView) (v : DefinitionView) → numberDefinition r ≡ given v → r ≡ Some v
definition-given (Some w) v e = ap Some (given-equal w v e)
definition-given None v e = absurd (given-refused 17 v e)

pub item-given : (r : Option ItemView) (v : ItemView) → numberItem r ≡ given v → r ≡ Some v
item-given (Some w) v e = ap Some (given-equal w v e)
item-given None v e = absurd (given-refused 17 v e)

-- ---- a text that is handed back whole is good

module _ (s : Sections) where
  shown-found : (b : Bool) (p q : Span) → numberText (cond b (Some p) None) ≡ given q → b ≡ true
  shown-found true p q e = refl
  shown-found false p q e = absurd (given-refused 17 q e)

  whole-good : (p : Span) → Whole s p → good_bytes (text_or_empty s.strings p.offset p.len) ≡ true
  unfolding text_query
  whole-good p w =
      let there = shown-found (shown (length s.strings) p.offset p.len) p p w.found in
      let inside = leb-true (p.offset + p.len) (length s.strings) (both_true (present p.offset p.len) _ there).1 in
      ap good_bytes (text-inside s.strings p.offset p.len inside ∙ sym (shown-part s p.offset p.len there)) ∙ w.encoded

  -- the texts of an answer are handed back whole
  abbrev pub AllWhole : Option Span → Type 0
  AllWhole o = All (Whole s) (texts_in o)

  place-good : (o : Option Span) → AllWhole o → (t : List ℕ) → of_bytes (bytes_if s.strings o) ≡ given t → good_bytes t ≡ true
  place-good (Some p) w t e =
      sym (ap good_bytes (given-equal (text_or_empty s.strings p.offset p.len) t e)) ∙ whole-good p (w p (Memᴰ.head refl))
  place-good None w t e = absurd (given-refused 17 t e)

-- ---- the texts of a kind are among those of the view

value-among : (v : ValueView) (t : Span) → Memᴰ t (texts_in (value_text v)) → Memᴰ t (view_texts (kind.Value v))
value-among (value.Bool b) t m = m
value-among (value.Int n) t m = m
value-among (value.Float bits x) t m = m
value-among (value.String p) t m = m
value-among (value.List p) t m = m
value-among (value.DivertTarget p) t m = m
value-among (value.VariablePointer p context) t m = m

text-among : (k : NodeKindView) (t : Span) → Memᴰ t (texts_in (kind_text k)) → Memᴰ t (view_texts k)
text-among (kind.Container flags name) t m = m
text-among (kind.ChoicePoint flags target) t m = m
text-among (kind.ControlCommand c) t m = m
text-among (kind.Divert path target variable arguments conditional external pushes pushed) t m = Memᴰ.append_left (texts_in variable) m
text-among kind.Glue t m = m
text-among (kind.NativeFunction o) t m = m
text-among (kind.Tag p) t m = m
text-among (kind.Value v) t m = value-among v t m
text-among (kind.VariableAssignment p global new) t m = m
text-among (kind.VariableReference p target) t m = m
text-among kind.Void t m = m

variable-among : (k : NodeKindView) (t : Span) → Memᴰ t (texts_in (kind_variable k)) → Memᴰ t (view_texts k)
variable-among (kind.Container flags name) t m = absurd (Memᴰ.not-nil m)
variable-among (kind.ChoicePoint flags target) t m = m
variable-among (kind.ControlCommand c) t m = m
variable-among (kind.Divert path target variable arguments conditional external pushes pushed) t m = Memᴰ.append_right (texts_in path) m
variable-among kind.Glue t m = m
variable-among (kind.NativeFunction o) t m = m
variable-among (kind.Tag p) t m = absurd (Memᴰ.not-nil m)
variable-among (kind.Value v) t m = absurd (Memᴰ.not-nil m)
variable-among (kind.VariableAssignment p global new) t m = absurd (Memᴰ.not-nil m)
variable-among (kind.VariableReference p target) t m = absurd (Memᴰ.not-nil m)
variable-among kind.Void t m = m

-- ---- by which text is asked

module _ (s : Sections) (g : Kept s) where
  reads : ImageReads s
  reads = image-reads s g

  nothing : (o : Option Span) → o ≡ None → AllWhole s o
  nothing o e = subst (AllWhole s) (sym e) (all_none (Whole s))

  one : (o : Option Span) (p : Span) → o ≡ Some p → Whole s p → AllWhole s o
  one o p e w = subst (AllWhole s) (sym e) (all_one (Whole s) p w)

  module _ (h : NodeKindView → Option Span) (void : h kind.Void ≡ None)
      (among : (k : NodeKindView) (t : Span) → Memᴰ t (texts_in (h k)) → Memᴰ t (view_texts k)) where
    kind-whole : (k : NodeKindView) → ((t : Span) → Memᴰ t (view_texts k) → Whole s t) → (b : Bool) → AllWhole s (h (cond b kind.Void k))
    kind-whole k w true = nothing (h kind.Void) void
    kind-whole k w false = λ t m. w t (among k t m)

    node-whole : (i : ℕ) → AllWhole s (of_kind h (hidden s i))
    unfolding hidden node_view
    node-whole i = by (inside s i) refl
      where
        by : (b : Bool) → inside s i ≡ b → AllWhole s (of_kind h (hidden s i))
        by true e =
            let r = reads.nodes i (inside-true (node_count s) i e).0 in
            subst (λ (a : Option NodeView). AllWhole s (of_kind h (hide_in s.strings a))) (sym (node-given (node_view s i) r.view r.viewed))
            (kind-whole r.view.kind r.texts (note_kind s.strings r.view.kind))
        by false e = rw e (all_none (Whole s))

  named-whole : (i j : ℕ) → AllWhole s (of_named (named_query s i j))
  unfolding named_query
  named-whole i j = by (inside_container s i && ltb j (f s i 6)) refl
    where
      by : (b : Bool) → (inside_container s i && ltb j (f s i 6)) ≡ b → AllWhole s (of_named (named_query s i j))
      by true e =
          let there = both_true (inside_container s i) (ltb j (f s i 6)) e in
          let box = both_true (inside s i) (is_container s i) there.0 in
          let r = reads.nodes i (inside-true (node_count s) i box.0).0 in
          let n = r.named (f s i 6) (r.named_count_lem box.1) j (ltb-true j (f s i 6) there.1) in
          one _ n.child.name (ap of_named (named-given (named_query s i j) n.child n.found)) n.name
      by false e = rw e (all_none (Whole s))

  definition-whole : (d : ℕ) → AllWhole s (of_definition (definition_query s d))
  unfolding definition_query
  definition-whole d = by (ltb d (definition_count s)) refl
    where
      by : (b : Bool) → ltb d (definition_count s) ≡ b → AllWhole s (of_definition (definition_query s d))
      by true e =
          let r = reads.definitions d (ltb-true d (definition_count s) e) in
          one _ r.definition.name (ap of_definition (definition-given (definition_query s d) r.definition r.found)) r.name
      by false e = rw e (all_none (Whole s))

  item-whole : (k : ℕ) → AllWhole s (of_item (item_entry s k))
  unfolding item_entry
  item-whole k = by (ltb k (item_count s)) refl
    where
      by : (b : Bool) → ltb k (item_count s) ≡ b → AllWhole s (of_item (item_entry s k))
      by true e =
          let r = reads.items k (ltb-true k (item_count s) e) in
          one _ r.item.name (ap of_item (item-given (item_entry s k) r.item r.found)) r.name
      by false e = rw e (all_none (Whole s))

  definition-item-whole : (d j : ℕ) → AllWhole s (of_item (item_query s d j))
  unfolding item_query
  definition-item-whole d j = by (ltb d (definition_count s) && ltb j (number_of_items s d))
    where
      by : (b : Bool) → AllWhole s (of_item (cond b (item_entry s (first_item s d + j)) None))
      by true = item-whole (first_item s d + j)
      by false = all_none (Whole s)

  -- ---- list values

  -- the payload of a list value is handed back whole
  list_right_lem : (i : ℕ) → i < node_count s → tag_of s i ≡ list_tag → PayloadRight s (f s i 0) (f s i 1)
  unfolding fields kinds
  list_right_lem i h e =
      (subst (λ (n : ℕ). (x : Field) → Memᴰ x (fields (kind_of n)) → FieldRight s i x) e (g.rules.fields i h) payload (Memᴰ.head refl)).1

  list_cases : (i : ℕ) → (list_of s i ≡ []) ⊎ ((list_of s i ≡ list_part s (span (f s i 0) (f s i 1))) × ListRead s (span (f s i 0) (f s i 1)))
  unfolding list_of
  list_cases i = by (inside s i && eqb (tag_of s i) list_tag) refl
    where
      by : (b : Bool) → (inside s i && eqb (tag_of s i) list_tag) ≡ b
          → (list_of s i ≡ []) ⊎ ((list_of s i ≡ list_part s (span (f s i 0) (f s i 1))) × ListRead s (span (f s i 0) (f s i 1)))
      by true e =
          let both = both_true (inside s i) (eqb (tag_of s i) list_tag) e in
          inr (rw e refl, list_read s (f s i 0) (f s i 1) (list_right_lem i (inside-true (node_count s) i both.0).0 (eqb-true (tag_of s i) list_tag both.1)))
      by false e = inl (rw e refl)

  module _ (h : Option ListEntry → Option Span) (none : h None ≡ None) (among : (e : ListEntry) → AllWhole s (Some e.name)
      → AllWhole s e.origin → AllWhole s (h (Some e))) (j : ℕ) where
    no_entry : AllWhole s (h (list_entry [] s.strings j))
    unfolding list_entry
    no_entry = rw (lt-leb (8 + j * 20 + 20) 0 (omega arith)) (nothing (h None) none)

    part-entry : (p : Span) → ListRead s p → AllWhole s (h (list_entry (list_part s p) s.strings j))
    unfolding list_entry
    part-entry p r = by (ltb j (word_at (list_part s p) 0)) refl
      where
        by : (b : Bool) → ltb j (word_at (list_part s p) 0) ≡ b → AllWhole s (h (list_entry (list_part s p) s.strings j))
        by true e =
            let q = r.items j (ltb-true j (word_at (list_part s p) 0) e) in
            subst (λ (a : Option ListEntry). AllWhole s (h a)) (sym (entry-given (list_entry (list_part s p) s.strings j) q.item q.found))
            (among q.item (all_one (Whole s) q.item.name q.name) q.origin)
        by false e = rw (e, and-false (leb (8 + j * 20 + 20) (length (list_part s p)))) (nothing (h None) none)

    entry_whole : (i : ℕ) → AllWhole s (h (list_entry (list_of s i) s.strings j))
    entry_whole i = by (list_cases i)
      where
        by : (list_of s i ≡ []) ⊎ ((list_of s i ≡ list_part s (span (f s i 0) (f s i 1))) × ListRead s (span (f s i 0) (f s i 1)))
            → AllWhole s (h (list_entry (list_of s i) s.strings j))
        by (inl e) = subst (λ (x : List ℕ). AllWhole s (h (list_entry x s.strings j))) (sym e) no_entry
        by (inr e) = subst (λ (x : List ℕ). AllWhole s (h (list_entry x s.strings j))) (sym e.0) (part-entry _ e.1)

  origin-whole : (i j : ℕ) → AllWhole s (of_text (list_origin (list_of s i) s.strings j))
  unfolding list_origin
  origin-whole i j = by (list_cases i)
    where
      part : (p : Span) → ListRead s p → (b : Bool) → ltb j (word_at (list_part s p) 4) ≡ b → AllWhole s (of_text (list_origin (list_part s p) s.strings j))
      part p r true e =
          let q = r.origins j (ltb-true j (word_at (list_part s p) 4) e) in
          one _ q.origin (ap of_text (text-given (list_origin (list_part s p) s.strings j) q.origin q.found)) q.whole
      part p r false e = rw (e, and-false (leb (8 + word_at (list_part s p) 0 * 20 + j * 8 + 8) (length (list_part s p)))) (all_none (Whole s))

      by : (list_of s i ≡ []) ⊎ ((list_of s i ≡ list_part s (span (f s i 0) (f s i 1))) × ListRead s (span (f s i 0) (f s i 1)))
          → AllWhole s (of_text (list_origin (list_of s i) s.strings j))
      by (inl e) =
          subst (λ (x : List ℕ). AllWhole s (of_text (list_origin x s.strings j))) (sym e)
          (rw (lt-leb (8 + word_at [] 0 * 20 + j * 8 + 8) 0 (omega arith)) (all_none (Whole s)))
      by (inr e) = subst (λ (x : List ℕ). AllWhole s (of_text (list_origin x s.strings j))) (sym e.0) (part _ e.1 (ltb j (word_at (list_part s _) 4)) refl)

  -- ---- all of them

  whole-place : (w : Which) → AllWhole s (text_place s w)
  unfolding text_place
  whole-place (which.Node i) = node-whole kind_text refl text-among i
  whole-place (which.Variable i) = node-whole kind_variable refl variable-among i
  whole-place (which.NamedChild i j) = named-whole i j
  whole-place (which.Definition d) = definition-whole d
  whole-place (which.DefinitionItem d j) = definition-item-whole d j
  whole-place (which.Item k) = item-whole k
  whole-place (which.EntryName i j) = entry_whole entry_name refl (λ e n o. n) j i
  whole-place (which.EntryOrigin i j) = entry_whole entry_origin refl (λ e n o. o) j i
  whole-place (which.Origin i j) = origin-whole i j

  pub texts-good : TextsGood s
  unfolding sleeper_text
  texts-good w t e = place-good s (text_place s w) (whole-place w) t e
