-- Accepted images whose words differ only as is allowed differ only in what the sleeper's reader may not see.
use Rattle.std.specs.Prelude.{Some}
use Prim.Native.Nat.{ℕ, zero, suc, ◌+◌, ◌<◌}
use mathlib.Core.Path.{◌≡◌, refl, sym, ap, ◌∙◌, subst}
use mathlib.Core.Logic.{◌⊎◌, ⊎_elim, inl, inr}
use mathlib.Core.List.{List, [], ◌∷◌, Memᴰ}
use mathlib.Core.Bool.{true, false, true≢false}
use native.Mathlib.Omega.{arith}
use lib.ListN.{length}
use lib.Seq.{ext_get_or}
use borrow.Author.Tests.{eq-eqb, ne_eqb, eqb-true}
use Rattle.laws.proofs.Flags.{both_true}
use Rattle.words.specs.Words.{NONE, is_none, word_at}
use Rattle.image.specs.Sections.{Sections, node_count, child_count, named_count, definition_count, item_count, index_count, node_word, tag_of, f, child_word, named_word, item_word, text_at, present, absent}
use Rattle.image.specs.Header.{section_at, view_of, sections_of}
use Rattle.image.proofs.Parts.{text-inside}
use Rattle.image.proofs.Widths.{words-some}
use Rattle.image.proofs.Views.{version_by}
use Rattle.image.proofs.OpenedHeader.{Opens, view-counts}
use Rattle.records.specs.Fields.{Kind, Container, Choice, Command, Divert, Glue, Operator, Tag, BoolValue, IntValue, FloatValue, StringValue, ListValue, TargetValue, PointerValue, Assignment, Reference, Void, Unknown, fields, Field, text, optional, command, operator, node, optionalNode, container, optionalContainer, plain, at_most, children, named, payload, wrong, kinds, kind_of}
use Rattle.records.specs.Records.{fields_at, list_items, list_origins}
use Rattle.views.specs.View.{span, shown}
use Rattle.views.specs.Lists.{list_part}
use Rattle.notes.specs.Notes.{is_note, note_at}
use Rattle.promises.specs.Rules.{TextRight, OptionalRight, FieldRight, PayloadRight}
use Rattle.promises.proofs.Fields.{right-node}
use Rattle.promises.proofs.Acceptance.{right-header, accepted-right}
use Rattle.promises.proofs.Premises.{Kept, kept, a_node}
use Rattle.promises.proofs.Views.{shown-right}
use Rattle.promises.proofs.Whole.{part-long, items_are, origins_are, item-word, origin-word}
use Rattle.promises.proofs.Entries.{named-owner, item-owner}
use Rattle.sleeper_promises.specs.DifferUnseen.{given_text, SameText, SameList, SameField, SameFields, SameNode, SectionsAlike}
use Rattle.sleeper_promises.specs.DifferAsAsked.{text_at_field, offset_at, text_word, NoteAt, SameBytes, SamePayload, SameEntries, SectionsAsAsked, DifferAsAsked}
use Rattle.sleeper_promises.specs.SameAnswers.{AskedUnseen}
use Rattle.sleeper_promises.proofs.NoteKinds.{note_by, tag_or_none, note_by_lem, tag_note, list_tag_lem}

-- ---- texts

absent-hidden : (n at len : ℕ) → absent at len ≡ true → shown n at len ≡ false
absent-hidden n at len h = rw (both_true (is_none at) (is_none len) h).0

half_present : (at len : ℕ) → at ≡ NONE → present at len ≡ true → ⊥
half_present at len e h = true≢false (sym h ∙ rw (eq-eqb at NONE e))

module _ (s t : Sections) where
  both_right : (a n b m : ℕ) → TextRight s a n → TextRight t b m → text_at s a n ≡ text_at t b m → SameText s t a n b m
  unfolding given_text
  both_right a n b m p q e =
      rw (shown-right s a n p, shown-right t b m q)
      (ap Some (text-inside s.strings a n p.inside ∙ e ∙ sym (text-inside t.strings b m q.inside)))

  same_text : (a n b m : ℕ) → OptionalRight s a n → OptionalRight t b m → SameBytes s t a n b m → SameText s t a n b m
  unfolding given_text
  same_text a n b m p q (inl e) = rw (absent-hidden (length s.strings) a n e.0, absent-hidden (length t.strings) b m e.1) refl
  same_text a n b m (inl p) q (inr e) = absurd (half_present a n p.0 e.0)
  same_text a n b m (inr p) (inl q) (inr e) = absurd (half_present b m q.0 e.1)
  same_text a n b m (inr p) (inr q) (inr e) = both_right a n b m p q e.2

  -- ---- list values

  module _ (at len : ℕ) (p : PayloadRight s at len) (q : PayloadRight t at len) (l : SamePayload s t at) where
    items-below : (j : ℕ) → j < word_at (list_part s (span at len)) 0 → (j < list_items s at) × (j < list_items t at)
    items-below j h = (omega (arith, items_are s at len p), omega (arith, items_are s at len p, l.items))

    origins-below : (j : ℕ) → j < word_at (list_part s (span at len)) 4 → (j < list_origins s at) × (j < list_origins t at)
    origins-below j h = (omega (arith, origins_are s at len p), omega (arith, origins_are s at len p, l.origins))

    same-list : SameList s t (list_part s (span at len)) (list_part t (span at len))
    same-list =
        record {
          long = part-long s at len p ∙ sym (part-long t at len q);
          items = items_are s at len p ∙ l.items ∙ sym (items_are t at len q);
          origins = origins_are s at len p ∙ l.origins ∙ sym (origins_are t at len q);
          item-origin = λ j h. let b = items-below j h in
              rw (
                item-word s at len p j 0 b.0 (omega arith),
                item-word s at len p j 1 b.0 (omega arith),
                item-word t at len q j 0 b.1 (omega arith),
                item-word t at len q j 1 b.1 (omega arith),
              )
              (same_text _ _ _ _ (p.item-origin j b.0) (q.item-origin j b.1) (l.item-origin j b.0));
          item-name = λ j h. let b = items-below j h in
              rw (
                item-word s at len p j 2 b.0 (omega arith),
                item-word s at len p j 3 b.0 (omega arith),
                item-word t at len q j 2 b.1 (omega arith),
                item-word t at len q j 3 b.1 (omega arith),
              )
              (same_text _ _ _ _ (inr (p.item-name j b.0)) (inr (q.item-name j b.1)) (l.item-name j b.0));
          item-value = λ j h. let b = items-below j h in
              item-word s at len p j 4 b.0 (omega arith) ∙ l.item-value j b.0 ∙ sym (item-word t at len q j 4 b.1 (omega arith));
          origin = λ j h. let b = origins-below j h in
              rw (
                origin-word s at len p j 0 b.0 (omega arith),
                origin-word s at len p j 1 b.0 (omega arith),
                origin-word t at len q j 0 b.1 (omega arith),
                origin-word t at len q j 1 b.1 (omega arith),
              )
              (same_text _ _ _ _ (inr (p.origin j b.0)) (inr (q.origin j b.1)) (l.origin j b.0));
        }

  -- ---- the fields of node i

  module _ (i : ℕ) where
    -- a field by its words
    abbrev Raw : Field → Type 0
    Raw (text k) = SameBytes s t (f s i k) (f s i (k + 1)) (f t i k) (f t i (k + 1))
    Raw (optional k) = SameBytes s t (f s i k) (f s i (k + 1)) (f t i k) (f t i (k + 1))
    Raw (command k) = SameBytes s t (f s i k) (f s i (k + 1)) (f t i k) (f t i (k + 1))
    Raw (operator k) = SameBytes s t (f s i k) (f s i (k + 1)) (f t i k) (f t i (k + 1))
    Raw (node k) = f s i k ≡ f t i k
    Raw (optionalNode k) = f s i k ≡ f t i k
    Raw (container k) = f s i k ≡ f t i k
    Raw (optionalContainer k) = f s i k ≡ f t i k
    Raw (plain k) = f s i k ≡ f t i k
    Raw (at_most k n) = f s i k ≡ f t i k
    Raw children = (f s i 3 ≡ f t i 3) × (f s i 4 ≡ f t i 4)
    Raw named = (f s i 5 ≡ f t i 5) × (f s i 6 ≡ f t i 6)
    Raw payload = (f s i 0 ≡ f t i 0) × (f s i 1 ≡ f t i 1) × SamePayload s t (f s i 0)
    Raw wrong = Unit {0}

    abbrev RawFields : List Field → Type 0
    RawFields [] = Unit {0}
    RawFields (x ∷ xs) = Raw x × RawFields xs

    payload_field : (at len : ℕ) → f s i 0 ≡ at → f s i 1 ≡ len → PayloadRight s (f s i 0) (f s i 1) → PayloadRight t at len → SamePayload s t (f s i 0)
        → SameList s t (list_part s (span (f s i 0) (f s i 1))) (list_part t (span at len))
    payload_field at len a b p q l =
        subst (λ (x : ℕ). PayloadRight t x len → SameList s t (list_part s (span (f s i 0) (f s i 1))) (list_part t (span x len))) a
        (subst (λ (y : ℕ). PayloadRight t (f s i 0) y → SameList s t (list_part s (span (f s i 0) (f s i 1))) (list_part t (span (f s i 0) y))) b
        (λ r. same-list (f s i 0) (f s i 1) p r l)) q

    same_field : (x : Field) → FieldRight s i x → FieldRight t i x → Raw x → SameField s t i x
    same_field (text k) p q r = same_text _ _ _ _ (inr p) (inr q) r
    same_field (optional k) p q r = same_text _ _ _ _ p q r
    same_field (command k) p q r = same_text _ _ _ _ (inr p.0) (inr q.0) r
    same_field (operator k) p q r = same_text _ _ _ _ (inr p.0) (inr q.0) r
    same_field (node k) p q r = r
    same_field (optionalNode k) p q r = r
    same_field (container k) p q r = r
    same_field (optionalContainer k) p q r = r
    same_field (plain k) p q r = r
    same_field (at_most k n) p q r = r
    same_field children p q r = r
    same_field named p q r = r
    same_field payload p q r = (r.0, r.1, payload_field (f t i 0) (f t i 1) r.0 r.1 p.1 q.1 r.2)
    same_field wrong p q r = tt

    same-fields : (xs : List Field) → ((x : Field) → Memᴰ x xs → FieldRight s i x) → ((x : Field) → Memᴰ x xs → FieldRight t i x) → RawFields xs
        → SameFields s t i xs
    same-fields [] p q r = tt
    same-fields (x ∷ xs) p q r = (
      same_field x (p x (Memᴰ.head refl)) (q x (Memᴰ.head refl)) r.0,
      same-fields xs (λ y m. p y (Memᴰ.tail m)) (λ y m. q y (Memᴰ.tail m)) r.1,
    )

    -- the fields of a kind, from the words that are the same
    module _ (k : Kind) where
      abbrev Words : Type 0
      Words = (j : ℕ) → j < 10 → text_word (fields k) j ≡ false → node_word s i j ≡ node_word t i j

      abbrev Texts : Type 0
      Texts = (j : ℕ) → offset_at (fields k) j ≡ true → SameBytes s t (node_word s i j) (node_word s i (j + 1)) (node_word t i j) (node_word t i (j + 1))

    raw_fields : (k : Kind) → Words k → Texts k → (k ≡ ListValue → SamePayload s t (f s i 0)) → RawFields (fields k)
    unfolding fields text_word offset_at
    raw_fields Container w x l =
        (x 3 refl, (w 5 (omega arith) refl, ((w 6 (omega arith) refl, w 7 (omega arith) refl), ((w 8 (omega arith) refl, w 9 (omega arith) refl), tt))))
    raw_fields Choice w x l = (x 3 refl, (w 5 (omega arith) refl, (w 6 (omega arith) refl, tt)))
    raw_fields Command w x l = (x 3 refl, tt)
    raw_fields Divert w x l =
        (x 3 refl, (w 5 (omega arith) refl, (x 6 refl, (w 8 (omega arith) refl, (w 9 (omega arith) refl, tt)))))
    raw_fields Glue w x l = tt
    raw_fields Operator w x l = (x 3 refl, tt)
    raw_fields Tag w x l = (x 3 refl, tt)
    raw_fields BoolValue w x l = (w 3 (omega arith) refl, tt)
    raw_fields IntValue w x l = (w 3 (omega arith) refl, tt)
    raw_fields FloatValue w x l = (w 3 (omega arith) refl, tt)
    raw_fields StringValue w x l = (x 3 refl, tt)
    raw_fields ListValue w x l = ((w 3 (omega arith) refl, w 4 (omega arith) refl, l refl), tt)
    raw_fields TargetValue w x l = (x 3 refl, (w 5 (omega arith) refl, tt))
    raw_fields PointerValue w x l = (x 3 refl, (w 5 (omega arith) refl, tt))
    raw_fields Assignment w x l = (x 3 refl, (w 5 (omega arith) refl, tt))
    raw_fields Reference w x l = (x 3 refl, (x 5 refl, (w 7 (omega arith) refl, tt)))
    raw_fields Void w x l = tt
    raw_fields Unknown w x l = (tt, tt)

-- ---- parent, place and tag are no words of a text

field_behind : (k : ℕ) → k < 3 → (x : Field) → text_at_field k x ≡ false
field_behind k h (text a) = ne_eqb k (3 + a) (λ e. omega arith)
field_behind k h (optional a) = ne_eqb k (3 + a) (λ e. omega arith)
field_behind k h (command a) = ne_eqb k (3 + a) (λ e. omega arith)
field_behind k h (operator a) = ne_eqb k (3 + a) (λ e. omega arith)
field_behind k h (node a) = refl
field_behind k h (optionalNode a) = refl
field_behind k h (container a) = refl
field_behind k h (optionalContainer a) = refl
field_behind k h (plain a) = refl
field_behind k h (at_most a n) = refl
field_behind k h children = refl
field_behind k h named = refl
field_behind k h payload = refl
field_behind k h wrong = refl

fields-behind : (k : ℕ) → k < 3 → (xs : List Field) → offset_at xs k ≡ false
unfolding offset_at
fields-behind k h [] = refl
fields-behind k h (x ∷ xs) = rw (field_behind k h x) (fields-behind k h xs)

head-word : (xs : List Field) (k : ℕ) → k < 3 → text_word xs k ≡ false
unfolding text_word
head-word xs zero h = refl
head-word xs (suc k) h = rw (fields-behind (suc k) h xs) (fields-behind k (omega arith) xs)

-- ---- a node

module _ (s : Sections) (g : Kept s) (i : ℕ) (h : i < node_count s) where
  tag_text : kind_of (tag_of s i) ≡ Tag → TextRight s (f s i 0) (f s i 1)
  unfolding fields
  tag_text e = subst (λ (k : Kind). (x : Field) → Memᴰ x (fields k) → FieldRight s i x) e (g.rules.fields i h) (text 0) (Memᴰ.head refl)

  -- a tag is a note by its text
  tag_by : kind_of (tag_of s i) ≡ Tag → note_at s i ≡ is_note (text_at s (f s i 0) (f s i 1))
  tag_by e = note_by_lem s i (right-node s i (a_node g i h)) ∙ ap (note_by s i) e ∙ tag_note s i (tag_text e)

  asked-note : NoteAt s i → note_at s i ≡ true
  unfolding kinds
  asked-note n = tag_by (ap kind_of n.0) ∙ n.1

module _ (s t : Sections) (g : Kept s) (h : Kept t) (a : SectionsAsAsked s t) (same_nodes : node_count s ≡ node_count t) where
  module _ (i : ℕ) (l : i < node_count s) where
    below : i < node_count t
    below = omega (arith, same_nodes)

    word : (k : ℕ) → k < 10 → text_word (fields_at s i) k ≡ false → node_word s i k ≡ node_word t i k
    word k b e = (a.node i l).word k (omega (arith, words-some s.version)) e

    head : (k : ℕ) → k < 3 → node_word s i k ≡ node_word t i k
    head k b = word k (omega arith) (head-word (fields_at s i) k b)

    same_kind : kind_of (tag_of s i) ≡ kind_of (tag_of t i)
    same_kind = ap kind_of (head 2 (omega arith))

    text-notes : kind_of (tag_of s i) ≡ Tag → is_note (text_at s (f s i 0) (f s i 1)) ≡ is_note (text_at t (f t i 0) (f t i 1))
    unfolding fields offset_at
    text-notes e =
        ⊎_elim
        (⊎_elim
        (λ z. absurd ((tag_text s g i l e).offset_given (eqb-true (f s i 0) NONE (both_true (is_none (f s i 0)) (is_none (f s i 1)) z.0).0)))
        (λ z. ap is_note z.2))
        (λ n. n.0.1 ∙ sym n.1.1) ((a.node i l).text 3 (ap (λ (k : Kind). offset_at (fields k) 3) e))

    same-note : note_at s i ≡ note_at t i
    same-note = by (tag_or_none (kind_of (tag_of s i)))
      where
        by : (kind_of (tag_of s i) ≡ Tag) ⊎ ((r : Sections) (j : ℕ) → note_by r j (kind_of (tag_of s i)) ≡ false) → note_at s i ≡ note_at t i
        by (inl e) = tag_by s g i l e ∙ text-notes e ∙ sym (tag_by t h i below (sym same_kind ∙ e))
        by (inr n) =
            note_by_lem s i (right-node s i (a_node g i l)) ∙ n s i
            ∙ sym (note_by_lem t i (right-node t i (a_node h i below)) ∙ ap (note_by t i) (sym same_kind) ∙ n t i)

    node-texts : note_at s i ≡ false → Texts s t i (kind_of (tag_of s i))
    node-texts e k z = ⊎_elim (λ x. x) (λ n. absurd (true≢false (sym (asked-note s g i l n.0) ∙ e))) ((a.node i l).text k z)

    node-fields : note_at s i ≡ false → SameFields s t i (fields_at s i)
    node-fields e =
        same-fields s t i (fields_at s i) (g.rules.fields i l)
        (subst (λ (k : Kind). (x : Field) → Memᴰ x (fields k) → FieldRight t i x) (sym same_kind) (h.rules.fields i below))
        (raw_fields s t i (kind_of (tag_of s i)) word (node-texts e) (λ q. a.list i l (list_tag_lem (tag_of s i) q)))

    same-node : SameNode s t i
    same-node =
        record {
          parent = head 0 (omega arith);
          place = head 1 (omega arith);
          tag = head 2 (omega arith);
          note = same-note;
          fields = node-fields;
        }

-- ---- entries

named-right : (s : Sections) → Kept s → (j : ℕ) → j < named_count s → TextRight s (named_word s j 0) (named_word s j 1)
named-right s g j h =
    let o = named-owner s g j h in
    subst (λ (x : ℕ). TextRight s (named_word s x 0) (named_word s x 1)) (sym o.there) o.right.text

item-right : (s : Sections) → Kept s → (j : ℕ) → j < item_count s → TextRight s (item_word s j 0) (item_word s j 1)
item-right s g j h =
    let o = item-owner s g j h in
    subst (λ (x : ℕ). TextRight s (item_word s x 0) (item_word s x 1)) (sym o.there) o.right.text

-- texts of entries that are right in both
module _ (s t : Sections) (count n m : ℕ) (v w : ℕ → ℕ → ℕ) (e : SameEntries s t count n v w) (same : count ≡ m) where
  entry-text : ((j : ℕ) → j < count → TextRight s (v j 0) (v j 1)) → ((j : ℕ) → j < m → TextRight t (w j 0) (w j 1))
      → (j : ℕ) → j < count → SameText s t (v j 0) (v j 1) (w j 0) (w j 1)
  entry-text p q j h = same_text s t _ _ _ _ (inr (p j h)) (inr (q j (omega (arith, same)))) (e.text j h)

-- ---- two images

module _ (xs ys : List ℕ) (d : DifferAsAsked xs ys) where
  -- the counts of sections 0 to 6
  same_count : (k : ℕ) → k < 7 → (section_at xs k).count ≡ (section_at ys k).count
  same_count zero h = d.header 6 (omega arith) (λ e. omega arith) (λ e. omega arith) (λ e. omega arith)
  same_count (suc zero) h = d.header 8 (omega arith) (λ e. omega arith) (λ e. omega arith) (λ e. omega arith)
  same_count (suc (suc zero)) h = d.header 10 (omega arith) (λ e. omega arith) (λ e. omega arith) (λ e. omega arith)
  same_count (suc (suc (suc zero))) h = d.header 12 (omega arith) (λ e. omega arith) (λ e. omega arith) (λ e. omega arith)
  same_count (suc (suc (suc (suc zero)))) h = d.header 14 (omega arith) (λ e. omega arith) (λ e. omega arith) (λ e. omega arith)
  same_count (suc (suc (suc (suc (suc zero))))) h = d.header 16 (omega arith) (λ e. omega arith) (λ e. omega arith) (λ e. omega arith)
  same_count (suc (suc (suc (suc (suc (suc zero)))))) h = d.header 18 (omega arith) (λ e. omega arith) (λ e. omega arith) (λ e. omega arith)
  same_count (suc (suc (suc (suc (suc (suc (suc k))))))) h = absurd (omega arith)

  module _ (ox : Opens xs) (oy : Opens ys) (g : Kept (sections_of xs)) (h : Kept (sections_of ys)) where
    abbrev s : Sections
    s = sections_of xs

    abbrev t : Sections
    t = sections_of ys

    same_nodes : node_count s ≡ node_count t
    unfolding view_of
    same_nodes = (view-counts xs ox).nodes ∙ same_count 0 (omega arith) ∙ sym (view-counts ys oy).nodes

    same-children : child_count s ≡ child_count t
    unfolding view_of
    same-children = (view-counts xs ox).children ∙ same_count 1 (omega arith) ∙ sym (view-counts ys oy).children

    same-named : named_count s ≡ named_count t
    unfolding view_of
    same-named = (view-counts xs ox).named ∙ same_count 2 (omega arith) ∙ sym (view-counts ys oy).named

    same-definitions : definition_count s ≡ definition_count t
    unfolding view_of
    same-definitions = (view-counts xs ox).definitions ∙ same_count 3 (omega arith) ∙ sym (view-counts ys oy).definitions

    same-items : item_count s ≡ item_count t
    unfolding view_of
    same-items = (view-counts xs ox).items ∙ same_count 4 (omega arith) ∙ sym (view-counts ys oy).items

    same_index : index_count s ≡ index_count t
    unfolding view_of
    same_index = (view-counts xs ox).index ∙ same_count 5 (omega arith) ∙ sym (view-counts ys oy).index

    same-payload : length s.payload ≡ length t.payload
    unfolding view_of
    same-payload = (view-counts xs ox).payload ∙ same_count 6 (omega arith) ∙ sym (view-counts ys oy).payload

    same_version : s.version ≡ t.version
    unfolding view_of
    same_version =
        version_by xs (view_of xs) ∙ d.header 2 (omega arith) (λ e. omega arith) (λ e. omega arith) (λ e. omega arith) ∙ sym (version_by ys (view_of ys))

    child-words : s.children ≡ t.children
    unfolding child_word
    child-words = ext_get_or 0 s.children t.children same-children d.sections.child

    alike : SectionsAlike s t
    alike =
        record {
          version = same_version;
          node-count = same_nodes;
          node = same-node s t g h d.sections same_nodes;
          children = child-words;
          named_count_lem = same-named;
          named-text = entry-text s t _ _ _ _ _ d.sections.named same-named (named-right s g) (named-right t h);
          named-node = λ j l. d.sections.named.word j 2 l (omega arith) (omega arith);
          definition-count = same-definitions;
          definition-text =
              entry-text s t _ _ _ _ _ d.sections.definition same-definitions (λ j l. (g.rules.definitions j l).text) (λ j l. (h.rules.definitions j l).text);
          definition-first = λ j l. d.sections.definition.word j 2 l (omega arith) (omega arith);
          definition-items = λ j l. d.sections.definition.word j 3 l (omega arith) (omega arith);
          item_count_lem = same-items;
          item-text = entry-text s t _ _ _ _ _ d.sections.item same-items (item-right s g) (item-right t h);
          item-value = λ j l. d.sections.item.word j 2 l (omega arith) (omega arith);
          index-count = same_index;
          index-text = entry-text s t _ _ _ _ _ d.sections.index same_index (λ j l. (g.rules.index j l).text) (λ j l. (h.rules.index j l).text);
          index-node = λ j l. d.sections.index.word j 2 l (omega arith) (omega arith);
          payload-length = same-payload;
        }

pub asked-unseen : AskedUnseen
asked-unseen xs ys bx by ax ay d =
    let rx = accepted-right xs ax in
    let ry = accepted-right ys ay in
    record {
      ink_version = d.header 3 (omega arith) (λ e. omega arith) (λ e. omega arith) (λ e. omega arith);
      sections = alike xs ys d (right-header xs rx.header) (right-header ys ry.header) (kept xs bx rx) (kept ys by ry);
    }
