-- Every part that a query answers lies in the slice, whatever the bytes and the view.
use Rattle.std.specs.Prelude.{None, Option, Some}
use Prim.Native.Nat.{ℕ, ◌+◌, ◌*◌, ◌≤◌}
use mathlib.Core.Path.{◌≡◌, refl, sym, ap, ◌∙◌, subst}
use mathlib.Core.List.{List, []}
use mathlib.Core.Bool.{Bool, true, false, cond, ◌&&◌}
use native.Mathlib.Omega.{arith}
use lib.ListN.{length}
use lib.Seq.{take-length}
use lib.Dec.{leb, ltb}
use borrow.Author.Tests.{leb-true, leb-false}
use Rattle.laws.proofs.Flags.{both_true}
use Rattle.image.specs.Sections.{Sections, named_count, definition_count, item_count, named_word, definition_word, item_word, f, tag_of, inside, part_at, text_or_empty, present, inside_container}
use Rattle.words.specs.Words.{word_at}
use Rattle.image.specs.declared.Section.{Section}
use Rattle.image.specs.Header.{section_bytes, sections_by}
use Rattle.image.specs.Entries.{node_in}
use Rattle.image.proofs.Parts.{part_length, part_of_part, section-inside, section-outside, text-inside, text-outside}
use Rattle.image.proofs.Views.{strings_by, payload_by}
use Rattle.records.specs.Fields.{kind_of, Field, text, optional, command, operator, node, optionalNode, container, optionalContainer, plain, at_most, children, named, payload, wrong}
use Rattle.definitions.specs.Definitions.{first_item, number_of_items}
use Rattle.views.specs.declared.Span.{Span}
use Rattle.views.specs.declared.NodeView.{NodeView}
use Rattle.views.specs.declared.NodeKindView.{NodeKindView}
use Rattle.views.specs.declared.NamedChildView.{NamedChildView}
use Rattle.views.specs.declared.ListEntry.{ListEntry}
use Rattle.views.specs.declared.DefinitionView.{DefinitionView}
use Rattle.views.specs.declared.ItemView.{ItemView}
use Rattle.views.specs.View.{signed, span, shown, optional_text, with_kind, record_view, node_view}
use Rattle.views.specs.Children.{named_entry, named_query, text_query, shown_text}
use Rattle.views.specs.Lists.{list_part, item_entry_word, origin_entry_word, list_entry, name_in, list_entry_name, list_origin, definition_query, item_entry, item_query}
use Rattle.promises.specs.Answers.{given, refused, of_node, of_named, of_text, of_entry, of_definition, of_item}
use Rattle.promises.specs.Readers.{texts_in}
use Rattle.promises.specs.PartsInside.{InSlice, TextInSlice, ListInSlice, PartsInside, ListEntriesInside, AnyPartsInside, AnyListEntriesInside}
use Rattle.promises.proofs.Answers.{given-equal, given-refused}
use Rattle.promises.proofs.ViewParts.{All, kind_at, optional_all, FieldShows, view-texts, view-lists}
use Rattle.promises.proofs.Whole.{shown-part, shown-length}

-- ---- parts of parts

-- a part of a list lies in it, the empty one too
pub part_in : (bs : List ℕ) (at len : ℕ) → at + len ≤ length bs → InSlice bs (part_at bs at len)
part_in bs at len h =
    let n = part_length bs at len h in
    record { at = at; inside = omega (arith, n); part_is = ap (part_at bs at) (sym n) }

empty_in : (bs : List ℕ) → InSlice bs []
unfolding part_at
empty_in bs = record { at = 0; inside = omega arith; part_is = refl }

whole_in : (bs : List ℕ) → InSlice bs bs
unfolding part_at
whole_in bs = record { at = 0; inside = omega arith; part_is = sym (take-length bs) }

part_of : (bs xs : List ℕ) → InSlice bs xs → (at len : ℕ) → at + len ≤ length xs → InSlice bs (part_at xs at len)
part_of bs xs p at len h =
    subst (InSlice bs) (sym (ap (λ (l : List ℕ). part_at l at len) p.part_is ∙ part_of_part bs p.at (length xs) at len h))
    (part_in bs (p.at + at) len (omega (arith, p.inside)))

-- a section lies in the bytes
section_in : (bs : List ℕ) (s : Section) (size : ℕ) → InSlice bs (section_bytes bs s size)
section_in bs s size = by (leb (s.offset + s.count * size) (length bs)) refl
  where
    by : (b : Bool) → leb (s.offset + s.count * size) (length bs) ≡ b → InSlice bs (section_bytes bs s size)
    by true e =
        let h = leb-true (s.offset + s.count * size) (length bs) e in
        subst (InSlice bs) (sym (section-inside bs s size h)) (part_in bs s.offset (s.count * size) h)
    by false e =
        subst (InSlice bs) (sym (section-outside bs s size (leb-false (s.offset + s.count * size) (length bs) e))) (empty_in bs)

-- a text of a list of bytes, none where it is not inside
text_in : (bs xs : List ℕ) → InSlice bs xs → (at len : ℕ) → InSlice bs (text_or_empty xs at len)
text_in bs xs p at len = by (leb (at + len) (length xs)) refl
  where
    by : (b : Bool) → leb (at + len) (length xs) ≡ b → InSlice bs (text_or_empty xs at len)
    by true e = let h = leb-true (at + len) (length xs) e in subst (InSlice bs) (sym (text-inside xs at len h)) (part_of bs xs p at len h)
    by false e = subst (InSlice bs) (sym (text-outside xs at len (leb-false (at + len) (length xs) e))) (empty_in bs)

-- ---- answers: what is given passed its test

shown-inside : (n at len : ℕ) → shown n at len ≡ true → at + len ≤ n
shown-inside n at len h = leb-true (at + len) n (both_true (present at len) _ h).1

node-given : (r : Option NodeView) (v : NodeView) → of_node r ≡ given v → r ≡ Some v
node-given (Some w) v e = ap Some (given-equal w v e)
node-given None v e = absurd (given-refused 17 v e)

module _ {A : Type 0} (P : A → Type 0) where
  -- an answer by a test: what is given is what stands there, and the test passed
  tested : (b : Bool) (x y : A) → (b ≡ true → P x) → cond b (given x) (refused 18) ≡ given y → P y
  tested true x y h e = subst P (given-equal x y e) (h refl)
  tested false x y h e = absurd (given-refused 17 y e)

named_by_lem : (b : Bool) (x : NamedChildView) → of_named (cond b (Some x) None) ≡ cond b (given x) (refused 18)
named_by_lem true x = refl
named_by_lem false x = refl

text_by : (b : Bool) (x : Span) → of_text (cond b (Some x) None) ≡ cond b (given x) (refused 18)
text_by true x = refl
text_by false x = refl

entry_by : (b : Bool) (x : ListEntry) → of_entry (cond b (Some x) None) ≡ cond b (given x) (refused 18)
entry_by true x = refl
entry_by false x = refl

definition_by : (b : Bool) (x : DefinitionView) → of_definition (cond b (Some x) None) ≡ cond b (given x) (refused 18)
definition_by true x = refl
definition_by false x = refl

item_by : (b : Bool) (x : ItemView) → of_item (cond b (Some x) None) ≡ cond b (given x) (refused 18)
item_by true x = refl
item_by false x = refl

-- behind another test
named-behind : (b : Bool) (r : Option NamedChildView) (c : NamedChildView) → of_named (cond b r None) ≡ given c → of_named r ≡ given c
named-behind true r c e = e
named-behind false r c e = absurd (given-refused 17 c e)

item-behind : (b : Bool) (r : Option ItemView) (c : ItemView) → of_item (cond b r None) ≡ given c → of_item r ≡ given c
item-behind true r c e = e
item-behind false r c e = absurd (given-refused 17 c e)

-- ---- the queries

module _ (bs : List ℕ) (s : Sections) (strings-in : InSlice bs s.strings) (payload-in : InSlice bs s.payload) where
  shown_in : (at len : ℕ) → shown (length s.strings) at len ≡ true → TextInSlice bs s (span at len)
  shown_in at len h =
      record {
        whole = shown-length s at len h;
        part = subst (InSlice bs) (sym (shown-part s at len h)) (part_of bs s.strings strings-in at len (shown-inside (length s.strings) at len h));
      }

  list_in : (at len : ℕ) → leb (at + len) (length s.payload) ≡ true → ListInSlice bs s (span at len)
  unfolding list_part
  list_in at len e =
      let h = leb-true (at + len) (length s.payload) e in
      let q = text-inside s.payload at len h in
      record {
        whole = ap length q ∙ part_length s.payload at len h;
        part = text_in bs s.payload payload-in at len;
      }

  field_shows : (i : ℕ) (x : Field) → FieldShows s (TextInSlice bs s) i x
  field_shows i (text k) = shown_in (f s i k) (f s i (k + 1))
  field_shows i (optional k) = shown_in (f s i k) (f s i (k + 1))
  field_shows i (command k) = tt
  field_shows i (operator k) = tt
  field_shows i (node k) = tt
  field_shows i (optionalNode k) = tt
  field_shows i (container k) = tt
  field_shows i (optionalContainer k) = tt
  field_shows i (plain k) = tt
  field_shows i (at_most k n) = tt
  field_shows i children = tt
  field_shows i named = tt
  field_shows i payload = tt
  field_shows i wrong = tt

  -- the kind of a view that is answered
  pub record Shown (i : ℕ) (v : NodeView) : Type 0 where
    pub kind_is : kind_at s i (kind_of (tag_of s i)) ≡ Some v.kind

  view-shown : (i : ℕ) (v : NodeView) → node_view s i ≡ Some v → Shown i v
  unfolding node_view record_view
  view-shown i v e = by (inside s i) (kind_at s i (kind_of (tag_of s i))) refl e
    where
      not-view : None ≡ Some v → ⊥
      not-view q = let z : ◌≡◌ {A = ℕ} 0 1 = cc in omega arith

      by : (b : Bool) (k : Option NodeKindView) → kind_at s i (kind_of (tag_of s i)) ≡ k
          → cond b (with_kind s.strings (length s.payload) (node_in s i) k) None ≡ Some v → Shown i v
      by true (Some k) q h = record { kind_is = q ∙ ap Some (ap kind_in h) }
        where
          kind_in : Option NodeView → NodeKindView
          kind_in (Some w) = w.kind
          kind_in None = k
      by true None q h = absurd (not-view h)
      by false k q h = absurd (not-view h)

  parts-inside : PartsInside bs s
  unfolding text_query shown_text list_part named_query named_entry definition_query item_entry item_query
  parts-inside =
      record {
        texts = λ i v e.
            view-texts s (TextInSlice bs s) i (kind_of (tag_of s i)) v.kind (λ x m. field_shows i x)
            (view-shown i v (node-given (node_view s i) v e)).kind_is;
        lists = λ i v e.
            view-lists s (ListInSlice bs s) i (kind_of (tag_of s i)) v.kind (λ q. list_in (f s i 0) (f s i 1))
            (view-shown i v (node-given (node_view s i) v e)).kind_is;
        text = λ t u e.
            tested (TextInSlice bs s) (shown (length s.strings) t.offset t.len) t u (shown_in t.offset t.len)
            (sym (text_by (shown (length s.strings) t.offset t.len) t) ∙ e);
        text-part = λ t. any_text t.offset t.len;
        list-part = λ p. text_in bs s.payload payload-in p.offset p.len;
        named = λ i j c e. named_at_lem (f s i 5 + j) c (named-behind (inside_container s i && ltb j (f s i 6)) _ c e);
        definition = λ d e q. definition_at_lem d e q;
        item = item_at;
        definition-item = λ d j e q. item_at (first_item s d + j) e (item-behind (ltb d (definition_count s) && ltb j (number_of_items s d)) _ e q);
      }
    where
      any_text : (at len : ℕ) → InSlice bs (shown_text s.strings at len)
      any_text at len = by (shown (length s.strings) at len) refl
        where
          by : (b : Bool) → shown (length s.strings) at len ≡ b → InSlice bs (shown_text s.strings at len)
          by true e = (shown_in at len e).part
          by false e = rw e (empty_in bs)

      named_at_lem : (k : ℕ) (c : NamedChildView) → of_named (named_entry s k) ≡ given c → TextInSlice bs s c.name
      named_at_lem k c e =
          tested (λ (x : NamedChildView). TextInSlice bs s x.name) (ltb k (named_count s) && shown (length s.strings) (named_word s k 0) (named_word s k 1))
          (record { name = span (named_word s k 0) (named_word s k 1); node = named_word s k 2 }) c
          (λ h. shown_in (named_word s k 0) (named_word s k 1) (both_true (ltb k (named_count s)) _ h).1)
          (sym (named_by_lem (ltb k (named_count s) && shown (length s.strings) (named_word s k 0) (named_word s k 1)) _) ∙ e)

      definition_at_lem : (d : ℕ) (c : DefinitionView) → of_definition (definition_query s d) ≡ given c → TextInSlice bs s c.name
      definition_at_lem d c e =
          tested (λ (x : DefinitionView). TextInSlice bs s x.name)
          (ltb d (definition_count s) && shown (length s.strings) (definition_word s d 0) (definition_word s d 1)) _ c
          (λ h. shown_in (definition_word s d 0) (definition_word s d 1) (both_true (ltb d (definition_count s)) _ h).1)
          (sym (definition_by (ltb d (definition_count s) && shown (length s.strings) (definition_word s d 0) (definition_word s d 1)) _) ∙ e)

      item_at : (k : ℕ) (c : ItemView) → of_item (item_entry s k) ≡ given c → TextInSlice bs s c.name
      item_at k c e =
          tested (λ (x : ItemView). TextInSlice bs s x.name) (ltb k (item_count s) && shown (length s.strings) (item_word s k 0) (item_word s k 1)) _ c
          (λ h. shown_in (item_word s k 0) (item_word s k 1) (both_true (ltb k (item_count s)) _ h).1)
          (sym (item_by (ltb k (item_count s) && shown (length s.strings) (item_word s k 0) (item_word s k 1)) _) ∙ e)

pub any_parts-inside : AnyPartsInside
any_parts-inside bs v =
    parts-inside bs (sections_by bs v) (subst (InSlice bs) (sym (strings_by bs v)) (section_in bs v.strings 1))
    (subst (InSlice bs) (sym (payload_by bs v)) (section_in bs v.payload 1))

-- ---- the list reader on two slices

module _ (payload strings : List ℕ) (j : ℕ) where
  abbrev name_shown : Bool
  name_shown = shown (length strings) (item_entry_word payload j 2) (item_entry_word payload j 3)

  abbrev found : Bool
  found = leb (8 + j * 20 + 20) (length payload) && ltb j (word_at payload 0) && name_shown

  abbrev its_entry : ListEntry
  its_entry =
      record {
        origin = optional_text (length strings) (item_entry_word payload j 0) (item_entry_word payload j 1);
        name = span (item_entry_word payload j 2) (item_entry_word payload j 3);
        value = signed (item_entry_word payload j 4);
      }

  -- whatever holds of the entry that is read holds of the one that is answered
  entry-answered : (P : ListEntry → Type 0) → (found ≡ true → P its_entry) → (e : ListEntry) → of_entry (list_entry payload strings j) ≡ given e → P e
  unfolding list_entry
  entry-answered P h e q = tested P found its_entry e h (sym (entry_by found its_entry) ∙ q)

  abbrev InStrings : Span → Type 0
  InStrings t = t.offset + t.len ≤ length strings

  -- the strings alone
  abbrev own : Sections
  own =
      record { version = 0; nodes = []; children = []; named = []; definitions = []; items = []; index = []; payload = []; strings = strings }

  name-inside : found ≡ true → InStrings its_entry.name
  name-inside h =
      shown-inside (length strings) (item_entry_word payload j 2) (item_entry_word payload j 3)
      (both_true (leb (8 + j * 20 + 20) (length payload) && ltb j (word_at payload 0)) name_shown h).1

  name-part_in : (r : Option ListEntry) → InSlice strings (name_in strings r)
  name-part_in (Some e) = text_in strings strings (whole_in strings) e.name.offset e.name.len
  name-part_in None = empty_in strings

  origin-inside : (t : Span) → of_text (list_origin payload strings j) ≡ given t → InStrings t
  unfolding list_origin
  origin-inside t q =
      let last = shown (length strings) (origin_entry_word payload j 0) (origin_entry_word payload j 1) in
      let first = leb (8 + word_at payload 0 * 20 + j * 8 + 8) (length payload) in
      let second = ltb j (word_at payload 4) in
      tested InStrings (first && second && last) (span (origin_entry_word payload j 0) (origin_entry_word payload j 1)) t
      (λ h. shown-inside (length strings) (origin_entry_word payload j 0) (origin_entry_word payload j 1) (both_true (first && second) last h).1)
      (sym (text_by (first && second && last) (span (origin_entry_word payload j 0) (origin_entry_word payload j 1))) ∙ q)

  pub list-entries-inside : ListEntriesInside payload strings j
  unfolding list_entry_name
  list-entries-inside =
      record {
        name = entry-answered (λ (e : ListEntry). InStrings e.name) name-inside;
        origin = entry-answered (λ (e : ListEntry). All InStrings (texts_in e.origin))
            (λ h. optional_all own InStrings (item_entry_word payload j 0) (item_entry_word payload j 1) (shown-inside (length strings) (item_entry_word payload j 0) (item_entry_word payload j 1)));
        name-part = name-part_in (list_entry payload strings j);
        list-origin = origin-inside;
      }

pub any_list-entries-inside : AnyListEntriesInside
any_list-entries-inside = list-entries-inside
