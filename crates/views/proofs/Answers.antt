-- What a query answers, by the entries that were found and the tests that were made.
use Rattle.std.specs.Prelude.{None, Option, Some, ℕ}
use Prim.Native.Nat.{ℕ, ◌+◌, ◌*◌, ◌≤◌, ◌<◌}
use mathlib.Core.Path.{◌≡◌, sym, ap, ◌∙◌}
use mathlib.Core.List.{List, []}
use mathlib.Core.Bool.{Bool, true, false, not}
use native.Mathlib.Omega.{arith}
use native.Mathlib.Nat.{add-zero}
use lib.ListN.{length}
use lib.IntN.{ℤ}
use lib.Dec.{leb}
use borrow.Author.Tests.{eq-eqb, ne_eqb, lt-ltb, le-ltb, le-leb, lt-leb, leb-true, not-true, not-false}
use Rattle.laws.proofs.Flags.{both_true}
use Rattle.words.specs.Words.{word_at, NONE}
use Rattle.image.specs.declared.NodeRecord.{NodeRecord}
use Rattle.image.specs.declared.TextEntry.{TextEntry}
use Rattle.image.specs.declared.Definition.{Definition}
use Rattle.image.specs.Sections.{list_head_size, list_item_size, list_origin_size, Sections, f, named_word, definition_word, item_word, inside_container, present, text_or_empty}
use Rattle.image.specs.Entries.{node_in, definition_in}
use Rattle.image.specs.declared.ImageView.{ImageView}
use Rattle.image.specs.Header.{section_bytes, sections_by}
use Rattle.image.proofs.Parts.{text-inside}
use Rattle.image.proofs.Views.{payload_by, strings_by}
use Rattle.definitions.specs.Definitions.{number_of_items}
use Rattle.views.specs.declared.Span.{Span}
use Rattle.views.specs.View.{signed, span, shown, optional_text, record_view, node_view}
use Rattle.views.specs.Found.{node_found, container_found, child_found, named_found, definition_found, item_found}
use Rattle.views.specs.Children.{child_count_of, named_count_of, child_query, named_entry, named_query, text_query, shown_text}
use Rattle.views.specs.Lists.{list_part, list_entry, list_origin, definition_query, item_entry, item_query}
use Rattle.views.proofs.Reading.{no_node, a_node, no_container_lem, a_container, no_named, a_named, no_item, an_item, no_definition, a_definition}
use Rattle.views.specs.declared.NodeView.{NodeView}
use Rattle.views.specs.declared.NamedChildView.{NamedChildView}
use Rattle.views.specs.declared.ItemView.{ItemView}

-- ---- a node's view

module _ (s : Sections) (i : ℕ) (r : Option NodeRecord) (e : r ≡ node_found s i) where
  pub view-missing : r ≡ None → None ≡ node_view s i
  unfolding node_view
  view-missing h = rw (no_node s i r e h)

  pub view-found : (x : NodeRecord) → r ≡ Some x → (payload : ℕ) (strings : List ℕ) → length s.payload ≡ payload → s.strings ≡ strings
      → (a : Option NodeView) → a ≡ record_view strings payload x → a ≡ node_view s i
  unfolding node_view
  view-found x h payload strings p q a g =
      let known = a_node s i r e x h in
      rw known.0 (g ∙ λ j. record_view (sym q j) (sym p j) (known.1 j))

-- ---- children

module _ (s : Sections) (i : ℕ) (r : Option NodeRecord) (e : r ≡ container_found s i) where
  pub child-count-missing : r ≡ None → None ≡ child_count_of s i
  unfolding child_count_of
  child-count-missing h = rw (no_container_lem s i r e h)

  pub named-count-missing : r ≡ None → None ≡ named_count_of s i
  unfolding named_count_of
  named-count-missing h = rw (no_container_lem s i r e h)

  pub child-missing : (j : ℕ) → r ≡ None → None ≡ child_query s i j
  unfolding child_query
  child-missing j h = rw (no_container_lem s i r e h)

  pub named-missing : (j : ℕ) → r ≡ None → None ≡ named_query s i j
  unfolding named_query
  named-missing j h = rw (no_container_lem s i r e h)

  module _ (x : NodeRecord) (h : r ≡ Some x) where
    yes_container : inside_container s i ≡ true
    yes_container = (a_container s i r e x h).0

    same_record : x ≡ node_in s i
    same_record = (a_container s i r e x h).1

    pub child-count-found : Some x.f4 ≡ child_count_of s i
    unfolding child_count_of
    child-count-found = rw yes_container (λ k. Some (same_record k).f4)

    pub named-count-found : Some x.f6 ≡ named_count_of s i
    unfolding named_count_of
    named-count-found = rw yes_container (λ k. Some (same_record k).f6)

    module _ (j : ℕ) where
      pub child-past : x.f4 ≤ j → None ≡ child_query s i j
      unfolding child_query
      child-past l = rw (yes_container, le-ltb j (f s i 4) (rw (ap (λ (y : NodeRecord). y.f4) same_record) at l))

      pub child-found : j < x.f4 → (a : Option ℕ) → a ≡ child_found s (x.f3 + j) → a ≡ child_query s i j
      unfolding child_query child_found
      child-found l a g =
          rw (yes_container, lt-ltb j (f s i 4) (rw (ap (λ (y : NodeRecord). y.f4) same_record) at l))
          (g ∙ λ k. child_found s ((same_record k).f3 + j))

      pub named_past : x.f6 ≤ j → None ≡ named_query s i j
      unfolding named_query
      named_past l = rw (yes_container, le-ltb j (f s i 6) (rw (ap (λ (y : NodeRecord). y.f6) same_record) at l))

      pub named-found : j < x.f6 → (a : Option NamedChildView) → a ≡ named_entry s (x.f5 + j) → a ≡ named_query s i j
      unfolding named_query
      named-found l a g =
          rw (yes_container, lt-ltb j (f s i 6) (rw (ap (λ (y : NodeRecord). y.f6) same_record) at l))
          (g ∙ λ k. named_entry s ((same_record k).f5 + j))

-- ---- entries with a text: by the entry, and whether its text is shown

module _ (s : Sections) (ss : List ℕ) (q : s.strings ≡ ss) where
  module _ (k : ℕ) (r : Option TextEntry) where
    module _ (e : r ≡ named_found s k) where
      pub entry-missing : r ≡ None → None ≡ named_entry s k
      unfolding named_entry
      entry-missing h = rw (no_named s k r e h)

      module _ (x : TextEntry) (h : r ≡ Some x) (b : Bool) (g : b ≡ shown (length ss) x.offset x.len) where
        named-told : b ≡ shown (length s.strings) (named_word s k 0) (named_word s k 1)
        named-told = g ∙ λ j. shown (length (sym q j)) ((a_named s k r e x h).1 j).offset ((a_named s k r e x h).1 j).len

        pub entry-hidden : b ≡ false → None ≡ named_entry s k
        unfolding named_entry
        entry-hidden n = rw ((a_named s k r e x h).0, ← named-told, n)

        pub entry-shown : b ≡ true → Some (record { name = span x.offset x.len; node = x.value }) ≡ named_entry s k
        unfolding named_entry
        entry-shown y =
            rw ((a_named s k r e x h).0, ← named-told, y)
            (λ j. let z = (a_named s k r e x h).1 j in Some (record { name = span z.offset z.len; node = z.value }))

    module _ (e : r ≡ item_found s k) where
      pub item-missing : r ≡ None → None ≡ item_entry s k
      unfolding item_entry
      item-missing h = rw (no_item s k r e h)

      module _ (x : TextEntry) (h : r ≡ Some x) (b : Bool) (g : b ≡ shown (length ss) x.offset x.len) where
        item-told : b ≡ shown (length s.strings) (item_word s k 0) (item_word s k 1)
        item-told = g ∙ λ j. shown (length (sym q j)) ((an_item s k r e x h).1 j).offset ((an_item s k r e x h).1 j).len

        pub item-hidden : b ≡ false → None ≡ item_entry s k
        unfolding item_entry
        item-hidden n = rw ((an_item s k r e x h).0, ← item-told, n)

        pub item-shown : b ≡ true → (v : ℤ) → v ≡ signed x.value
            → Some (record { name = span x.offset x.len; value = v }) ≡ item_entry s k
        unfolding item_entry
        item-shown y v p =
            rw ((an_item s k r e x h).0, ← item-told, y, p)
            (λ j. let z = (an_item s k r e x h).1 j in Some (record { name = span z.offset z.len; value = signed z.value }))

  module _ (d : ℕ) (r : Option Definition) (e : r ≡ definition_found s d) where
    pub definition-missing : r ≡ None → None ≡ definition_query s d
    unfolding definition_query
    definition-missing h = rw (no_definition s d r e h)

    module _ (x : Definition) (h : r ≡ Some x) (b : Bool) (g : b ≡ shown (length ss) x.offset x.len) where
      definition-told : b ≡ shown (length s.strings) (definition_word s d 0) (definition_word s d 1)
      definition-told = g ∙ λ j. shown (length (sym q j)) ((a_definition s d r e x h).1 j).offset ((a_definition s d r e x h).1 j).len

      pub definition-hidden : b ≡ false → None ≡ definition_query s d
      unfolding definition_query
      definition-hidden n = rw ((a_definition s d r e x h).0, ← definition-told, n)

      pub definition-shown : b ≡ true → Some (record { name = span x.offset x.len; items = x.count }) ≡ definition_query s d
      unfolding definition_query
      definition-shown y =
          rw ((a_definition s d r e x h).0, ← definition-told, y)
          (λ j. let z = (a_definition s d r e x h).1 j in Some (record { name = span z.offset z.len; items = z.count }))

  -- a text by its place
  module _ (t : Span) (b : Bool) (g : b ≡ shown (length ss) t.offset t.len) where
    pub text-hidden : b ≡ false → None ≡ text_query s t
    unfolding text_query
    text-hidden n = rw (q, ← g, n)

    pub text-shown : b ≡ true → Some t ≡ text_query s t
    unfolding text_query
    text-shown y = rw (q, ← g, y)

-- the j-th item of a definition
module _ (s : Sections) (d j : ℕ) (r : Option Definition) (e : r ≡ definition_found s d) where
  pub items-missing : r ≡ None → None ≡ item_query s d j
  unfolding item_query
  items-missing h = rw (no_definition s d r e h)

  module _ (x : Definition) (h : r ≡ Some x) where
    same-definition : x ≡ definition_in s d
    same-definition = (a_definition s d r e x h).1

    pub items-past : x.count ≤ j → None ≡ item_query s d j
    unfolding item_query
    items-past l = rw ((a_definition s d r e x h).0, le-ltb j (number_of_items s d) (rw (ap (λ (y : Definition). y.count) same-definition) at l))

    pub items-found : j < x.count → (a : Option ItemView) → a ≡ item_entry s (x.first + j) → a ≡ item_query s d j
    unfolding item_query
    items-found l a g =
        rw ((a_definition s d r e x h).0, lt-ltb j (number_of_items s d) (rw (ap (λ (y : Definition). y.count) same-definition) at l))
        (g ∙ λ k. item_entry s ((same-definition k).first + j))

-- ---- the part of the strings that holds a text

module _ (strings : List ℕ) (at len : ℕ) (b : Bool) (g : b ≡ shown (length strings) at len) where
  pub part-shown : b ≡ true → (p : List ℕ) → p ≡ text_or_empty strings at len → p ≡ shown_text strings at len
  unfolding shown_text
  part-shown y p e =
      let inside = leb-true (at + len) (length strings) (both_true (present at len) (leb (at + len) (length strings)) (sym g ∙ y)).1 in
      rw (← g, y) (e ∙ text-inside strings at len inside)

  pub part-hidden : b ≡ false → [] ≡ shown_text strings at len
  unfolding shown_text
  part-hidden n = rw (← g, n)

-- of a view's strings; of its payload, which holds a list value
module _ (bs : List ℕ) (v : ImageView) (t : Span) (part p : List ℕ) where
  pub text_of : part ≡ section_bytes bs v.strings 1 → p ≡ shown_text part t.offset t.len → p ≡ shown_text (sections_by bs v).strings t.offset t.len
  text_of q e = e ∙ λ j. shown_text ((q ∙ sym (strings_by bs v)) j) t.offset t.len

  pub payload_of : part ≡ section_bytes bs v.payload 1 → p ≡ text_or_empty part t.offset t.len → p ≡ list_part (sections_by bs v) t
  unfolding list_part
  payload_of q e = e ∙ λ j. text_or_empty ((q ∙ sym (payload_by bs v)) j) t.offset t.len

-- ---- whether a text is shown

module _ (strings at len : ℕ) where
  pub no_offset : at ≡ NONE → false ≡ shown strings at len
  no_offset h = rw (eq-eqb at NONE h)

  pub no_length : (at ≡ NONE → ⊥) → len ≡ NONE → false ≡ shown strings at len
  no_length d h = rw (ne_eqb at NONE d, eq-eqb len NONE h)

  pub within : (at ≡ NONE → ⊥) → (len ≡ NONE → ⊥) → leb (at + len) strings ≡ shown strings at len
  within d k = rw (ne_eqb at NONE d, ne_eqb len NONE k)

-- ---- entries of a list value

module _ (payload strings : List ℕ) (j : ℕ) where
  pub list-short : length payload < list_head_size + j * list_item_size + list_item_size → None ≡ list_entry payload strings j
  unfolding list_entry
  list-short h = rw (lt-leb (list_head_size + j * list_item_size + list_item_size) (length payload) h)

  module _ (long : list_head_size + j * list_item_size + list_item_size ≤ length payload) where
    pub list-past : (w : ℕ) → w ≡ word_at payload 0 → w ≤ j → None ≡ list_entry payload strings j
    unfolding list_entry
    list-past w e h = rw (le-leb (list_head_size + j * list_item_size + list_item_size) (length payload) long, ← e, le-ltb j w h)

    module _ (w : ℕ) (e : w ≡ word_at payload 0) (h : j < w) (at len : ℕ) (a : at ≡ word_at payload (list_head_size + j * list_item_size + 8)) (l : len ≡ word_at payload (list_head_size + j * list_item_size + 12))
        (b : Bool) (g : b ≡ shown (length strings) at len) where
      pub list-hidden : not b ≡ true → None ≡ list_entry payload strings j
      unfolding list_entry
      list-hidden n = rw (le-leb (list_head_size + j * list_item_size + list_item_size) (length payload) long, ← e, lt-ltb j w h, ← a, ← l, ← g, not-true b n)

      pub list-shown : not b ≡ false → (o p v : ℕ) → o ≡ word_at payload (list_head_size + j * list_item_size) → p ≡ word_at payload (list_head_size + j * list_item_size + 4)
          → v ≡ word_at payload (list_head_size + j * list_item_size + 16) → (origin : Option Span) → origin ≡ optional_text (length strings) o p → (value : ℤ) → value ≡ signed v
          → Some (record { origin = origin; name = span at len; value = value }) ≡ list_entry payload strings j
      unfolding list_entry
      list-shown n o p v oe pe ve origin f value z =
          rw (le-leb (list_head_size + j * list_item_size + list_item_size) (length payload) long, ← e, lt-ltb j w h, ← a, ← l, ← g, not-false b n, f, z, oe, pe, ve, add-zero (list_head_size + j * list_item_size))

  -- ---- origins

  pub origin-none : length payload < 8 → None ≡ list_origin payload strings j
  unfolding list_origin
  origin-none h = rw (lt-leb (list_head_size + word_at payload 0 * list_item_size + j * list_origin_size + list_origin_size) (length payload) (omega arith))

  module _ (w : ℕ) (e : w ≡ word_at payload 0) where
    pub origin-short : length payload < list_head_size + w * list_item_size + j * list_origin_size + list_origin_size → None ≡ list_origin payload strings j
    unfolding list_origin
    origin-short h = rw (← e, lt-leb (list_head_size + w * list_item_size + j * list_origin_size + list_origin_size) (length payload) h)

    module _ (long : list_head_size + w * list_item_size + j * list_origin_size + list_origin_size ≤ length payload) (n : ℕ) (c : n ≡ word_at payload 4) where
      pub origin-past : n ≤ j → None ≡ list_origin payload strings j
      unfolding list_origin
      origin-past h = rw (← e, le-leb (list_head_size + w * list_item_size + j * list_origin_size + list_origin_size) (length payload) long, ← c, le-ltb j n h)

      module _ (h : j < n) (at len : ℕ) (a : at ≡ word_at payload (list_head_size + w * list_item_size + j * list_origin_size)) (l : len ≡ word_at payload (list_head_size + w * list_item_size + j * list_origin_size + 4))
          (b : Bool) (g : b ≡ shown (length strings) at len) where
        pub origin-hidden : b ≡ false → None ≡ list_origin payload strings j
        unfolding list_origin
        origin-hidden y =
            rw (← e, le-leb (list_head_size + w * list_item_size + j * list_origin_size + list_origin_size) (length payload) long, ← c, lt-ltb j n h, add-zero (list_head_size + w * list_item_size + j * list_origin_size), ← a, ← l, ← g, y)

        pub origin-shown : b ≡ true → Some (span at len) ≡ list_origin payload strings j
        unfolding list_origin
        origin-shown y =
            rw (← e, le-leb (list_head_size + w * list_item_size + j * list_origin_size + list_origin_size) (length payload) long, ← c, lt-ltb j n h, add-zero (list_head_size + w * list_item_size + j * list_origin_size), ← a, ← l, ← g, y)
