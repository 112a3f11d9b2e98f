-- Texts and list values of a view whose node keeps the rules are handed back whole, and the texts are UTF-8.
use Rattle.std.specs.Prelude.{Some}
use Prim.Native.Nat.{ℕ, ◌+◌, ◌*◌, ◌≤◌, ◌<◌}
use mathlib.Core.Path.{◌≡◌, refl, sym, ap, ◌∙◌, subst}
use mathlib.Core.Logic.{inl, inr}
use mathlib.Core.List.{List, Memᴰ}
use mathlib.Core.Bool.{true, true≢false}
use native.Mathlib.Omega.{arith}
use lib.ListN.{length}
use borrow.Author.Tests.{eq-eqb, le-leb, lt-ltb, leb-true}
use Rattle.laws.proofs.Flags.{both_true}
use Rattle.words.specs.Words.{NONE, word_at}
use Rattle.words.proofs.Words.{word-part}
use Rattle.image.specs.Sections.{Sections, f, part_at, present}
use Rattle.image.proofs.Parts.{part_length, text-inside}
use Rattle.records.specs.Fields.{Kind, ListValue, fields, Field, text, optional, command, operator, node, optionalNode, container, optionalContainer, plain, at_most, children, named, payload, wrong}
use Rattle.records.specs.Records.{list_word, list_items, list_origins, list_item_word, list_origin_word}
use Rattle.views.specs.declared.NodeKindView.{NodeKindView}
use Rattle.views.specs.View.{signed, span, shown, optional_text}
use Rattle.views.specs.Children.{text_query, shown_text}
use Rattle.views.specs.Lists.{list_part, item_entry_word, origin_entry_word, list_entry, list_origin}
use Rattle.promises.specs.Rules.{TextRight, OptionalRight, FieldRight, PayloadRight}
use Rattle.promises.specs.Readers.{Whole, texts_in, view_texts, ItemRead, OriginRead, ListRead, view_lists}
use Rattle.promises.proofs.Views.{Right, shown-right}
use Rattle.promises.proofs.ViewParts.{All, kind_at, Shows, optional_all, FieldShows, view-texts, ListShows, view-lists}

-- ---- texts

-- the part that is handed back, where the text is shown
pub shown-part : (s : Sections) (at len : ℕ) → shown (length s.strings) at len ≡ true → shown_text s.strings at len ≡ part_at s.strings at len
unfolding shown_text
shown-part s at len h = rw h

pub shown-length : (s : Sections) (at len : ℕ) → shown (length s.strings) at len ≡ true → length (shown_text s.strings at len) ≡ len
shown-length s at len h =
    ap length (shown-part s at len h)
    ∙ part_length s.strings at len (leb-true (at + len) (length s.strings) (both_true (present at len) _ h).1)

pub right-whole : (s : Sections) (at len : ℕ) → TextRight s at len → Whole s (span at len)
unfolding text_query
right-whole s at len t =
    let h = shown-right s at len t in
    record {
      found = rw h;
      whole = shown-length s at len h;
      encoded = rw (shown-part s at len h) t.encoded;
    }

-- a text that may be absent and is shown is right
none-shown : (n at len : ℕ) → at ≡ NONE → shown n at len ≡ true → ⊥
none-shown n at len e h = true≢false (sym (rw (eq-eqb at NONE e) at h))

optional_shows : (s : Sections) (at len : ℕ) → OptionalRight s at len → Shows s (Whole s) at len
optional_shows s at len (inl e) h = absurd (none-shown (length s.strings) at len e.0 h)
optional_shows s at len (inr t) h = right-whole s at len t

pub optional-whole : (s : Sections) (at len : ℕ) → OptionalRight s at len → All (Whole s) (texts_in (optional_text (length s.strings) at len))
optional-whole s at len r = optional_all s (Whole s) at len (optional_shows s at len r)

module _ (s : Sections) (i : ℕ) where
  field_shows : (x : Field) → FieldRight s i x → FieldShows s (Whole s) i x
  field_shows (text k) r = λ h. right-whole s (f s i k) (f s i (k + 1)) r
  field_shows (optional k) r = optional_shows s (f s i k) (f s i (k + 1)) r
  field_shows (command k) r = tt
  field_shows (operator k) r = tt
  field_shows (node k) r = tt
  field_shows (optionalNode k) r = tt
  field_shows (container k) r = tt
  field_shows (optionalContainer k) r = tt
  field_shows (plain k) r = tt
  field_shows (at_most k n) r = tt
  field_shows children r = tt
  field_shows named r = tt
  field_shows payload r = tt
  field_shows wrong r = tt

  pub view-whole : (k : Kind) (q : NodeKindView) → Right s i k → kind_at s i k ≡ Some q → All (Whole s) (view_texts q)
  view-whole k q r = view-texts s (Whole s) i k q (λ x m. field_shows x (r x m))

-- ---- a list's payload

module _ (s : Sections) (at len : ℕ) (r : PayloadRight s at len) where
  -- the part that is handed back
  abbrev part : List ℕ
  part = list_part s (span at len)

  part_is : part ≡ part_at s.payload at len
  unfolding list_part
  part_is = text-inside s.payload at len r.inside

  part-word : (k : ℕ) → k + 4 ≤ len → word_at part k ≡ list_word s at k
  unfolding part_at list_word
  part-word k h = ap (λ (bs : List ℕ). word_at bs k) part_is ∙ word-part at len s.payload k h

  pub part-long : length part ≡ len
  part-long = ap length part_is ∙ part_length s.payload at len r.inside

  pub items_are : word_at part 0 ≡ list_items s at
  items_are = part-word 0 (omega (arith, r.long))

  pub origins_are : word_at part 4 ≡ list_origins s at
  origins_are = part-word 4 (omega (arith, r.long))

  pub item-word : (j k : ℕ) → j < list_items s at → k < 5 → item_entry_word part j k ≡ list_item_word s at j k
  item-word j k h l = part-word (8 + j * 20 + k * 4) (omega (arith, r.exact))

  pub origin-word : (j k : ℕ) → j < list_origins s at → k < 2 → origin_entry_word part j k ≡ list_origin_word s at j k
  origin-word j k h l = rw items_are (part-word (8 + list_items s at * 20 + j * 8 + k * 4) (omega (arith, r.exact)))

  item-read : (j : ℕ) → j < list_items s at → ItemRead s (span at len) j
  unfolding list_entry
  item-read j h =
      let name = r.item-name j h in
      record {
        item = record {
          origin = optional_text (length s.strings) (item_entry_word part j 0) (item_entry_word part j 1);
          name = span (item_entry_word part j 2) (item_entry_word part j 3);
          value = signed (item_entry_word part j 4);
        };
        found =
            let shows : shown (length s.strings) (item_entry_word part j 2) (item_entry_word part j 3) ≡ true
            = rw (item-word j 2 h (omega arith), item-word j 3 h (omega arith)) (shown-right s _ _ name) in
            rw (le-leb (8 + j * 20 + 20) (length part) (omega (arith, part-long, r.exact)), lt-ltb j (word_at part 0) (omega (arith, items_are)), shows);
        name = rw (item-word j 2 h (omega arith), item-word j 3 h (omega arith)) (right-whole s _ _ name);
        origin = optional-whole s (item_entry_word part j 0) (item_entry_word part j 1)
            (rw (item-word j 0 h (omega arith), item-word j 1 h (omega arith)) (r.item-origin j h));
      }

  origin-read : (j : ℕ) → j < list_origins s at → OriginRead s (span at len) j
  unfolding list_origin
  origin-read j h =
      let name = r.origin j h in
      record {
        origin = span (origin_entry_word part j 0) (origin_entry_word part j 1);
        found =
            let shows : shown (length s.strings) (origin_entry_word part j 0) (origin_entry_word part j 1) ≡ true
            = rw (origin-word j 0 h (omega arith), origin-word j 1 h (omega arith)) (shown-right s _ _ name) in
            rw (
              le-leb (8 + word_at part 0 * 20 + j * 8 + 8) (length part) (omega (arith, part-long, r.exact, items_are)),
              lt-ltb j (word_at part 4) (omega (arith, origins_are)),
              shows,
            );
        whole = rw (origin-word j 0 h (omega arith), origin-word j 1 h (omega arith)) (right-whole s _ _ name);
      }

  pub list_read : ListRead s (span at len)
  list_read = record { items = λ j h. item-read j (omega (arith, items_are)); origins = λ j h. origin-read j (omega (arith, origins_are)) }

-- ---- the list values of a view

module _ (s : Sections) (i : ℕ) where
  list_shows : (k : Kind) → Right s i k → k ≡ ListValue → ListShows s (ListRead s) i
  unfolding fields
  list_shows k r e h = list_read s (f s i 0) (f s i 1) (subst (λ (x : Kind). Right s i x) e r payload (Memᴰ.head refl)).1

  pub view-read : (k : Kind) (q : NodeKindView) → Right s i k → kind_at s i k ≡ Some q → All (ListRead s) (view_lists q)
  view-read k q r = view-lists s (ListRead s) i k q (list_shows k r)
