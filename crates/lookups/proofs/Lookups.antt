-- Look-ups by name, by the tests that the code makes: a place among entries, a named child.
use Rattle.std.specs.Prelude.{None, Option, Some, ℕ}
use Prim.Native.Nat.{ℕ, ◌+◌, ◌*◌, ◌/◌, ◌≤◌, ◌<◌}
use mathlib.Core.Path.{◌≡◌, sym, ap, ◌∙◌}
use mathlib.Core.List.{List}
use lib.ListN.{length, get_or}
use borrow.Author.Tests.{le-leb, lt-leb}
use Rattle.words.specs.Words.{words_of}
use Rattle.std.specs.declared.cmp.Ordering.{Ordering}
use Rattle.texts.specs.Text.{order_of}
use Rattle.image.specs.declared.NodeRecord.{NodeRecord}
use Rattle.image.specs.declared.TextEntry.{TextEntry}
use Rattle.image.specs.declared.ImageView.{ImageView}
use Rattle.image.specs.Sections.{Sections, text_entry_words, text_or_empty}
use Rattle.image.specs.Entries.{text_entry_of}
use Rattle.image.specs.Header.{section_bytes, sections_by}
use Rattle.image.proofs.Views.{named_by_lem, strings_by}
use Rattle.views.specs.Found.{container_found}
use Rattle.lookups.specs.Lookup.{found_place, entry_text, searched, named_by, find_named}
use Rattle.views.proofs.Reading.{no_container_lem, a_container}
use Rattle.lookups.proofs.HalvingSearch.{found-there}

-- ---- the place of a name among entries

-- the texts of the entries from one on
abbrev pub texts_from : List ℕ → List ℕ → ℕ → ℕ → List ℕ
texts_from words strings from j = entry_text words strings (from + j)

-- the order of an entry's text, as the code reads it
pub entry-order : (words strings name : List ℕ) (k : ℕ) (e : TextEntry) → e ≡ text_entry_of words k → (p : List ℕ) → p ≡ text_or_empty strings e.offset e.len
    → (o : Ordering) → o ≡ order_of p name → o ≡ order_of (entry_text words strings k) name
unfolding text_entry_of
entry-order words strings name k e he p hp o ho =
    ho ∙ ap (λ (l : List ℕ). order_of l name) (hp ∙ λ j. text_or_empty strings (he j).offset (he j).len)

-- a place is one of the range
pub place-below : (words strings : List ℕ) (from count : ℕ) (name : List ℕ) (j : ℕ) → searched words strings from count name ≡ Some j → j < count
unfolding searched
place-below words strings from count name j e = (found-there (λ k. entry_text words strings (from + k)) name count 0 count j e).below

-- ---- a named child

-- of n entries
module _ (words strings : List ℕ) (from count : ℕ) (name : List ℕ) (n : ℕ) (size : length words / text_entry_words ≡ n) where
  pub named-outside : n < from + count → None ≡ named_by words strings from count name
  unfolding named_by
  named-outside h = rw (size, lt-leb (from + count) n h)

  module _ (p : Option ℕ) (e : found_place p ≡ searched words strings from count name) where
    pub named-place : (j : ℕ) → p ≡ Some j → j < count
    named-place j h = place-below words strings from count name j (sym e ∙ ap found_place h)

    module _ (l : from + count ≤ n) where
      pub named-nowhere : p ≡ None → None ≡ named_by words strings from count name
      unfolding named_by
      named-nowhere h = rw (size, le-leb (from + count) n l, ← e, h)

      pub named_at_lem : (j : ℕ) → p ≡ Some j → (w : ℕ) → w ≡ get_or words ((from + j) * text_entry_words + 2) 0
          → Some w ≡ named_by words strings from count name
      unfolding named_by
      named_at_lem j h w q = rw (size, le-leb (from + count) n l, ← e, h, q)

module _ (s : Sections) (i : ℕ) (name : List ℕ) (r : Option NodeRecord) (e : r ≡ container_found s i) where
  pub find-missing : r ≡ None → None ≡ find_named s i name
  unfolding find_named
  find-missing h = rw (no_container_lem s i r e h)

  pub find-found : (x : NodeRecord) → r ≡ Some x → (words strings : List ℕ) → words ≡ s.named → strings ≡ s.strings
      → (a : Option ℕ) → a ≡ named_by words strings x.f5 x.f6 name → a ≡ find_named s i name
  unfolding find_named
  find-found x h words strings p q a g =
      let known = a_container s i r e x h in
      rw known.0 (g ∙ λ j. named_by (p j) (q j) (known.1 j).f5 (known.1 j).f6 name)

-- a view's named entries and strings, out of their bytes
module _ (bs : List ℕ) (v : ImageView) (part : List ℕ) where
  pub named-part : part ≡ section_bytes bs v.named 12 → words_of part ≡ (sections_by bs v).named
  named-part e = ap words_of e ∙ sym (named_by_lem bs v)

  pub strings-part : part ≡ section_bytes bs v.strings 1 → part ≡ (sections_by bs v).strings
  strings-part e = e ∙ sym (strings_by bs v)
