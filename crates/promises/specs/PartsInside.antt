-- Whatever the bytes and the view: every part that a query answers lies in the slice. Which node a word names is left open.
use Rattle.std.specs.Prelude.{ℕ, ◌+◌, ◌≤◌, ◌≡◌, length}
use mathlib.Core.List.{List, Memᴰ}
use Rattle.image.specs.Sections.{Sections, part_at}
use Rattle.image.specs.declared.ImageView.{ImageView}
use Rattle.image.specs.Header.{sections_by}
use Rattle.views.specs.declared.Span.{Span}
use Rattle.views.specs.declared.NodeView.{NodeView}
use Rattle.views.specs.declared.NamedChildView.{NamedChildView}
use Rattle.views.specs.declared.DefinitionView.{DefinitionView}
use Rattle.views.specs.declared.ItemView.{ItemView}
use Rattle.views.specs.declared.ListEntry.{ListEntry}
use Rattle.views.specs.View.{node_view}
use Rattle.views.specs.Children.{named_query, text_query, shown_text}
use Rattle.views.specs.Lists.{list_part, list_entry, list_entry_name, list_origin, definition_query, item_entry, item_query}
use Rattle.promises.specs.Answers.{given, of_node, of_named, of_text, of_entry, of_definition, of_item}
use Rattle.promises.specs.Readers.{texts_in, view_texts, view_lists}

-- so many bytes of a slice, from some place on
pub record InSlice (bs part : List ℕ) : Type 0 where
  pub at : ℕ
  pub inside : at + length part ≤ length bs
  pub part_is : part ≡ part_at bs at (length part)

-- the part that holds a text lies in the slice, with the text's whole length
pub record TextInSlice (bs : List ℕ) (s : Sections) (t : Span) : Type 0 where
  pub whole : length (shown_text s.strings t.offset t.len) ≡ t.len
  pub part : InSlice bs (shown_text s.strings t.offset t.len)

-- so does the payload of a list value
pub record ListInSlice (bs : List ℕ) (s : Sections) (p : Span) : Type 0 where
  pub whole : length (list_part s p) ≡ p.len
  pub part : InSlice bs (list_part s p)

-- the queries on bytes and a view, where s are the sections that they see
pub record PartsInside (bs : List ℕ) (s : Sections) : Type 0 where
  -- of the view of a node: its texts and its list values
  pub texts : (i : ℕ) (v : NodeView) → of_node (node_view s i) ≡ given v → (t : Span) → Memᴰ t (view_texts v.kind) → TextInSlice bs s t
  pub lists : (i : ℕ) (v : NodeView) → of_node (node_view s i) ≡ given v → (p : Span) → Memᴰ p (view_lists v.kind) → ListInSlice bs s p
  -- of a text that is asked for
  pub text : (t u : Span) → of_text (text_query s t) ≡ given u → TextInSlice bs s u
  -- whatever is asked for, what is handed back is a part of the slice
  pub text-part : (t : Span) → InSlice bs (shown_text s.strings t.offset t.len)
  pub list-part : (p : Span) → InSlice bs (list_part s p)
  -- of entries
  pub named : (i j : ℕ) (c : NamedChildView) → of_named (named_query s i j) ≡ given c → TextInSlice bs s c.name
  pub definition : (d : ℕ) (e : DefinitionView) → of_definition (definition_query s d) ≡ given e → TextInSlice bs s e.name
  pub item : (k : ℕ) (e : ItemView) → of_item (item_entry s k) ≡ given e → TextInSlice bs s e.name
  pub definition-item : (d j : ℕ) (e : ItemView) → of_item (item_query s d j) ≡ given e → TextInSlice bs s e.name

-- the list reader on two lent slices: its texts are parts of the strings
pub record ListEntriesInside (payload strings : List ℕ) (j : ℕ) : Type 0 where
  pub name : (e : ListEntry) → of_entry (list_entry payload strings j) ≡ given e → e.name.offset + e.name.len ≤ length strings
  pub origin : (e : ListEntry) → of_entry (list_entry payload strings j) ≡ given e → (t : Span) → Memᴰ t (texts_in e.origin)
      → t.offset + t.len ≤ length strings
  pub name-part : InSlice strings (list_entry_name payload strings j)
  pub list-origin : (t : Span) → of_text (list_origin payload strings j) ≡ given t → t.offset + t.len ≤ length strings

abbrev pub AnyPartsInside : Type 0
AnyPartsInside = (bs : List ℕ) (v : ImageView) → PartsInside bs (sections_by bs v)

abbrev pub AnyListEntriesInside : Type 0
AnyListEntriesInside = (payload strings : List ℕ) (j : ℕ) → ListEntriesInside payload strings j
