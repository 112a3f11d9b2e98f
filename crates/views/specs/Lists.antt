-- The entries of a list value, from its payload and the strings; definitions and items by number.
use Rattle.std.specs.Prelude.{ℕ, ◌+◌, ◌*◌, List, [], cond, ◌&&◌, length, leb, ltb, None, Option, Some}
use Rattle.words.specs.Words.{word_at, words}
use Rattle.image.specs.Sections.{Sections, list_head_size, list_item_size, list_origin_size, definition_count, item_count, definition_word, item_word, text_or_empty, sections}
use Rattle.definitions.specs.Definitions.{first_item, number_of_items}
use Rattle.views.specs.declared.Span.{Span}
use Rattle.views.specs.View.{signed, span, shown, optional_text, views}
use Rattle.views.specs.declared.ListEntry.{ListEntry}
use Rattle.views.specs.declared.DefinitionView.{DefinitionView}
use Rattle.views.specs.declared.ItemView.{ItemView}

-- ---- a list value: words items, origins; items of 20 bytes, origins of 8

-- word k of item j, of origin j
abbrev pub item_entry_word : List ℕ → ℕ → ℕ → ℕ
item_entry_word payload j k = word_at payload (list_head_size + j * list_item_size + k * 4)

abbrev pub origin_entry_word : List ℕ → ℕ → ℕ → ℕ
origin_entry_word payload j k = word_at payload (list_head_size + word_at payload 0 * list_item_size + j * list_origin_size + k * 4)

-- the payload of a list value, none where it is not inside
unfoldable pub list_part : Sections → Span → List ℕ
list_part s t = text_or_empty s.payload t.offset t.len

-- item j: optional origin, name, value
unfoldable pub list_entry : List ℕ → List ℕ → ℕ → Option ListEntry
list_entry payload strings j =
    cond
    (leb (list_head_size + j * list_item_size + list_item_size) (length payload) && ltb j (word_at payload 0)
    && shown (length strings) (item_entry_word payload j 2) (item_entry_word payload j 3))
    (Some
    (record {
      origin = optional_text (length strings) (item_entry_word payload j 0) (item_entry_word payload j 1);
      name = span (item_entry_word payload j 2) (item_entry_word payload j 3);
      value = signed (item_entry_word payload j 4);
    }))
    None

-- the name of item j, none where there is no such item
abbrev pub name_in : List ℕ → Option ListEntry → List ℕ
name_in strings (Some e) = text_or_empty strings e.name.offset e.name.len
name_in strings None = []

unfoldable pub list_entry_name : List ℕ → List ℕ → ℕ → List ℕ
list_entry_name payload strings j = name_in strings (list_entry payload strings j)

-- origin j
unfoldable pub list_origin : List ℕ → List ℕ → ℕ → Option Span
list_origin payload strings j =
    cond
    (leb (list_head_size + word_at payload 0 * list_item_size + j * list_origin_size + list_origin_size) (length payload) && ltb j (word_at payload 4)
    && shown (length strings) (origin_entry_word payload j 0) (origin_entry_word payload j 1))
    (Some (span (origin_entry_word payload j 0) (origin_entry_word payload j 1))) None

-- ---- definitions and their items by number

unfoldable pub definition_query : Sections → ℕ → Option DefinitionView
definition_query s d =
    cond (ltb d (definition_count s) && shown (length s.strings) (definition_word s d 0) (definition_word s d 1))
    (Some (record { name = span (definition_word s d 0) (definition_word s d 1); items = number_of_items s d })) None

-- item k of all
unfoldable pub item_entry : Sections → ℕ → Option ItemView
item_entry s k =
    cond (ltb k (item_count s) && shown (length s.strings) (item_word s k 0) (item_word s k 1))
    (Some (record { name = span (item_word s k 0) (item_word s k 1); value = signed (item_word s k 2) })) None

-- the j-th item of definition d
unfoldable pub item_query : Sections → ℕ → ℕ → Option ItemView
item_query s d j = cond (ltb d (definition_count s) && ltb j (number_of_items s d)) (item_entry s (first_item s d + j)) None

-- names on an `unfolding` line what a computation with this module needs
unfoldable pub listings : Unit {0}
unfolding list_part list_entry list_entry_name list_origin definition_query item_entry item_query views words sections
listings = tt
