-- Look-ups by name: a named child, a list item. Both halve a range of texts; on rising texts that is the plain reading
-- (proofs/).
use Rattle.std.specs.Prelude.{ℕ, zero, suc, ◌+◌, ◌-◌, ◌*◌, ◌/◌, List, Bool, true, false, cond, ◌||◌, not, length, get_or, leb, ltb, None, Option, Some, is_some}
use Rattle.laws.specs.Counted.{last_of, counted}
use Rattle.std.specs.declared.cmp.Ordering.{Ordering}
use Rattle.std.specs.declared.cmp.Ordering.TheVariants.{Less, Equal, Greater}
use Rattle.texts.specs.Text.{order_of, same, texts}
use Rattle.texts.specs.Dots.{has_dot, before_dot, after_dot, dots}
use Rattle.utf8.specs.White.{blank, blanks}
use Rattle.image.specs.Sections.{text_entry_words, Sections, definition_count, item_count, f, definition_word, item_word, text_or_empty, inside_container, sections}
use Rattle.definitions.specs.Definitions.{first_item, number_of_items}
use Rattle.views.specs.View.{signed, views}
use Rattle.lookups.specs.declared.ListItem.{ListItem}

-- ---- a halving search for a name among the texts t lo, .., t (hi - 1)

module _ (t : ℕ → List ℕ) (name : List ℕ) where
  abbrev pub towards : Ordering → ℕ → Option ℕ → Option ℕ → Option ℕ
  towards Less middle above below = above
  towards Equal middle above below = Some middle
  towards Greater middle above below = below

  -- the first argument bounds the turns
  unfoldable pub halving : ℕ → ℕ → ℕ → Option ℕ
  halving zero lo hi = None
  halving (suc n) lo hi =
      let middle = lo + (hi - lo) / 2 in
      let above = halving n (middle + 1) hi in
      let below = halving n lo middle in
      cond (ltb lo hi) (towards (order_of (t middle) name) middle above below) None

-- what the code says of a place
abbrev pub found_place : Option ℕ → Option ℕ
found_place (Some j) = Some j
found_place None = None

-- the text of entry k of a section of texts, none where it is not inside the strings
abbrev pub entry_text : List ℕ → List ℕ → ℕ → List ℕ
entry_text words strings k = text_or_empty strings (get_or words (k * text_entry_words) 0) (get_or words (k * text_entry_words + 1) 0)

-- the name's place among `count` entries, from entry `from` of a section of texts on
unfoldable pub searched : List ℕ → List ℕ → ℕ → ℕ → List ℕ → Option ℕ
searched words strings from count name = halving (λ j. entry_text words strings (from + j)) name count 0 count

-- ---- a named child

abbrev pub found_at : (ℕ → ℕ) → Option ℕ → Option ℕ
found_at g None = None
found_at g (Some j) = Some (g j)

-- by the words of the named entries: the node of the one that bears the name. A range that is not inside has none
unfoldable pub named_by : List ℕ → List ℕ → ℕ → ℕ → List ℕ → Option ℕ
named_by words strings from count name =
    cond (leb (from + count) (length words / text_entry_words)) (found_at (λ j. get_or words ((from + j) * text_entry_words + 2) 0) (searched words strings from count name)) None

-- the node of the container's named entry that bears the name
unfoldable pub find_named : Sections → ℕ → List ℕ → Option ℕ
find_named s i name = cond (inside_container s i) (named_by s.named s.strings (f s i 5) (f s i 6) name) None

-- ---- a list item

-- the item's place among definition d's items, where d holds it. A range that is not inside holds none
unfoldable pub item_place : Sections → ℕ → List ℕ → Option ℕ
item_place s d name =
    cond (leb (first_item s d + number_of_items s d) (item_count s)) (searched s.items s.strings (first_item s d) (number_of_items s d) name) None

-- the definition's name, none where it is not inside the strings
abbrev pub definition_name : Sections → ℕ → List ℕ
definition_name s d = text_or_empty s.strings (definition_word s d 0) (definition_word s d 1)

-- the item's place in definition d, where that is the origin that is given, if one is
unfoldable pub answering_place : Sections → Bool → List ℕ → List ℕ → ℕ → Option ℕ
answering_place s given origin name d = cond (not given || same origin (definition_name s d)) (item_place s d name) None

-- definition d answers
abbrev pub answers : Sections → Bool → List ℕ → List ℕ → ℕ → Bool
answers s given origin name d = is_some (answering_place s given origin name d)

abbrev pub list_item_at : Sections → ℕ → Option ℕ → Option ListItem
list_item_at s d None = None
list_item_at s d (Some j) =
    Some (record { definition = d; item = first_item s d + j; value = signed (item_word s (first_item s d + j) 2) })

abbrev pub list_item_in : Sections → Bool → List ℕ → List ℕ → Option ℕ → Option ListItem
list_item_in s given origin name None = None
list_item_in s given origin name (Some d) = list_item_at s d (answering_place s given origin name d)

-- the last definition that answers is the one
unfoldable pub last_item : Sections → Bool → List ℕ → List ℕ → Option ListItem
last_item s given origin name = list_item_in s given origin name (last_of (definition_count s) (answers s given origin name))

-- blank names give none; what stands before the first dot is the origin, and without a dot none is given
unfoldable pub list_item : Sections → List ℕ → Option ListItem
list_item s name =
    cond (blank name) None
    (cond (has_dot name) (last_item s true (before_dot name) (after_dot name)) (last_item s false name name))

-- names on an `unfolding` line what a computation with this module needs
unfoldable pub lookups : Unit {0}
unfolding halving searched named_by find_named item_place answering_place last_item list_item views counted texts dots blanks sections
lookups = tt
