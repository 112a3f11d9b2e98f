-- The sections that an image and a draft both have: words of entries, payload and strings as bytes; their entries and texts.
use Rattle.std.specs.Prelude.{ℕ, ◌+◌, ◌*◌, ◌/◌, List, [], Bool, cond, ◌&&◌, ◌||◌, not, length, get_or, take, drop, leb, ltb, eqb}
use Rattle.words.specs.Words.{is_none}
use Rattle.utf8.specs.Utf8.{utf8, utf8s}
use Rattle.image.specs.Tags.{container_tag}

-- ---- the width of an entry

-- the words of a node that every version has: parent, place, tag, f0 to f6
abbrev pub common_words : ℕ
common_words = 10

-- words a node, by format version: version 2 has no others
unfoldable pub node_words : ℕ → ℕ
node_words version = common_words

-- words of the widest node that proofs allow for: no version has more
abbrev pub most_words : ℕ
most_words = common_words + 1

-- words a named entry, an item, an index entry
abbrev pub text_entry_words : ℕ
text_entry_words = 3

abbrev pub definition_words : ℕ
definition_words = 4

-- the same in bytes
abbrev pub node_size : ℕ → ℕ
node_size version = 4 * node_words version

abbrev pub most_node_size : ℕ
most_node_size = 4 * most_words

abbrev pub child_size : ℕ
child_size = 4

abbrev pub text_entry_size : ℕ
text_entry_size = 12

abbrev pub definition_size : ℕ
definition_size = 16

-- bytes of a list's payload: of its two counts, of an item, of an origin
abbrev pub list_head_size : ℕ
list_head_size = 8

abbrev pub list_item_size : ℕ
list_item_size = 20

abbrev pub list_origin_size : ℕ
list_origin_size = 8

pub record Sections : Type 0 where
  -- the format version
  pub version : ℕ
  pub nodes : List ℕ
  pub children : List ℕ
  -- text, node
  pub named : List ℕ
  -- text, first item, count
  pub definitions : List ℕ
  -- text, value
  pub items : List ℕ
  -- text, node
  pub index : List ℕ
  pub payload : List ℕ
  pub strings : List ℕ

-- ---- counts

abbrev pub node_count : Sections → ℕ
node_count s = length s.nodes / node_words s.version

abbrev pub child_count : Sections → ℕ
child_count s = length s.children

abbrev pub named_count : Sections → ℕ
named_count s = length s.named / text_entry_words

abbrev pub definition_count : Sections → ℕ
definition_count s = length s.definitions / definition_words

abbrev pub item_count : Sections → ℕ
item_count s = length s.items / text_entry_words

abbrev pub index_count : Sections → ℕ
index_count s = length s.index / text_entry_words

-- ---- words of entries

unfoldable pub node_word : Sections → ℕ → ℕ → ℕ
node_word s i k = get_or s.nodes (i * node_words s.version + k) 0

abbrev pub parent_of : Sections → ℕ → ℕ
parent_of s i = node_word s i 0

-- a node's place: its index among ordered children
abbrev pub place_of : Sections → ℕ → ℕ
place_of s i = node_word s i 1

abbrev pub tag_of : Sections → ℕ → ℕ
tag_of s i = node_word s i 2

-- f0 to f6
abbrev pub f : Sections → ℕ → ℕ → ℕ
f s i k = node_word s i (3 + k)

unfoldable pub child_word : Sections → ℕ → ℕ
child_word s j = get_or s.children j 0

unfoldable pub named_word : Sections → ℕ → ℕ → ℕ
named_word s j k = get_or s.named (j * text_entry_words + k) 0

unfoldable pub definition_word : Sections → ℕ → ℕ → ℕ
definition_word s j k = get_or s.definitions (j * definition_words + k) 0

unfoldable pub item_word : Sections → ℕ → ℕ → ℕ
item_word s j k = get_or s.items (j * text_entry_words + k) 0

unfoldable pub index_word : Sections → ℕ → ℕ → ℕ
index_word s j k = get_or s.index (j * text_entry_words + k) 0

-- ---- texts: an offset and a length in the strings

-- the part of a list from an offset on
unfoldable pub part_at : List ℕ → ℕ → ℕ → List ℕ
part_at bs at len = take len (drop at bs)

abbrev pub text_at : Sections → ℕ → ℕ → List ℕ
text_at s at len = part_at s.strings at len

-- neither word is NONE
abbrev pub present : ℕ → ℕ → Bool
present at len = not (is_none at || is_none len)

-- both are
abbrev pub absent : ℕ → ℕ → Bool
absent at len = is_none at && is_none len

-- the bytes that a good text may have: UTF-8
unfoldable pub good_bytes : List ℕ → Bool
good_bytes bs = utf8 bs

-- a good text of the strings: present, inside and of good bytes
unfoldable pub good_in : List ℕ → ℕ → ℕ → Bool
good_in strings at len = present at len && leb (at + len) (length strings) && good_bytes (part_at strings at len)

-- optional text is absent only if both words are NONE
abbrev pub optional_in : List ℕ → ℕ → ℕ → Bool
optional_in strings at len = absent at len || good_in strings at len

abbrev pub good_text : Sections → ℕ → ℕ → Bool
good_text s at len = good_in s.strings at len

abbrev pub good_optional : Sections → ℕ → ℕ → Bool
good_optional s at len = optional_in s.strings at len

-- the bytes of a text, none where it is not inside the strings
unfoldable pub text_or_empty : List ℕ → ℕ → ℕ → List ℕ
text_or_empty strings at len = cond (leb (at + len) (length strings)) (part_at strings at len) []

-- ---- nodes

-- among so many nodes; NONE is no node, whatever the count
abbrev pub inside_among : ℕ → ℕ → Bool
inside_among count n = ltb n count && not (is_none n)

abbrev pub inside : Sections → ℕ → Bool
inside s n = inside_among (node_count s) n

abbrev pub is_container : Sections → ℕ → Bool
is_container s n = eqb (tag_of s n) container_tag

abbrev pub inside_container : Sections → ℕ → Bool
inside_container s n = inside s n && is_container s n

-- names on an `unfolding` line what a computation with this module needs
unfoldable pub sections : Unit {0}
unfolding node_words node_word child_word named_word definition_word item_word index_word part_at good_bytes good_in text_or_empty utf8s
sections = tt
