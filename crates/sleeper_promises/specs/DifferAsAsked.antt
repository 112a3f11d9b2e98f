-- Two images, word by word: all words are the same but total length, length of the string section and checksum, the offset and the length of a
-- text, whose bytes are the same, and those of the text of a note to the technician, which may hold anything after `tech:`.
use Rattle.std.specs.Prelude.{ℕ, zero, suc, ◌+◌, ◌*◌, ◌≤◌, ◌<◌, ◌≡◌, ◌≢◌, ◌⊎◌, List, [], ◌∷◌, Bool, true, false, ◌||◌, eqb}
use Rattle.words.specs.Words.{word_at}
use Rattle.image.specs.Sections.{Sections, node_words, text_entry_words, definition_words, node_count, child_count, named_count, definition_count, item_count, index_count, node_word, tag_of, f, child_word, named_word, definition_word, item_word, index_word, text_at, present, absent}
use Rattle.image.specs.Tags.{tag_tag, list_tag}
use Rattle.image.specs.Header.{header_length, length_at, sections_at, checksum_at, sections_of}
use Rattle.records.specs.Fields.{Field, text, optional, command, operator, node, optionalNode, container, optionalContainer, plain, at_most, children, named, payload, wrong}
use Rattle.records.specs.Records.{fields_at, list_items, list_origins, list_item_word, list_origin_word}
use Rattle.notes.specs.Notes.{is_note}

-- ---- the header

-- the count of section 7, the strings
abbrev pub strings_length_at : ℕ
strings_length_at = sections_at + 8 * 7 + 4

-- every word but three
abbrev pub SameHeader : List ℕ → List ℕ → Type 0
SameHeader xs ys =
    (k : ℕ) → 4 * k < header_length → 4 * k ≢ length_at → 4 * k ≢ strings_length_at → 4 * k ≢ checksum_at → word_at xs (4 * k) ≡ word_at ys (4 * k)

-- ---- which words of a node are a text's

-- the words of a node before f0: parent, place, tag
abbrev before : ℕ
before = 3

-- a text begins at word k of a node that has the field
abbrev pub text_at_field : ℕ → Field → Bool
text_at_field k (text a) = eqb k (before + a)
text_at_field k (optional a) = eqb k (before + a)
text_at_field k (command a) = eqb k (before + a)
text_at_field k (operator a) = eqb k (before + a)
text_at_field k (node a) = false
text_at_field k (optionalNode a) = false
text_at_field k (container a) = false
text_at_field k (optionalContainer a) = false
text_at_field k (plain a) = false
text_at_field k (at_most a n) = false
text_at_field k children = false
text_at_field k named = false
text_at_field k payload = false
text_at_field k wrong = false

-- that has some of these fields
unfoldable pub offset_at : List Field → ℕ → Bool
offset_at [] k = false
offset_at (x ∷ xs) k = let r = offset_at xs k in text_at_field k x || r

-- word k is the offset or the length of a text
unfoldable pub text_word : List Field → ℕ → Bool
text_word xs zero = false
text_word xs (suc k) = offset_at xs (suc k) || offset_at xs k

-- a tag whose text begins `tech:`
abbrev pub NoteAt : Sections → ℕ → Type 0
NoteAt s i = (tag_of s i ≡ tag_tag) × (is_note (text_at s (f s i 0) (f s i 1)) ≡ true)

module _ (s t : Sections) where
  -- absent in both, or present in both with the same bytes, wherever they lie
  abbrev pub SameBytes : ℕ → ℕ → ℕ → ℕ → Type 0
  SameBytes a n b m =
      ((absent a n ≡ true) × (absent b m ≡ true)) ⊎ ((present a n ≡ true) × (present b m ≡ true) × (text_at s a n ≡ text_at t b m))

  -- ---- nodes

  pub record SameWords (i : ℕ) : Type 0 where
    -- every word that is no text's, also one that the kind lacks
    pub word : (k : ℕ) → k < node_words s.version → text_word (fields_at s i) k ≡ false → node_word s i k ≡ node_word t i k
    -- of the two of a text the bytes, if it is not the text of a note in both
    pub text : (k : ℕ) → offset_at (fields_at s i) k ≡ true
        → SameBytes (node_word s i k) (node_word s i (k + 1)) (node_word t i k) (node_word t i (k + 1)) ⊎ (NoteAt s i × NoteAt t i)

  -- a list's payload that starts at `at`: counts and values, and the bytes of the texts
  pub record SamePayload (at : ℕ) : Type 0 where
    pub items : list_items s at ≡ list_items t at
    pub origins : list_origins s at ≡ list_origins t at
    pub item-origin : (j : ℕ) → j < list_items s at → SameBytes (list_item_word s at j 0) (list_item_word s at j 1) (list_item_word t at j 0) (list_item_word t at j 1)
    pub item-name : (j : ℕ) → j < list_items s at → SameBytes (list_item_word s at j 2) (list_item_word s at j 3) (list_item_word t at j 2) (list_item_word t at j 3)
    pub item-value : (j : ℕ) → j < list_items s at → list_item_word s at j 4 ≡ list_item_word t at j 4
    pub origin : (j : ℕ) → j < list_origins s at
        → SameBytes (list_origin_word s at j 0) (list_origin_word s at j 1) (list_origin_word t at j 0) (list_origin_word t at j 1)

  -- ---- entries of the other sections: n words, of which the first two are a text

  pub record SameEntries (count n : ℕ) (v w : ℕ → ℕ → ℕ) : Type 0 where
    pub text : (j : ℕ) → j < count → SameBytes (v j 0) (v j 1) (w j 0) (w j 1)
    pub word : (j k : ℕ) → j < count → 2 ≤ k → k < n → v j k ≡ w j k

  -- ---- sections 0 to 6

  pub record SectionsAsAsked : Type 0 where
    pub node : (i : ℕ) → i < node_count s → SameWords i
    pub child : (j : ℕ) → j < child_count s → child_word s j ≡ child_word t j
    pub named : SameEntries (named_count s) text_entry_words (named_word s) (named_word t)
    pub definition : SameEntries (definition_count s) definition_words (definition_word s) (definition_word t)
    pub item : SameEntries (item_count s) text_entry_words (item_word s) (item_word t)
    pub index : SameEntries (index_count s) text_entry_words (index_word s) (index_word t)
    pub list : (i : ℕ) → i < node_count s → tag_of s i ≡ list_tag → SamePayload (f s i 0)

-- two images
pub record DifferAsAsked (xs ys : List ℕ) : Type 0 where
  pub header : SameHeader xs ys
  pub sections : SectionsAsAsked (sections_of xs) (sections_of ys)
