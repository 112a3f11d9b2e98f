-- The counts of an image's sections, and how long the image is by them.
use Rattle.std.specs.Prelude.{ℕ, ◌+◌, ◌*◌, ◌≡◌, length}
use Rattle.image.specs.Header.{header_length}
use Rattle.image.specs.Sections.{Sections, node_words, text_entry_words, definition_words, node_size, child_size, text_entry_size, definition_size, node_count, child_count, named_count, definition_count, item_count}
use Rattle.image.specs.declared.EntryCounts.{EntryCounts}

-- the counts of sections, with others of the index and the strings
abbrev pub counts_with : Sections → ℕ → ℕ → EntryCounts
counts_with s index strings =
    record {
      nodes = node_count s;
      children = child_count s;
      named = named_count s;
      definitions = definition_count s;
      items = item_count s;
      index = index;
      payload = length s.payload;
      strings = strings;
    }

-- bytes of header and sections, by format version
abbrev pub length_by : ℕ → EntryCounts → ℕ
length_by version c =
    header_length + c.nodes * node_size version + c.children * child_size + c.named * text_entry_size + c.definitions * definition_size
    + c.items * text_entry_size + c.index * text_entry_size + c.payload + c.strings

-- sections of that version and of whole entries, and as many as the counts say
pub record CountsOf (version : ℕ) (s : Sections) (c : EntryCounts) : Type 0 where
  pub versioned : s.version ≡ version
  pub nodes : length s.nodes ≡ c.nodes * node_words version
  pub children : length s.children ≡ c.children
  pub named : length s.named ≡ c.named * text_entry_words
  pub definitions : length s.definitions ≡ c.definitions * definition_words
  pub items : length s.items ≡ c.items * text_entry_words
  pub index : length s.index ≡ c.index * text_entry_words
  pub payload : length s.payload ≡ c.payload
  pub strings : length s.strings ≡ c.strings
