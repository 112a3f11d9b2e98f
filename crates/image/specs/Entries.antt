-- The words of one entry, as the code reads them out of a section's words.
use Rattle.std.specs.Prelude.{ℕ, ◌+◌, ◌*◌, List, get_or}
use Rattle.image.specs.declared.NodeRecord.{NodeRecord}
use Rattle.image.specs.declared.TextEntry.{TextEntry}
use Rattle.image.specs.declared.Definition.{Definition}
use Rattle.image.specs.Sections.{Sections, node_words, text_entry_words, definition_words, parent_of, place_of, tag_of, f, named_word, definition_word, item_word, index_word, part_at}

-- node i, by the format version
unfoldable pub record_of : ℕ → List ℕ → ℕ → NodeRecord
record_of version ws i =
    record {
      parent = get_or ws (i * node_words version) 0;
      place = get_or ws (i * node_words version + 1) 0;
      tag = get_or ws (i * node_words version + 2) 0;
      f0 = get_or ws (i * node_words version + 3) 0;
      f1 = get_or ws (i * node_words version + 4) 0;
      f2 = get_or ws (i * node_words version + 5) 0;
      f3 = get_or ws (i * node_words version + 6) 0;
      f4 = get_or ws (i * node_words version + 7) 0;
      f5 = get_or ws (i * node_words version + 8) 0;
      f6 = get_or ws (i * node_words version + 9) 0;
    }

-- named entry, item or index entry j
unfoldable pub text_entry_of : List ℕ → ℕ → TextEntry
text_entry_of ws j = record { offset = get_or ws (j * text_entry_words) 0; len = get_or ws (j * text_entry_words + 1) 0; value = get_or ws (j * text_entry_words + 2) 0 }

-- definition j
unfoldable pub definition_of : List ℕ → ℕ → Definition
definition_of ws j =
    record {
      offset = get_or ws (j * definition_words) 0;
      len = get_or ws (j * definition_words + 1) 0;
      first = get_or ws (j * definition_words + 2) 0;
      count = get_or ws (j * definition_words + 3) 0;
    }

-- ---- texts of entries

-- the text of the j-th entry of three words, from the first one of a run on
unfoldable pub entry_text_from : List ℕ → List ℕ → ℕ → ℕ → List ℕ
entry_text_from ws strings first j = part_at strings (text_entry_of ws (first + j)).offset (text_entry_of ws (first + j)).len

-- the text of definition d
unfoldable pub definition_text_in : List ℕ → List ℕ → ℕ → List ℕ
definition_text_in ws strings d = part_at strings (definition_of ws d).offset (definition_of ws d).len

-- ---- entries of the sections of an image or a draft

-- node i
abbrev pub node_in : Sections → ℕ → NodeRecord
node_in s i =
    record {
      parent = parent_of s i;
      place = place_of s i;
      tag = tag_of s i;
      f0 = f s i 0;
      f1 = f s i 1;
      f2 = f s i 2;
      f3 = f s i 3;
      f4 = f s i 4;
      f5 = f s i 5;
      f6 = f s i 6;
    }

-- named entry j; item j; index entry j
abbrev pub named_in : Sections → ℕ → TextEntry
named_in s j = record { offset = named_word s j 0; len = named_word s j 1; value = named_word s j 2 }

abbrev pub item_in : Sections → ℕ → TextEntry
item_in s j = record { offset = item_word s j 0; len = item_word s j 1; value = item_word s j 2 }

abbrev pub index_in : Sections → ℕ → TextEntry
index_in s j = record { offset = index_word s j 0; len = index_word s j 1; value = index_word s j 2 }

-- definition j
abbrev pub definition_in : Sections → ℕ → Definition
definition_in s j = record { offset = definition_word s j 0; len = definition_word s j 1; first = definition_word s j 2; count = definition_word s j 3 }

-- names on an `unfolding` line what a computation with this module needs
unfoldable pub entries : Unit {0}
unfolding record_of text_entry_of definition_of entry_text_from definition_text_in
entries = tt
