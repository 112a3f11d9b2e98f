-- Entries of the sections, where there are such: what the queries read.
use Rattle.std.specs.Prelude.{ℕ, ◌/◌, List, cond, length, ltb, None, Option, Some}
use Rattle.words.specs.Words.{words_of}
use Rattle.image.specs.Sections.{Sections, text_entry_words, child_count, named_count, definition_count, item_count, child_word, inside, inside_container}
use Rattle.image.specs.Entries.{node_in, named_in, item_in, definition_in, text_entry_of}
use Rattle.image.specs.declared.Definition.{Definition}
use Rattle.image.specs.declared.NodeRecord.{NodeRecord}
use Rattle.image.specs.declared.TextEntry.{TextEntry}

unfoldable pub node_found : Sections → ℕ → Option NodeRecord
node_found s i = cond (inside s i) (Some (node_in s i)) None

unfoldable pub container_found : Sections → ℕ → Option NodeRecord
container_found s i = cond (inside_container s i) (Some (node_in s i)) None

unfoldable pub child_found : Sections → ℕ → Option ℕ
child_found s k = cond (ltb k (child_count s)) (Some (child_word s k)) None

-- of a section of texts, out of its bytes
unfoldable pub entry_found : List ℕ → ℕ → Option TextEntry
entry_found part k = cond (ltb k (length (words_of part) / text_entry_words)) (Some (text_entry_of (words_of part) k)) None

unfoldable pub named_found : Sections → ℕ → Option TextEntry
named_found s k = cond (ltb k (named_count s)) (Some (named_in s k)) None

unfoldable pub item_found : Sections → ℕ → Option TextEntry
item_found s k = cond (ltb k (item_count s)) (Some (item_in s k)) None

unfoldable pub definition_found : Sections → ℕ → Option Definition
definition_found s d = cond (ltb d (definition_count s)) (Some (definition_in s d)) None
