-- How long an image is, by the counts of its sections.
use Rattle.std.specs.Prelude.{ℕ, ◌+◌, ◌*◌, cond, leb, None, Option, Some}
use Rattle.words.specs.Words.{NONE}
use Rattle.image.specs.Header.{header_length}
use Rattle.image.specs.Sections.{Sections, node_size, child_size, text_entry_size, definition_size}
use Rattle.image.specs.declared.EntryCounts.{EntryCounts}
use Rattle.image.specs.Counted.{length_by}
use Rattle.write_text_uses.specs.Uses.{image_counts}
use Rattle.write_image.specs.declared.Places.{Places}

-- header, nodes, children, named children and definitions, by format version
abbrev pub front_by : ℕ → EntryCounts → ℕ
front_by version c = header_length + c.nodes * node_size version + c.children * child_size + c.named * text_entry_size + c.definitions * definition_size

-- where the sections that hold lists begin behind the header, where those that hold texts, and where they end
abbrev pub places_by : ℕ → EntryCounts → Places
places_by version c =
    let lists = c.nodes * node_size version + c.children * child_size + c.named * text_entry_size in
    let texts = lists + c.definitions * definition_size + c.items * text_entry_size + c.index * text_entry_size in
    record { lists = lists; texts = texts; end = texts + c.payload + c.strings }

-- a number that a word can say, or one more than a word can say
unfoldable pub capped : ℕ → ℕ
capped n = cond (leb n NONE) n 4294967296

-- the answer for a number of bytes
unfoldable pub size_of : ℕ → Option ℕ
size_of n = cond (leb n NONE) (Some n) None

-- of a draft's image
abbrev pub image_length : Sections → ℕ
image_length s = length_by s.version (image_counts s)
