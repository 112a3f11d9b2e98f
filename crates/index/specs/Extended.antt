-- The quick test of an index entry: its text is that of the entry of its target's parent, a dot and its target's piece.
use Rattle.std.specs.Prelude.{ℕ, ◌+◌, ◌%◌, ◌<◌, ◌≡◌, List, Bool, cond, ◌&&◌, not, eqb, ltb, length, get_or, take, drop}
use Rattle.laws.specs.Refusal.{first_of}
use Rattle.texts.specs.Text.{same}
use Rattle.texts.specs.Dots.{dot}
use Rattle.image.specs.declared.TextEntry.{TextEntry}
use Rattle.image.specs.Sections.{Sections, index_word, parent_of, part_at, text_or_empty, present, good_bytes, inside_container}
use Rattle.image.specs.Entries.{text_entry_of, index_in}
use Rattle.tree.specs.Reach.{AllClimb}
use Rattle.index.specs.declared.PathNode.{PathNode}
use Rattle.index.specs.Paths.{piece_of, name_or_place}
use Rattle.index.specs.Index.{index_entry_rule}
use Rattle.index.specs.Parts.{path_node_of}

-- ---- what is known when entry j is tested

-- parent steps lead from every node to the root, and no entry before it is refused
pub record Tested (s : Sections) (j : ℕ) : Type 0 where
  pub climbs : AllClimb s
  pub passed : first_of j (index_entry_rule s) ≡ 0

-- how many values a word has
abbrev pub word_values : ℕ
word_values = 4294967296

-- the work word of the target of each entry before it holds the entry's number
pub record Filed (index work : List ℕ) (j : ℕ) : Type 0 where
  pub inside : (k : ℕ) → k < j → (text_entry_of index k).value < length work
  pub number : (k : ℕ) → k < j → get_or work (text_entry_of index k).value 0 ≡ k % word_values

-- ---- what is answered

-- the entry whose number the parent's work word holds, if it comes before j and its target is the parent, else j
unfoldable pub parent_entry : List ℕ → List ℕ → ℕ → ℕ → ℕ
parent_entry index work parent j =
    let k = get_or work parent 0 in
    cond (ltb parent (length work) && ltb k j && eqb (text_entry_of index k).value parent) k j

-- the text of an entry is that of the entry above, a dot and the piece of a node, and good from the dot on
unfoldable pub extends_by : List ℕ → TextEntry → TextEntry → PathNode → Bool
extends_by strings above entry node =
    let text = text_or_empty strings entry.offset entry.len in
    let rest = drop (above.len + 1) text in
    present entry.offset entry.len && ltb above.len (length text) && eqb (get_or text above.len 0) dot
    && same rest (piece_of strings node.place node.offset node.len) && good_bytes rest
    && same (take above.len text) (part_at strings above.offset above.len)

-- the entry of the parent of entry j's target, if it is before j and entry j's text extends its text, else j; j too where the parent is the root,
-- whose text is empty
unfoldable pub extended_entry : Sections → List ℕ → ℕ → ℕ
extended_entry s work j =
    let i = index_word s j 2 in
    let k = parent_entry s.index work (parent_of s i) j in
    cond (
    not (eqb i 0) && inside_container s i && name_or_place s i && not (eqb (parent_of s i) 0) && ltb k j
    && extends_by s.strings (index_in s k) (index_in s j) (path_node_of s i)
    ) k j
