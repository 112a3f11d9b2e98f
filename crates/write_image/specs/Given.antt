-- What is known before an image is written, of a draft and of the work words.
use Rattle.std.specs.Prelude.{ℕ, ◌+◌, ◌≤◌, ◌<◌, ◌≡◌, List, [], ◌++◌, length, get_or}
use Rattle.words.specs.Words.{NONE}
use Rattle.image.specs.Sections.{Sections, node_count}
use Rattle.image.specs.declared.EntryCounts.{EntryCounts}
use Rattle.image.specs.Encoding.{section_out}
use Rattle.draft.specs.Source.{draft_of}
use Rattle.draft.specs.declared.layout.Layout.{Layout}
use Rattle.draft.specs.Draft.{tables_rule, reach_rule, shape_rule}
use Rattle.draft.specs.Numbering.{numbering}
use Rattle.draft_image.specs.Strings.{uses, by_path, stored_texts}
use Rattle.draft_image.specs.Written.{written}
use Rattle.draft_image.specs.Ready.{OldsAt, NewsAt, OffsetsAt, node_uses, named_uses, text_uses}
use Rattle.write_text_keys.specs.Keys.{key_in, Placed}
use Rattle.write_text_uses.specs.Uses.{image_counts}
use Rattle.write_paths.specs.PathIndex.{PathsAt, LengthsAt}
use Rattle.write_image.specs.declared.Places.{Places}
use Rattle.write_image.specs.Length.{places_by, image_length}

-- rules 19 to 21 are kept, a word can say how long the image is, and the work words hold the numbers of the nodes and the offsets of
-- the texts in use, of which the paths come last
pub record DraftPlanned (s : Sections) (w : List ℕ) (l : Layout) : Type 0 where
  pub tables : tables_rule s ≡ 0
  pub reach : reach_rule s ≡ 0
  pub shape : shape_rule s ≡ 0
  pub long : image_length s ≤ NONE
  pub olds : OldsAt (numbering s) w (node_count s) l.order
  pub news : NewsAt (numbering s) w (node_count s) l.new
  pub texts : l.texts ≡ length (text_uses s (numbering s))
  pub offsets : OffsetsAt (stored_texts s (numbering s)) (uses s (numbering s)) w l.offsets
  pub order_end : l.order + node_count s ≤ length w
  pub new_start : l.new ≤ length w
  pub offsets_end : l.offsets + length (uses s (numbering s)) ≤ length w

-- ---- nodes, ordered children and named children

-- the bytes of the sections
abbrev pub tree_out : Sections → List ℕ
tree_out s = section_out (written s) 0 ++ section_out (written s) 1 ++ section_out (written s) 2

-- of some draft that has these sections, all is known, and they fit
pub record TreeReady (version : ℕ) (nodes children named payload w : List ℕ) (l : Layout) (room : ℕ) : Type 0 where
  pub definitions : List ℕ
  pub items : List ℕ
  pub strings : List ℕ
  pub told : DraftPlanned (draft_of version nodes children named definitions items payload strings) w l
  pub fits : length (tree_out (draft_of version nodes children named definitions items payload strings)) ≤ room

-- the word at which the offsets of the definitions' texts begin
abbrev pub definitions_at : Sections → Layout → ℕ
definitions_at s l = l.offsets + length (node_uses s (numbering s)) + length (named_uses s (numbering s))

-- ---- definitions, items and index

abbrev pub lists_out : Sections → List ℕ
lists_out s = section_out (written s) 3 ++ section_out (written s) 4 ++ section_out (written s) 5

-- the work words hold the containers in the order of the index, and the lengths of their paths
pub record Indexed (s : Sections) (w : List ℕ) (l : Layout) (count : ℕ) : Type 0 where
  pub all : count ≡ length (by_path s (numbering s))
  pub boxes : PathsAt s (numbering s) w (l.at + l.paths)
  pub lengths : LengthsAt s (numbering s) w (l.at + l.lengths)
  pub boxes_end : l.at + l.paths + count ≤ length w
  pub lengths-start : l.at + l.lengths ≤ length w

pub record ListsReady (definitions items w : List ℕ) (l : Layout) (text count room : ℕ) : Type 0 where
  pub version : ℕ
  pub nodes : List ℕ
  pub children : List ℕ
  pub named : List ℕ
  pub payload : List ℕ
  pub strings : List ℕ
  pub told : DraftPlanned (draft_of version nodes children named definitions items payload strings) w l
  pub at : text ≡ definitions_at (draft_of version nodes children named definitions items payload strings) l
  pub indexed : Indexed (draft_of version nodes children named definitions items payload strings) w l count
  pub fits : length (lists_out (draft_of version nodes children named definitions items payload strings)) ≤ room

-- ---- payload and strings

abbrev pub texts_out : Sections → List ℕ
texts_out s = section_out (written s) 6 ++ section_out (written s) 7

-- the tables give the text of each use
pub record Keyed (s : Sections) (w : List ℕ) (l : Layout) : Type 0 where
  pub all : l.offsets ≡ length (uses s (numbering s))
  pub keys : (a : ℕ) → a < l.offsets → key_in s.version s.nodes s.strings l w a ≡ get_or (uses s (numbering s)) a []
  pub behind : l.offsets + l.offsets ≤ l.at
  pub placed : Placed l (length w)

pub record TextsReady (version : ℕ) (nodes payload strings w : List ℕ) (l : Layout) (room : ℕ) : Type 0 where
  pub children : List ℕ
  pub named : List ℕ
  pub definitions : List ℕ
  pub items : List ℕ
  pub told : DraftPlanned (draft_of version nodes children named definitions items payload strings) w l
  pub keyed : Keyed (draft_of version nodes children named definitions items payload strings) w l
  pub fits : length (texts_out (draft_of version nodes children named definitions items payload strings)) ≤ room

-- ---- all of it

-- of the texts and tables: all is known of the draft, its index and the texts in use
pub record Ready (s : Sections) (w : List ℕ) (l : Layout) (c : EntryCounts) : Type 0 where
  pub told : DraftPlanned s w l
  pub counts : c ≡ image_counts s
  pub indexed : Indexed s w l c.index
  pub keyed : Keyed s w l

-- the same for the sections, with the room that they take
pub record Sectioned (s : Sections) (w : List ℕ) (l : Layout) (count : ℕ) (q : Places) (room : ℕ) : Type 0 where
  pub told : DraftPlanned s w l
  pub indexed : Indexed s w l count
  pub keyed : Keyed s w l
  pub places : q ≡ places_by s.version (image_counts s)
  pub fits : (places_by s.version (image_counts s)).end ≤ room
