-- What the code of row 21 reads, and what row 19 has shown of it before.
use Rattle.std.specs.Prelude.{ℕ, ◌+◌, ◌≤◌, ◌<◌, ◌≡◌, List, [], Bool, true, ◌&&◌, eqb}
use Rattle.texts.specs.Text.{rising}
use Rattle.image.specs.Sections.{Sections, node_count, named_count, definition_count, item_count, parent_of, named_word, good_text, is_container, inside_container}
use Rattle.image.specs.Entries.{text_entry_of, entry_text_from}
use Rattle.tree.specs.Parts.{Ranges}
use Rattle.definitions.specs.Definitions.{first_item, number_of_items}
use Rattle.draft.specs.Source.{draft_of}

-- ---- named entries

-- node n is a container whose parent is i
abbrev pub right_container : ℕ → List ℕ → ℕ → ℕ → Bool
right_container version nodes n i =
    let s = draft_of version nodes [] [] [] [] [] [] in
    inside_container s n && eqb (parent_of s n) i

-- the j-th named entry from the first one of container i on has its text in order, and names such a container
unfoldable pub named_right : ℕ → List ℕ → List ℕ → List ℕ → ℕ → ℕ → ℕ → Bool
named_right version nodes named strings i first j =
    rising (entry_text_from named strings first) j && right_container version nodes (text_entry_of named (first + j)).value i

-- ---- what row 19 has shown

-- containers' entries lie in their sections, and the texts of named entries are good
pub record TreePassed (s : Sections) : Type 0 where
  pub ranges : (i : ℕ) → i < node_count s → is_container s i ≡ true → Ranges s i
  pub texts : (j : ℕ) → j < named_count s → good_text s (named_word s j 0) (named_word s j 1) ≡ true

-- the items of definitions lie in their section
pub record ListsPassed (s : Sections) : Type 0 where
  pub ranges : (d : ℕ) → d < definition_count s → first_item s d + number_of_items s d ≤ item_count s

-- there is a root, and both of these hold
pub record TablesPassed (s : Sections) : Type 0 where
  pub some : 0 < node_count s
  pub tree : TreePassed s
  pub lists : ListsPassed s
