-- The base's acceptance, where a dot before the path fits if the topmost piece is a place, and ours, which adds one rule to it.
use Rattle.std.specs.Prelude.{ℕ, zero, suc, ◌<◌, ◌≡◌, ◌⊎◌, List, ◌∷◌, Bool, false, cond, ◌&&◌, ◌||◌, leb, eqb}
use Rattle.laws.specs.Refusal.{unless, ◌▸◌, first_of}
use Rattle.texts.specs.Text.{same, rising}
use Rattle.texts.specs.Dots.{dot}
use Rattle.image.specs.Sections.{Sections, node_count, index_count, index_word, parent_of, good_text, inside_container}
use Rattle.image.specs.Header.{header_rule, sections_of}
use Rattle.image.specs.Refusals.{bad_text, bad_node, bad_index, too_few_words}
use Rattle.tree.specs.Tree.{tree_rule}
use Rattle.index.specs.Paths.{nameless, canonical_path}
use Rattle.index.specs.Index.{index_text}
use Rattle.definitions.specs.Definitions.{definitions_rule}
use Rattle.load.specs.Load.{checksum_rule, records_rule, load_words, load_rule, loads}
use Rattle.promises.specs.Rules.{Iff, OnWay, NameOrPlace}

-- ---- a load by the base

-- the topmost piece of a path is a place; the root has no piece. The first argument bounds the steps up to it
unfoldable pub top_is_place : ℕ → Sections → ℕ → Bool
top_is_place zero s i = false
top_is_place (suc n) s i =
    let above = top_is_place n s (parent_of s i) in
    cond (eqb i 0) false (cond (eqb (parent_of s i) 0) (nameless s i) above)

-- an index text fits its target: it is the canonical path, or a dot before it where the topmost piece is a place
unfoldable pub base_fits : Sections → ℕ → List ℕ → Bool
base_fits s i t = same t (canonical_path s i) || (top_is_place (node_count s) s i && same t (dot ∷ canonical_path s i))

unfoldable pub base_entry_rule : Sections → ℕ → ℕ
base_entry_rule s j =
    unless (good_text s (index_word s j 0) (index_word s j 1)) bad_text
    ▸ unless (inside_container s (index_word s j 2)) bad_node
    ▸ unless (rising (index_text s) j) bad_index
    ▸ unless (base_fits s (index_word s j 2) (index_text s j)) bad_index

unfoldable pub base_index_rule : Sections → ℕ
base_index_rule s = first_of (index_count s) (base_entry_rule s)

unfoldable pub base_sections_rule : Sections → ℕ
base_sections_rule s = records_rule s ▸ tree_rule s ▸ base_index_rule s ▸ definitions_rule s

unfoldable pub base_rule : List ℕ → ℕ → ℕ
base_rule bs work =
    header_rule bs ▸ checksum_rule bs ▸ unless (leb (load_words (sections_of bs)) work) too_few_words ▸ base_sections_rule (sections_of bs)

-- ---- ours

-- the rule that is added, of entry j: its text is the path itself, and none on the way is nameless and of place NONE
pub record OneSpelt (s : Sections) (j : ℕ) : Type 0 where
  pub path : index_text s j ≡ canonical_path s (index_word s j 2)
  pub way : (x : ℕ) → OnWay s (index_word s j 2) x → NameOrPlace s x

pub record Added (bs : List ℕ) (work : ℕ) : Type 0 where
  -- what is accepted is what the base accepts, with this rule added
  pub accepts : Iff (load_rule bs work ≡ 0) ((base_rule bs work ≡ 0) × ((j : ℕ) → j < index_count (sections_of bs) → OneSpelt (sections_of bs) j))
  -- the number is the base's, or 16: what the base accepts and the rule forbids gets 16
  pub number : (load_rule bs work ≡ base_rule bs work) ⊎ (load_rule bs work ≡ bad_index)

abbrev pub RuleAdded : Type 0
RuleAdded = (bs : List ℕ) (work : ℕ) → Added bs work

-- names on an `unfolding` line what a computation with this module needs
unfoldable pub base_loads : Unit {0}
unfolding top_is_place base_fits base_entry_rule base_index_rule base_sections_rule base_rule loads
base_loads = tt
