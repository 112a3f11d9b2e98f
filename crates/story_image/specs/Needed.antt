-- How many work words a load and a write need.
use Rattle.std.specs.Prelude.{ℕ, ◌/◌, ◌≤◌, ◌≡◌, List, cond, length, leb}
use Rattle.image.specs.Sections.{Sections}
use Rattle.image.specs.Refusals.{too_few_words}
use Rattle.load.specs.Load.{load_rule}
unfoldable pub use Rattle.load.specs.Needed.{words_to_load}
use Rattle.draft.specs.Draft.{write_words}
use Rattle.draft_image.specs.Encode.{encode_rule}
use Rattle.story_image.specs.Exported.{view_length, lent_words}
use Rattle.story_image.specs.Writing.{words_with_length}

-- the largest number of a size
abbrev pub largest_size : ℕ
largest_size = 18446744073709551615

-- of a draft, as many as the writer tests for, where a size can say it
unfoldable pub words_to_write : Sections → ℕ
words_to_write s = cond (leb (write_words s) largest_size) (write_words s) largest_size

-- no slice of words has more
abbrev pub longest_slice : ℕ
longest_slice = 2305843009213693951

-- ---- what is promised of them

-- with so many work words, and a view that is not too short, a load never answers 7; they are at most a quarter of the bytes
abbrev pub LoadWordsSuffice : Type 0
LoadWordsSuffice =
    (bs : List ℕ) → (words_to_load bs ≤ length bs / 4)
    × ((work view : ℕ) → words_to_load bs ≤ work → view_length ≤ view → load_rule bs (lent_words view work) ≡ too_few_words → ⊥)

-- with so many work words, and a word for the length, the writer never answers 7
abbrev pub WriteWordsSuffice : Type 0
WriteWordsSuffice =
    (ink : ℕ) (s : Sections) (work written room : ℕ) → work ≤ longest_slice → words_to_write s ≤ work → 1 ≤ written
    → encode_rule ink s (words_with_length written work) room ≡ too_few_words → ⊥
