-- What is promised of the exported load of the sleeper's reader: how many work words suffice.
use Rattle.std.specs.Prelude.{ℕ, ◌/◌, ◌≤◌, ◌≡◌, List, length}
use Rattle.image.specs.Refusals.{too_few_words}
use Rattle.load.specs.Load.{load_rule}
use Rattle.load.specs.Needed.{words_to_load}
use Rattle.sleeper_image.specs.Exported.{view_length, lent_words}

-- with so many work words, and a view that is not too short, a load never answers 7; they are at most a quarter of the bytes
abbrev pub SleeperLoadWordsSuffice : Type 0
SleeperLoadWordsSuffice =
    (bs : List ℕ) → (words_to_load bs ≤ length bs / 4)
    × ((work view : ℕ) → words_to_load bs ≤ work → view_length ≤ view → load_rule bs (lent_words view work) ≡ too_few_words → ⊥)
