-- How many work words a load of given bytes needs.
use Rattle.std.specs.Prelude.{ℕ, ◌/◌, ◌≤◌, ◌≡◌, List, cond, length, eqb}
use Rattle.image.specs.Header.{header_rule, sections_of}
use Rattle.image.specs.Refusals.{too_few_words}
use Rattle.load.specs.Load.{load_rule, load_words}

-- of bytes whose header passes, as many as a load tests for; of others none, since a load refuses them before that test
unfoldable pub words_to_load : List ℕ → ℕ
words_to_load bs = cond (eqb (header_rule bs) 0) (load_words (sections_of bs)) 0

-- they are at most a quarter of the bytes, and with so many a load never answers 7
abbrev pub WordsSuffice : Type 0
WordsSuffice =
    (bs : List ℕ) → (words_to_load bs ≤ length bs / 4) × ((work : ℕ) → words_to_load bs ≤ work → load_rule bs work ≡ too_few_words → ⊥)
