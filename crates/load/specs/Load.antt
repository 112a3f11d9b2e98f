-- What a load answers: 0, or the number of the first rule that is broken; and the work words on return.
use Rattle.std.specs.Prelude.{ℕ, zero, suc, List, ◌++◌, Bool, cond, ◌&&◌, ◌≡◌, drop, replicate, leb, eqb, Err, Ok, Result}
use Rattle.laws.specs.Refusal.{unless, ◌▸◌, first_of, refusals}
use Rattle.words.specs.Words.{word_at}
use Rattle.checksum.specs.Crc.{checksum_of, crcs}
use Rattle.image.specs.Sections.{Sections, node_count, index_count}
use Rattle.image.specs.declared.ImageView.{ImageView}
use Rattle.image.specs.Header.{checksum_at, header_rule, view_of, sections_of, headers}
use Rattle.image.specs.Refusals.{bad_header, bad_checksum, too_few_words, bad_root, left_over}
use Rattle.records.specs.Records.{node_rule, root_right, used_up, containers_before, records}
use Rattle.tree.specs.Work.{tree_words}
use Rattle.tree.specs.Tree.{tree_rule, trees}
use Rattle.index.specs.Index.{index_rule, indexes}
use Rattle.definitions.specs.Definitions.{definitions_rule, definitions}

-- row 6
unfoldable pub checksum_rule : List ℕ → ℕ
checksum_rule bs = unless (eqb (word_at bs checksum_at) (checksum_of bs)) bad_checksum

-- row 13
unfoldable pub leftover_rule : Sections → ℕ
leftover_rule s = unless (used_up s && eqb (containers_before s (node_count s)) (index_count s)) left_over

-- rows 8 to 13
unfoldable pub records_rule : Sections → ℕ
records_rule s = unless (root_right s) bad_root ▸ first_of (node_count s) (node_rule s) ▸ leftover_rule s

-- rows 8 to 17
unfoldable pub sections_rule : Sections → ℕ
sections_rule s = records_rule s ▸ tree_rule s ▸ index_rule s ▸ definitions_rule s

-- work words for loading: those of the tree's walk
abbrev pub load_words : Sections → ℕ
load_words s = tree_words s

-- a load of bytes with a count of work words
unfoldable pub load_rule : List ℕ → ℕ → ℕ
load_rule bs work = header_rule bs ▸ checksum_rule bs ▸ unless (leb (load_words (sections_of bs)) work) too_few_words ▸ sections_rule (sections_of bs)

-- the answer: the view that the header gives, or the number
abbrev pub loaded_by : ℕ → ImageView → Result ImageView ℕ
loaded_by zero v = Ok v
loaded_by (suc r) v = Err (suc r)

unfoldable pub loaded_of : List ℕ → ℕ → Result ImageView ℕ
loaded_of bs work = loaded_by (load_rule bs work) (view_of bs)

-- the bytes break none of the rules
abbrev pub Accepted : List ℕ → Type 0
Accepted bs = (header_rule bs ▸ checksum_rule bs ▸ sections_rule (sections_of bs)) ≡ 0

-- refusals 1 to 7 leave the work words untouched
abbrev pub early : ℕ → Bool
early r = leb bad_header r && leb r too_few_words

-- the work words on return: otherwise as many as are needed are zero, and those past them stay
unfoldable pub work_after : ℕ → ℕ → List ℕ → List ℕ
work_after needed r work = cond (early r) work (replicate needed 0 ++ drop needed work)

-- names on an `unfolding` line what a computation with this module needs
unfoldable pub loads : Unit {0}
unfolding checksum_rule leftover_rule records_rule sections_rule load_rule loaded_of work_after headers records trees indexes definitions crcs refusals
loads = tt
