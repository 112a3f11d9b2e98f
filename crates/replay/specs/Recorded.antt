-- What a record says of a query's answer, of a load, of a draft and of targets found from paths.
use Rattle.std.specs.Prelude.{ℕ, ◌+◌, List, Bool, true, false, cond, take, eqb, None, Option, Some, Result}
use Rattle.words.specs.Words.{word_in, words_of}
use Rattle.texts.specs.Text.{same}
use Rattle.image.specs.Header.{section_bytes}
use Rattle.image.specs.Refusals.{not_found, draft_shape, no_room}
use Rattle.promises.specs.Answers.{of_loaded}
use Rattle.image.specs.Sections.{Sections}
use Rattle.target_finding.specs.Targets.{PathList, resolve_rule, nodes_after}
use Rattle.writer.specs.Encoded.{Encoded, Written, Short, Refused}
use Rattle.image.specs.declared.ImageView.{ImageView}

-- whether a record has the answer at `at`: 0 and then `count` words, which are these, or 18 for none
unfoldable pub recorded : List ℕ → ℕ → ℕ → Option (List ℕ) → Bool
recorded r at count None = eqb (word_in r at) not_found
recorded r at count (Some ws) =
    cond (eqb (word_in r at) 0) (same (words_of (section_bytes r (record { offset = at + 4; count = count }) 4)) ws) false

-- whether the first word of a record is the number of a load's answer
unfoldable pub recorded_load : List ℕ → Result ImageView ℕ → Bool
recorded_load r a = eqb (of_loaded a).number (word_in r 0)

-- whether a refusal is the recorded one: 0 is none, 21 stands for any
unfoldable pub refused_alike : ℕ → ℕ → Bool
refused_alike ours theirs = cond (eqb theirs 0) false (cond (eqb theirs draft_shape) true (eqb ours theirs))

-- whether a draft's answer and output are as recorded: the number 0 and the image, or a refusal
unfoldable pub same_written : Encoded → List ℕ → ℕ → List ℕ → Bool
same_written (Written n) out number image = cond (eqb number 0) (same (take n out) image) false
same_written (Short n) out number image = refused_alike no_room number
same_written (Refused ours) out number image = refused_alike ours number

-- whether the number of a call and the nodes after it are as recorded, a refused draft's nodes too
unfoldable pub same_nodes : ℕ → List ℕ → ℕ → List ℕ → Bool
same_nodes ours nodes number r = cond (eqb ours number) (same (words_of r) nodes) false

-- whether the answer to a draft with paths beside it, and its nodes then, are as recorded
unfoldable pub recorded_targets : ℕ → Sections → PathList → ℕ → ℕ → List ℕ → Bool
recorded_targets ink s p work number r = same_nodes (resolve_rule ink s p work) (nodes_after (resolve_rule ink s p work) s p) number r
