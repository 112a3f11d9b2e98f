-- The numbers of the calls that count targets, and of the one that changes a target.
use Prim.Native.Nat.{ℕ}
use mathlib.Core.List.{List}
use Rattle.laws.specs.Lists.{has}
use Rattle.image.specs.Sections.{Sections}
use Rattle.draft.specs.Draft.{draft_node_rule, draft_child_rule, draft_named_rule, draft_definition_rule, draft_item_rule, tables_rule}
use Rattle.target_counts.specs.Summary.{summary_rule, draft_count_rule}
use Rattle.target_changes.specs.Change.{step_rule, move_rule, set_target_rule}
use Rattle.refusal_numbers.specs.Numbers.{count_numbers, draft_count_numbers, set_target_numbers, CountNumbers, DraftCountNumbers, SetTargetNumbers}
use Rattle.refusal_numbers.proofs.OneOf.{In, among, numbers}

count-number : (s : Sections) (words : ℕ) → In count_numbers (summary_rule s words)
unfolding summary_rule has
count-number s words = search numbers

pub count-numbers : CountNumbers
count-numbers s words = among count_numbers _ (count-number s words)

draft-count-number : (s : Sections) (words : ℕ) → In draft_count_numbers (draft_count_rule s words)
unfolding draft_count_rule summary_rule tables_rule draft_node_rule draft_child_rule draft_named_rule draft_definition_rule draft_item_rule has
draft-count-number s words = search numbers depth 30

pub draft-count-numbers : DraftCountNumbers
draft-count-numbers s words = among draft_count_numbers _ (draft-count-number s words)

set-target-number : (s : Sections) (summary : List ℕ) (node target : ℕ) → In set_target_numbers (set_target_rule s summary node target)
unfolding set_target_rule summary_rule move_rule step_rule tables_rule draft_node_rule draft_child_rule draft_named_rule draft_definition_rule draft_item_rule has
set-target-number s summary node target = search numbers depth 30

pub set-target-numbers : SetTargetNumbers
set-target-numbers s summary node target = among set_target_numbers _ (set-target-number s summary node target)
