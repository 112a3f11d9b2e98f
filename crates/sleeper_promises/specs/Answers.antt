-- The number and the value of every answer of the sleeper's reader that is an enum, and of a text: 0 and what the answer holds, or the number
-- of the refusal and nothing. Children, counts and look-ups have the technician's.
use Rattle.std.specs.Prelude.{ℕ, List, ℤ, None, Option, Some, Err, Ok, Result}
use Rattle.image.specs.Refusals.{not_found}
use Rattle.views.specs.Answers.{Answer, given, refused}
use Rattle.sleeper.specs.declared.SleeperView.{SleeperView}
use Rattle.sleeper.specs.declared.SleeperNode.{SleeperNode}
use Rattle.sleeper.specs.declared.SleeperEntry.{SleeperEntry}

abbrev pub of_sleeper_loaded : Result SleeperView ℕ → Answer SleeperView
of_sleeper_loaded (Ok v) = given v
of_sleeper_loaded (Err n) = refused n

abbrev pub of_sleeper : Option SleeperNode → Answer SleeperNode
of_sleeper (Some v) = given v
of_sleeper None = refused not_found

abbrev pub of_sleeper_entry : Option SleeperEntry → Answer SleeperEntry
of_sleeper_entry (Some e) = given e
of_sleeper_entry None = refused not_found

abbrev pub of_sleeper_item : Option ℤ → Answer ℤ
of_sleeper_item (Some v) = given v
of_sleeper_item None = refused not_found

abbrev pub of_bytes : Option (List ℕ) → Answer (List ℕ)
of_bytes (Some t) = given t
of_bytes None = refused not_found
