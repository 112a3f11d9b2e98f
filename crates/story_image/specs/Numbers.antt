-- Which numbers each exported function can return, by what its contract says of the number.
use Rattle.std.specs.Prelude.{ℕ, List, [], ◌∷◌, Option}
use Rattle.image.specs.Refusals.{not_found, no_room, too_few_slots, bad_summary}
use Rattle.image.specs.Sections.{Sections}
use Rattle.load.specs.Load.{load_rule}
use Rattle.answers.specs.AnswerWords.{Answered}
use Rattle.answers.specs.Lent.{Spelled}
use Rattle.target_finding.specs.Targets.{PathList, resolve_rule}
use Rattle.target_counts.specs.Summary.{draft_count_rule}
use Rattle.target_changes.specs.Change.{set_target_rule}
use Rattle.refusal_numbers.specs.Numbers.{OneOf, load_numbers, query_numbers, encode_numbers, resolve_numbers, draft_count_numbers, set_target_numbers}
use Rattle.story_image.specs.Exported.{lent_words}
use Rattle.story_image.specs.Queries.{page_number, count_number}
use Rattle.story_image.specs.Writing.{Wrote}

-- 18, 24
abbrev pub page_export_numbers : List ℕ
page_export_numbers = 0 ∷ not_found ∷ too_few_slots ∷ []

-- 18, 27
abbrev pub count_export_numbers : List ℕ
count_export_numbers = 0 ∷ not_found ∷ bad_summary ∷ []

-- 18, 23
abbrev pub spell_numbers : List ℕ
spell_numbers = 0 ∷ not_found ∷ no_room ∷ []

pub record ExportNumbers : Type 0 where
  -- story_image_load
  pub load : (bs : List ℕ) (view work : ℕ) → OneOf load_numbers (load_rule bs (lent_words view work))
  -- every query that fills an answer
  pub query : (o : Option (List ℕ)) (before after : List ℕ) (r : ℕ) → Answered o before after r → OneOf query_numbers r
  -- story_image_page
  pub page : (view numbers slots : ℕ) → OneOf page_export_numbers (page_number view numbers slots)
  -- story_image_count_targets
  pub count : (bytes view : List ℕ) (words : ℕ) → OneOf count_export_numbers (count_number bytes view words)
  -- story_image_command_name, story_image_operator_name
  pub spell : (o : Option (List ℕ)) (text₀ text long₀ long : List ℕ) (r : ℕ) → Spelled o text₀ text long₀ long r → OneOf spell_numbers r
  -- story_image_write
  pub write : (ink : ℕ) (s : Sections) (out₀ out work₀ work written₀ written : List ℕ) (r : ℕ) → Wrote ink s out₀ out work₀ work written₀ written r
      → OneOf encode_numbers r
  -- story_image_resolve_static_targets
  pub resolve : (ink : ℕ) (s : Sections) (p : PathList) (work : ℕ) → OneOf resolve_numbers (resolve_rule ink s p work)
  -- story_image_count_draft_targets
  pub draft-count : (s : Sections) (words : ℕ) → OneOf draft_count_numbers (draft_count_rule s words)
  -- story_image_set_target
  pub set-target : (s : Sections) (summary : List ℕ) (node target : ℕ) → OneOf set_target_numbers (set_target_rule s summary node target)
