-- A call gives one refusal number, or 0: which numbers each can give, whatever it is lent. A later request adds its numbers to a list here.
use Rattle.std.specs.Prelude.{ℕ, ◌≡◌, List, [], ◌∷◌, ◌++◌, true, Option}
use Rattle.laws.specs.Lists.{has}
use Rattle.image.specs.Sections.{Sections}
use Rattle.image.specs.Header.{header_rule}
use Rattle.image.specs.Refusals.{bad_header, bad_version, bad_ink_version, bad_length, bad_sections, bad_checksum, too_few_words, bad_root, bad_node, bad_text, bad_range, bad_tag, left_over, bad_child, unreached, bad_index, bad_definition, not_found, bad_draft, draft_unreached, draft_shape, draft_paths, no_room, too_few_slots, no_target, no_container, bad_summary}
use Rattle.load.specs.Load.{load_rule}
use Rattle.draft_image.specs.Encode.{encode_rule}
use Rattle.pages.specs.Page.{page_rule}
use Rattle.promises.specs.Answers.{of_node, of_found, of_count, of_named, of_text, of_entry, of_definition, of_item, of_list_item}
use Rattle.target_finding.specs.Targets.{PathList, resolve_rule}
use Rattle.target_counts.specs.Summary.{summary_rule, draft_count_rule}
use Rattle.target_changes.specs.Change.{set_target_rule}
use Rattle.views.specs.declared.Span.{Span}
use Rattle.views.specs.declared.ItemView.{ItemView}
use Rattle.views.specs.declared.ListEntry.{ListEntry}
use Rattle.views.specs.declared.NodeView.{NodeView}
use Rattle.views.specs.declared.NamedChildView.{NamedChildView}
use Rattle.lookups.specs.declared.ListItem.{ListItem}
use Rattle.views.specs.declared.DefinitionView.{DefinitionView}

-- ---- the numbers of each call

-- 1 to 5
abbrev pub header_numbers : List ℕ
header_numbers = 0 ∷ bad_header ∷ bad_version ∷ bad_ink_version ∷ bad_length ∷ bad_sections ∷ []

-- 1 to 17
abbrev pub load_numbers : List ℕ
load_numbers =
    header_numbers
    ++ (bad_checksum ∷ too_few_words ∷ bad_root ∷ bad_node ∷ bad_text ∷ bad_range ∷ bad_tag ∷ left_over ∷ bad_child ∷ unreached ∷ bad_index ∷ bad_definition ∷ [])

-- 18
abbrev pub query_numbers : List ℕ
query_numbers = 0 ∷ not_found ∷ []

-- 3, 7 and 19 to 21: of every call on a draft
abbrev pub draft_numbers : List ℕ
draft_numbers = 0 ∷ bad_ink_version ∷ too_few_words ∷ bad_draft ∷ draft_unreached ∷ draft_shape ∷ []

-- and 22, 23
abbrev pub encode_numbers : List ℕ
encode_numbers = draft_numbers ++ (draft_paths ∷ no_room ∷ [])

-- and 25, 26
abbrev pub resolve_numbers : List ℕ
resolve_numbers = draft_numbers ++ (no_target ∷ no_container ∷ [])

-- 24
abbrev pub page_numbers : List ℕ
page_numbers = 0 ∷ too_few_slots ∷ []

-- 27
abbrev pub count_numbers : List ℕ
count_numbers = 0 ∷ bad_summary ∷ []

-- 19, 27
abbrev pub draft_count_numbers : List ℕ
draft_count_numbers = 0 ∷ bad_draft ∷ bad_summary ∷ []

-- 18, 19, 27
abbrev pub set_target_numbers : List ℕ
set_target_numbers = 0 ∷ not_found ∷ bad_draft ∷ bad_summary ∷ []

-- ---- each call gives one of its numbers

abbrev pub OneOf : List ℕ → ℕ → Type 0
OneOf numbers r = has r numbers ≡ true

-- `ImageView::new`, `load`
abbrev pub HeaderNumbers : Type 0
HeaderNumbers = (bs : List ℕ) → OneOf header_numbers (header_rule bs)

abbrev pub LoadNumbers : Type 0
LoadNumbers = (bs : List ℕ) (work : ℕ) → OneOf load_numbers (load_rule bs work)

-- `encode`, `resolve_static_targets`
abbrev pub EncodeNumbers : Type 0
EncodeNumbers = (ink : ℕ) (s : Sections) (work room : ℕ) → OneOf encode_numbers (encode_rule ink s work room)

abbrev pub ResolveNumbers : Type 0
ResolveNumbers = (ink : ℕ) (s : Sections) (p : PathList) (work : ℕ) → OneOf resolve_numbers (resolve_rule ink s p work)

-- `page`
abbrev pub PageNumbers : Type 0
PageNumbers = (numbers room : ℕ) → OneOf page_numbers (page_rule numbers room)

-- `count_targets`, `count_draft_targets`, `set_target`
abbrev pub CountNumbers : Type 0
CountNumbers = (s : Sections) (words : ℕ) → OneOf count_numbers (summary_rule s words)

abbrev pub DraftCountNumbers : Type 0
DraftCountNumbers = (s : Sections) (words : ℕ) → OneOf draft_count_numbers (draft_count_rule s words)

abbrev pub SetTargetNumbers : Type 0
SetTargetNumbers = (s : Sections) (summary : List ℕ) (node target : ℕ) → OneOf set_target_numbers (set_target_rule s summary node target)

-- every query, by the kind of its answer
pub record QueryNumbers : Type 0 where
  pub node : (a : Option NodeView) → OneOf query_numbers (of_node a).number
  pub found : (a : Option ℕ) → OneOf query_numbers (of_found a).number
  pub count : (a : Option ℕ) → OneOf query_numbers (of_count a).number
  pub named : (a : Option NamedChildView) → OneOf query_numbers (of_named a).number
  pub text : (a : Option Span) → OneOf query_numbers (of_text a).number
  pub entry : (a : Option ListEntry) → OneOf query_numbers (of_entry a).number
  pub definition : (a : Option DefinitionView) → OneOf query_numbers (of_definition a).number
  pub item : (a : Option ItemView) → OneOf query_numbers (of_item a).number
  pub list-item : (a : Option ListItem) → OneOf query_numbers (of_list_item a).number
