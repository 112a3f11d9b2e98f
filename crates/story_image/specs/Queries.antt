-- What each exported query answers, on an image's bytes and the words of a view: its words, or none.
use Rattle.std.specs.Prelude.{ℕ, List, [], ◌∷◌, Bool, cond, length, leb, None, Option, Some}
use Rattle.image.specs.Sections.{Sections, definition_count}
use Rattle.image.specs.Header.{length_at, checksum_at, sections_by}
use Rattle.image.specs.Refusals.{not_found}
use Rattle.definitions.specs.Definitions.{first_item}
use Rattle.views.specs.declared.Span.{Span}
use Rattle.views.specs.View.{span, node_view}
use Rattle.views.specs.Children.{child_count_of, named_count_of, child_query, named_query, text_query}
use Rattle.views.specs.Lists.{list_part, list_entry, list_origin, definition_query, item_query}
use Rattle.lookups.specs.Lookup.{find_named}
use Rattle.list_items.specs.Search.{list_search}
use Rattle.walks.specs.Walk.{components, resolve}
use Rattle.depth.specs.Depth.{depth_of}
use Rattle.pages.specs.Page.{page_rule, page_after, slot_view}
use Rattle.target_counts.specs.Summary.{summary_rule, summary_after}
use Rattle.technician.specs.Technician.{strings_count_at, header_word}
use Rattle.answers.specs.AnswerWords.{answer_after, count_words, found_answer, named_answer, place_answer, part_words, part_answer, entry_answer, definition_answer, item_answer, list_item_answer, list_count_words}
use Rattle.answers.specs.NodeViewWords.{node_answer, list_place}
use Rattle.story_image.specs.Exported.{view_length, view_by, under}
use Rattle.views.specs.declared.DefinitionView.{DefinitionView}

-- of a list value, where the node is one
abbrev pub at_list : Option Span → (Span → Option (List ℕ)) → Option (List ℕ)
at_list None query = None
at_list (Some t) query = query t

-- of a definition that is found, the number of its first item
abbrev pub first_words : Sections → ℕ → Option DefinitionView → Option (List ℕ)
first_words s d (Some found) = Some (first_item s d ∷ [])
first_words s d None = None

-- the number of a page, by how many words of a view, numbers and words of slots are lent: 18 before all else under too few of a view
unfoldable pub page_number : ℕ → ℕ → ℕ → ℕ
page_number view numbers slots = cond (leb view_length view) (page_rule numbers slots) not_found

module _ (bytes view : List ℕ) where
  abbrev pub answer_of_node_view : ℕ → Option (List ℕ)
  answer_of_node_view node = under view (λ v. node_answer (node_view (sections_by bytes v) node))

  -- the slots of a page on return; under a view of too few words nothing is written
  unfoldable pub page_written : List ℕ → List ℕ → List ℕ
  page_written numbers slots = cond (leb view_length (length view)) (page_after (sections_by bytes (view_by view)) numbers slots) slots

  -- the number of a count of targets, by how many words of a summary are lent: 18 before all else under too few of a view
  unfoldable pub count_number : ℕ → ℕ
  count_number words = cond (leb view_length (length view)) (summary_rule (sections_by bytes (view_by view)) words) not_found

  -- the summary on return; under a view of too few words nothing is written
  unfoldable pub count_written : List ℕ → List ℕ
  count_written summary =
      cond (leb view_length (length view))
      (let s = sections_by bytes (view_by view) in summary_after (summary_rule s (length summary)) s summary)
      summary

  abbrev pub answer_of_slot_view : List ℕ → Option (List ℕ)
  answer_of_slot_view slot = under view (λ v. node_answer (slot_view (sections_by bytes v) slot))

  abbrev pub answer_of_depth : ℕ → Option (List ℕ)
  answer_of_depth node = under view (λ v. found_answer (depth_of (sections_by bytes v) node))

  -- a text as a part of the image
  abbrev pub answer_of_text : ℕ → ℕ → Option (List ℕ)
  answer_of_text at len = under view (λ v. part_answer (length bytes) v.strings.offset (text_query (sections_by bytes v) (span at len)))

  abbrev pub answer_of_child_count : ℕ → Option (List ℕ)
  answer_of_child_count node = under view (λ v. found_answer (child_count_of (sections_by bytes v) node))

  abbrev pub answer_of_child : ℕ → ℕ → Option (List ℕ)
  answer_of_child node j = under view (λ v. found_answer (child_query (sections_by bytes v) node j))

  abbrev pub answer_of_named_child_count : ℕ → Option (List ℕ)
  answer_of_named_child_count node = under view (λ v. found_answer (named_count_of (sections_by bytes v) node))

  abbrev pub answer_of_named_child : ℕ → ℕ → Option (List ℕ)
  answer_of_named_child node j = under view (λ v. named_answer (named_query (sections_by bytes v) node j))

  abbrev pub answer_of_find_named_child : ℕ → List ℕ → Option (List ℕ)
  answer_of_find_named_child node name = under view (λ v. found_answer (find_named (sections_by bytes v) node name))

  -- a list value's payload as a part of the image; how many items and origins it has; item and origin j
  abbrev pub answer_of_list_payload : ℕ → Option (List ℕ)
  answer_of_list_payload node =
      under view (λ v. at_list (list_place (node_view (sections_by bytes v) node)) (λ t. part_words (length bytes) v.payload.offset t))

  abbrev pub answer_of_list_counts : ℕ → Option (List ℕ)
  answer_of_list_counts node =
      under view (λ v. let s = sections_by bytes v in at_list (list_place (node_view s node)) (λ t. list_count_words (list_part s t)))

  abbrev pub answer_of_node_list_entry : ℕ → ℕ → Option (List ℕ)
  answer_of_node_list_entry node j =
      under view (λ v. let s = sections_by bytes v in at_list (list_place (node_view s node)) (λ t. entry_answer (list_entry (list_part s t) s.strings j)))

  abbrev pub answer_of_node_list_origin : ℕ → ℕ → Option (List ℕ)
  answer_of_node_list_origin node j =
      under view (λ v. let s = sections_by bytes v in at_list (list_place (node_view s node)) (λ t. place_answer (list_origin (list_part s t) s.strings j)))

  abbrev pub answer_of_definition_count : Option (List ℕ)
  answer_of_definition_count = under view (λ v. count_words (definition_count (sections_by bytes v)))

  abbrev pub answer_of_definition : ℕ → Option (List ℕ)
  answer_of_definition d = under view (λ v. definition_answer (definition_query (sections_by bytes v) d))

  abbrev pub answer_of_first_item : ℕ → Option (List ℕ)
  answer_of_first_item d = under view (λ v. let s = sections_by bytes v in first_words s d (definition_query s d))

  abbrev pub answer_of_definition_item : ℕ → ℕ → Option (List ℕ)
  answer_of_definition_item d j = under view (λ v. item_answer (item_query (sections_by bytes v) d j))

  abbrev pub answer_of_list_item : List ℕ → Option (List ℕ)
  answer_of_list_item name = under view (λ v. list_item_answer (list_search (sections_by bytes v) name).answer)

  -- the words lent for the number of definitions that were searched, on return; under a view of too few words nothing is written
  unfoldable pub searched_after : List ℕ → List ℕ → List ℕ
  searched_after name searched =
      cond (leb view_length (length view)) (answer_after (Some ((list_search (sections_by bytes (view_by view)) name).searched ∷ [])) searched) searched

  abbrev pub answer_of_walk : ℕ → Bool → List ℕ → List ℕ → Option (List ℕ)
  answer_of_walk origin relative path names = under view (λ v. found_answer (resolve (sections_by bytes v) relative origin (components names path)))

-- of a list value's payload and the strings
abbrev pub answer_of_list_entry : List ℕ → List ℕ → ℕ → Option (List ℕ)
answer_of_list_entry payload strings j = entry_answer (list_entry payload strings j)

abbrev pub answer_of_list_origin : List ℕ → List ℕ → ℕ → Option (List ℕ)
answer_of_list_origin payload strings j = place_answer (list_origin payload strings j)

-- of the bytes alone: words of the header
abbrev pub answer_of_total_length : List ℕ → Option (List ℕ)
answer_of_total_length bytes = found_answer (header_word bytes length_at)

abbrev pub answer_of_strings_length : List ℕ → Option (List ℕ)
answer_of_strings_length bytes = found_answer (header_word bytes strings_count_at)

abbrev pub answer_of_checksum : List ℕ → Option (List ℕ)
answer_of_checksum bytes = found_answer (header_word bytes checksum_at)
