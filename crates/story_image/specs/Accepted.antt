-- What is promised of exported queries: of any bytes, how many words an answer has, so that 18 means that there is none where the view
-- and the answer are long enough; of accepted bytes, that nothing sticks at the edge: an exported query answers exactly if the inner
-- one does, with its words.
use Rattle.std.specs.Prelude.{ℕ, ◌+◌, ◌*◌, ◌≤◌, ◌<◌, ◌≡◌, List, [], ◌∷◌, Bool, length, get_or, take, drop, None, Option, Some}
use Rattle.laws.specs.Counted.{sum_of}
use Rattle.laws.specs.Lists.{Below}
use Rattle.checksum.specs.Crc.{checksum_of}
use Rattle.image.specs.Sections.{Sections, node_count, definition_count}
use Rattle.image.specs.Header.{view_of, sections_of}
use Rattle.load.specs.Load.{load_rule}
use Rattle.views.specs.declared.Span.{Span}
use Rattle.views.specs.View.{span, node_view}
use Rattle.views.specs.Children.{child_count_of, named_count_of, child_query, named_query, text_query}
use Rattle.views.specs.Lists.{list_part, list_entry, list_origin, definition_query, item_query}
use Rattle.lookups.specs.Lookup.{find_named, list_item}
use Rattle.list_items.specs.Search.{list_search}
use Rattle.walks.specs.Walk.{components, resolve}
use Rattle.depth.specs.Depth.{depth_of}
use Rattle.pages.specs.Page.{slot_words, page_rule, page_after, slot_view}
use Rattle.target_counts.specs.Summary.{RightSummary, targets_present, summary_rule, summary_after}
use Rattle.answers.specs.AnswerWords.{answer_after, found_answer, named_answer, place_answer, entry_answer, definition_answer, item_answer, list_count_words}
use Rattle.answers.specs.Exports.{Answers, words_of_list_item}
use Rattle.answers.specs.NodeViewWords.{node_answer, list_place}
use Rattle.story_image.specs.Exported.{view_length, words_of_view, written_after}
use Rattle.story_image.specs.Queries.{at_list, first_words, answer_of_node_view, page_number, page_written, count_number, count_written, answer_of_slot_view, answer_of_depth, answer_of_text, answer_of_child_count, answer_of_child, answer_of_named_child_count, answer_of_named_child, answer_of_find_named_child, answer_of_list_payload, answer_of_list_counts, answer_of_node_list_entry, answer_of_node_list_origin, answer_of_definition_count, answer_of_definition, answer_of_first_item, answer_of_definition_item, answer_of_list_item, searched_after, answer_of_walk, answer_of_total_length, answer_of_strings_length, answer_of_checksum}

-- ---- the words of answers, without a case for numbers that a word does not hold

-- start and length in the image of what lies at a place of a section that begins at `section`
abbrev pub words_of_part : ℕ → Span → List ℕ
words_of_part section t = (section + t.offset) ∷ t.len ∷ []

abbrev pub words_of_text : ℕ → Option Span → Option (List ℕ)
words_of_text strings (Some t) = Some (words_of_part strings t)
words_of_text strings None = None

-- ---- an exported query against the inner one

-- the words of a view as a load wrote them, in a lent slice that was long enough
pub record ViewOf (bs view : List ℕ) : Type 0 where
  pub lent : List ℕ
  pub long : view_length ≤ length lent
  pub written : view ≡ written_after 0 (words_of_view (view_of bs)) lent

-- an exported page against the inner one: the same number and the same words
pub record PageExports (bs view : List ℕ) (s : Sections) (numbers slots : List ℕ) : Type 0 where
  pub number : page_number (length view) (length numbers) (length slots) ≡ page_rule (length numbers) (length slots)
  pub written : page_written bs view numbers slots ≡ page_after s numbers slots

-- an exported count of targets against the inner one: the same number and the same words; words past the nodes stay; where nothing is
-- refused, the words are right and add up to the number of targets present
pub record CountExports (bs view : List ℕ) (s : Sections) (summary : List ℕ) : Type 0 where
  pub number : count_number bs view (length summary) ≡ summary_rule s (length summary)
  pub written : count_written bs view summary ≡ summary_after (summary_rule s (length summary)) s summary
  pub past : drop (node_count s) (count_written bs view summary) ≡ drop (node_count s) summary
  pub right : count_number bs view (length summary) ≡ 0 → RightSummary s (count_written bs view summary)
  pub sum : count_number bs view (length summary) ≡ 0 → sum_of (node_count s) (λ n. get_or (count_written bs view summary) n 0) ≡ targets_present s

-- each exported query by the words of a view, against the inner query on the image's sections
pub record Exports (bs view : List ℕ) (s : Sections) : Type 0 where
  pub node-view : (i : ℕ) → Answers 10 (answer_of_node_view bs view i) (node_answer (node_view s i))
  pub page : (numbers slots : List ℕ) → PageExports bs view s numbers slots
  pub count : (summary : List ℕ) → CountExports bs view s summary
  pub slot-view : (slot : List ℕ) → Answers 10 (answer_of_slot_view bs view slot) (node_answer (slot_view s slot))
  pub depth : (i : ℕ) → Answers 1 (answer_of_depth bs view i) (found_answer (depth_of s i))
  pub text : (at len : ℕ) → Answers 2 (answer_of_text bs view at len) (words_of_text (view_of bs).strings.offset (text_query s (span at len)))
  pub child-count : (i : ℕ) → Answers 1 (answer_of_child_count bs view i) (found_answer (child_count_of s i))
  pub child : (i j : ℕ) → Answers 1 (answer_of_child bs view i j) (found_answer (child_query s i j))
  pub named-child-count : (i : ℕ) → Answers 1 (answer_of_named_child_count bs view i) (found_answer (named_count_of s i))
  pub named-child : (i j : ℕ) → Answers 3 (answer_of_named_child bs view i j) (named_answer (named_query s i j))
  pub find-named-child : (i : ℕ) (name : List ℕ) → Answers 1 (answer_of_find_named_child bs view i name) (found_answer (find_named s i name))
  pub list-payload : (i : ℕ)
      → Answers 2 (answer_of_list_payload bs view i) (at_list (list_place (node_view s i)) (λ t. Some (words_of_part (view_of bs).payload.offset t)))
  pub list_counts : (i : ℕ) → Answers 2 (answer_of_list_counts bs view i) (at_list (list_place (node_view s i)) (λ t. list_count_words (list_part s t)))
  pub list-entry : (i j : ℕ)
      → Answers 5 (answer_of_node_list_entry bs view i j) (at_list (list_place (node_view s i)) (λ t. entry_answer (list_entry (list_part s t) s.strings j)))
  pub list-origin : (i j : ℕ)
      → Answers 2 (answer_of_node_list_origin bs view i j) (at_list (list_place (node_view s i)) (λ t. place_answer (list_origin (list_part s t) s.strings j)))
  pub definition-count : Answers 1 (answer_of_definition_count bs view) (Some (definition_count s ∷ []))
  pub definition : (d : ℕ) → Answers 3 (answer_of_definition bs view d) (definition_answer (definition_query s d))
  pub first-item : (d : ℕ) → Answers 1 (answer_of_first_item bs view d) (first_words s d (definition_query s d))
  pub definition-item : (d j : ℕ) → Answers 3 (answer_of_definition_item bs view d j) (item_answer (item_query s d j))
  pub list-item : (name : List ℕ) → Answers 3 (answer_of_list_item bs view name) (words_of_list_item (list_item s name))
  pub searched : (name words : List ℕ) → searched_after bs view name words ≡ answer_after (Some ((list_search s name).searched ∷ [])) words
  pub walk : (origin : ℕ) (relative : Bool) (path names : List ℕ)
      → Answers 1 (answer_of_walk bs view origin relative path names) (found_answer (resolve s relative origin (components names path)))
  -- of the bytes alone
  pub total-length : Answers 1 (answer_of_total_length bs) (Some (length bs ∷ []))
  pub strings-length : Answers 1 (answer_of_strings_length bs) (Some (length s.strings ∷ []))
  pub checksum : Answers 1 (answer_of_checksum bs) (Some (checksum_of bs ∷ []))

-- of all bytes that a load accepts
abbrev pub AcceptedExports : Type 0
AcceptedExports = (bs view : List ℕ) (work : ℕ) → Below 256 bs → load_rule bs work ≡ 0 → ViewOf bs view → Exports bs view (sections_of bs)

-- ---- of all bytes and all views: a page and the view of a slot's words against the lone call

-- of a page that is not refused, the view of the words of slot k, under the same view, is what the lone call gives for the k-th number
abbrev pub PagedViews : Type 0
PagedViews =
    (bs view numbers slots : List ℕ) → page_number (length view) (length numbers) (length slots) ≡ 0 → (k : ℕ) → k < length numbers
    → answer_of_slot_view bs view (take slot_words (drop (slot_words * k) (page_written bs view numbers slots))) ≡ answer_of_node_view bs view (get_or numbers k 0)
