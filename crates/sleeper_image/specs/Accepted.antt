-- What is promised of exported queries of the sleeper's reader on accepted bytes, that nothing sticks at the edge: an exported query answers
-- exactly if the inner one does, with its words.
use Rattle.std.specs.Prelude.{ℕ, ◌≤◌, ◌<◌, ◌≡◌, List, [], ◌∷◌, Bool, length, Some}
use Rattle.laws.specs.Lists.{Below}
use Rattle.image.specs.Sections.{Sections, definition_count}
use Rattle.image.specs.Header.{view_of, sections_of}
use Rattle.load.specs.Load.{load_rule}
use Rattle.views.specs.Children.{child_count_of, named_count_of, child_query}
use Rattle.depth.specs.Depth.{depth_of}
use Rattle.lookups.specs.Lookup.{find_named, list_item}
use Rattle.list_items.specs.Search.{list_search}
use Rattle.walks.specs.Walk.{components, resolve}
use Rattle.answers.specs.AnswerWords.{answer_after, found_answer}
use Rattle.answers.specs.Exports.{Answers, words_of_list_item}
use Rattle.answers.specs.Lent.{written_after}
use Rattle.sleeper.specs.Reader.{without_places}
use Rattle.sleeper.specs.Seen.{sleeper_view, sleeper_named, sleeper_definition, sleeper_first_item, sleeper_definition_item}
use Rattle.sleeper.specs.NodeWords.{node_answer}
use Rattle.sleeper.specs.Texts.{sleeper_text}
use Rattle.sleeper.specs.Lists.{sleeper_list_items, sleeper_list_origins, sleeper_entry}
use Rattle.sleeper_image.specs.Exported.{view_length, words_of_view}
use Rattle.sleeper_image.specs.Queries.{entry_answer, item_answer, answer_of_node, answer_of_depth, answer_of_child_count, answer_of_named_child_count, answer_of_child, answer_of_named_child, answer_of_find_named_child, answer_of_list_items, answer_of_list_origins, answer_of_entry, answer_of_definition_count, answer_of_definition, answer_of_first_item, answer_of_definition_item, answer_of_list_item, searched_after, answer_of_walk}
use Rattle.sleeper_image.specs.Texts.{text_kinds, which_by, text_under, length_words, answer_of_text_length}

-- the words of a view as a load wrote them, in a lent slice that was long enough
pub record ViewOf (bs view : List ℕ) : Type 0 where
  pub lent : List ℕ
  pub long : view_length ≤ length lent
  pub written : view ≡ written_after 0 (words_of_view (without_places (view_of bs))) lent

-- each exported query by the words of a view, against the inner query on the image's sections
pub record SleeperExports (bs view : List ℕ) (s : Sections) : Type 0 where
  pub node-view : (i : ℕ) → Answers 8 (answer_of_node bs view i) (node_answer (sleeper_view s i))
  pub text : (kind a b : ℕ) → kind < text_kinds → text_under bs view kind a b ≡ sleeper_text s (which_by kind a b)
  pub text-length : (kind a b : ℕ) → kind < text_kinds → Answers 1 (answer_of_text_length bs view kind a b) (length_words (sleeper_text s (which_by kind a b)))
  pub depth : (i : ℕ) → Answers 1 (answer_of_depth bs view i) (found_answer (depth_of s i))
  pub child-count : (i : ℕ) → Answers 1 (answer_of_child_count bs view i) (found_answer (child_count_of s i))
  pub named-child-count : (i : ℕ) → Answers 1 (answer_of_named_child_count bs view i) (found_answer (named_count_of s i))
  pub child : (i j : ℕ) → Answers 1 (answer_of_child bs view i j) (found_answer (child_query s i j))
  pub named-child : (i j : ℕ) → Answers 1 (answer_of_named_child bs view i j) (found_answer (sleeper_named s i j))
  pub find-named-child : (i : ℕ) (name : List ℕ) → Answers 1 (answer_of_find_named_child bs view i name) (found_answer (find_named s i name))
  pub list-items : (i : ℕ) → Answers 1 (answer_of_list_items bs view i) (found_answer (sleeper_list_items s i))
  pub list-origins : (i : ℕ) → Answers 1 (answer_of_list_origins bs view i) (found_answer (sleeper_list_origins s i))
  pub list-entry : (i j : ℕ) → Answers 2 (answer_of_entry bs view i j) (entry_answer (sleeper_entry s i j))
  pub definition-count : Answers 1 (answer_of_definition_count bs view) (Some (definition_count s ∷ []))
  pub definition : (d : ℕ) → Answers 1 (answer_of_definition bs view d) (found_answer (sleeper_definition s d))
  pub first-item : (d : ℕ) → Answers 1 (answer_of_first_item bs view d) (found_answer (sleeper_first_item s d))
  pub definition-item : (d j : ℕ) → Answers 1 (answer_of_definition_item bs view d j) (item_answer (sleeper_definition_item s d j))
  pub list-item : (name : List ℕ) → Answers 3 (answer_of_list_item bs view name) (words_of_list_item (list_item s name))
  pub searched : (name words : List ℕ) → searched_after bs view name words ≡ answer_after (Some ((list_search s name).searched ∷ [])) words
  pub walk : (origin : ℕ) (relative : Bool) (path names : List ℕ)
      → Answers 1 (answer_of_walk bs view origin relative path names) (found_answer (resolve s relative origin (components names path)))

-- of all bytes that a load accepts
abbrev pub AcceptedSleeperExports : Type 0
AcceptedSleeperExports =
    (bs view : List ℕ) (work : ℕ) → Below 256 bs → load_rule bs work ≡ 0 → ViewOf bs view → SleeperExports bs view (sections_of bs)
