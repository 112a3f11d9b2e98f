-- The rules of a draft, numbers 19 to 22: sections without an index, in any numbering with root 0.
use Rattle.std.specs.Prelude.{ℕ, ◌%◌, Bool, ◌&&◌, ◌||◌, not, length, eqb}
use Rattle.laws.specs.Refusal.{unless, counts_as, ◌▸◌, first_of, refusals}
use Rattle.laws.specs.Counted.{all_of, counted}
use Rattle.texts.specs.Text.{same, rising, texts}
use Rattle.image.specs.Sections.{Sections, node_words, text_entry_words, definition_words, node_count, child_count, named_count, definition_count, item_count, parent_of, child_word, named_word, good_text, inside, is_container}
use Rattle.image.specs.Refusals.{bad_draft, draft_unreached, draft_shape, draft_paths}
use Rattle.records.specs.Records.{fields_rule, parent_rule, root_right, used_up, records}
use Rattle.tree.specs.Tree.{entries_rule, read_walk, all_seen, trees}
use Rattle.index.specs.Paths.{canonical_path, name_or_place, paths}
use Rattle.definitions.specs.Definitions.{good_definition, good_item, items_right, number_of_items, items_used_up, definition_text, item_text_of, definitions}
use Rattle.draft.specs.Needs.{draft_counts, words_for}

-- ---- 19: the tables

-- each section is whole entries, and there is a node
unfoldable pub whole_entries : Sections → Bool
whole_entries s =
    eqb (length s.nodes % node_words s.version) 0 && eqb (length s.named % text_entry_words) 0 && eqb (length s.definitions % definition_words) 0 && eqb (length s.items % text_entry_words) 0
    && not (eqb (node_count s) 0)

-- the record rules of a node, and that its parent is a node, the root aside
unfoldable pub draft_node_rule : Sections → ℕ → ℕ
draft_node_rule s i = counts_as bad_draft (fields_rule s i) ▸ unless (eqb i 0 || inside s (parent_of s i)) bad_draft

unfoldable pub draft_child_rule : Sections → ℕ → ℕ
draft_child_rule s j = unless (inside s (child_word s j)) bad_draft

unfoldable pub draft_named_rule : Sections → ℕ → ℕ
draft_named_rule s j = unless (good_text s (named_word s j 0) (named_word s j 1)) bad_draft ▸ unless (inside s (named_word s j 2)) bad_draft

unfoldable pub draft_definition_rule : Sections → ℕ → ℕ
draft_definition_rule s d = unless (good_definition s d) bad_draft ▸ unless (items_right s d) bad_draft

unfoldable pub draft_item_rule : Sections → ℕ → ℕ
draft_item_rule s j = unless (good_item s j) bad_draft

-- what is tested after the nodes
abbrev pub entry_tables_rule : Sections → ℕ
entry_tables_rule s =
    unless (used_up s) bad_draft
    ▸ first_of (child_count s) (draft_child_rule s)
    ▸ first_of (named_count s) (draft_named_rule s)
    ▸ first_of (definition_count s) (draft_definition_rule s)
    ▸ unless (items_used_up s) bad_draft
    ▸ first_of (item_count s) (draft_item_rule s)

unfoldable pub tables_rule : Sections → ℕ
tables_rule s = unless (whole_entries s) bad_draft ▸ first_of (node_count s) (draft_node_rule s) ▸ entry_tables_rule s

-- ---- 7: the work words

abbrev pub write_words : Sections → ℕ
write_words s = words_for (draft_counts s)

-- ---- 20: every node is reached by entries from the root

unfoldable pub reach_rule : Sections → ℕ
reach_rule s = unless (all_seen s (read_walk s).seen) draft_unreached

-- ---- 21: root, parents, the tree's entries, order of definitions and items

unfoldable pub relation_rule : Sections → ℕ → ℕ
relation_rule s i = counts_as draft_shape (parent_rule s i) ▸ counts_as draft_shape (entries_rule s i)

unfoldable pub order_rule : Sections → ℕ → ℕ
order_rule s d = unless (rising (definition_text s) d) draft_shape ▸ first_of (number_of_items s d) (λ j. unless (rising (item_text_of s d) j) draft_shape)

unfoldable pub shape_rule : Sections → ℕ
shape_rule s = unless (root_right s) draft_shape ▸ first_of (node_count s) (relation_rule s) ▸ first_of (definition_count s) (order_rule s)

-- ---- 22: canonical paths

-- a container, the root excepted, has a name or a place
unfoldable pub placed : Sections → ℕ → Bool
placed s i = not (is_container s i) || eqb i 0 || name_or_place s i

-- no container before i has i's path
unfoldable pub new_path : Sections → ℕ → Bool
new_path s i = not (is_container s i) || all_of i (λ j. not (is_container s j) || not (same (canonical_path s j) (canonical_path s i)))

unfoldable pub path_rule : Sections → ℕ → ℕ
path_rule s i = unless (placed s i) draft_paths ▸ unless (new_path s i) draft_paths

unfoldable pub paths_rule : Sections → ℕ
paths_rule s = first_of (node_count s) (path_rule s)

-- names on an `unfolding` line what a computation with this module needs
unfoldable pub drafts : Unit {0}
unfolding whole_entries draft_node_rule draft_child_rule draft_named_rule draft_definition_rule draft_item_rule tables_rule reach_rule relation_rule order_rule shape_rule placed new_path path_rule paths_rule records trees paths definitions refusals counted texts
drafts = tt
