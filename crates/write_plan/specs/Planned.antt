-- What is worked out before the output is written: where it lies in the work words, and what it says.
use Rattle.std.specs.Prelude.{ℕ, ◌+◌, ◌*◌, ◌-◌, ◌≤◌, ◌<◌, ◌≡◌, ◌⊎◌, List, [], length, get_or, drop, leb, Result, Ok, Err}
use Rattle.laws.specs.Refusal.{unless, ◌▸◌}
use Rattle.words.specs.Words.{NONE}
use Rattle.image.specs.Sections.{Sections, node_count}
use Rattle.image.specs.Refusals.{no_room}
use Rattle.image.specs.declared.EntryCounts.{EntryCounts}
use Rattle.draft.specs.Draft.{tables_rule, write_words, reach_rule, shape_rule, paths_rule}
use Rattle.draft.specs.declared.layout.Layout.{Layout}
use Rattle.draft.specs.Needs.{draft_counts}
use Rattle.draft.specs.Source.{draft_of}
use Rattle.draft.specs.Numbering.{numbering, old_of}
use Rattle.write_text_uses.specs.Uses.{stored_bytes, image_counts}
use Rattle.draft_image.specs.Strings.{uses, by_path, path_of, stored_texts}
use Rattle.draft_image.specs.Ready.{OldsAt, NewsAt, OffsetsAt, text_uses}
use Rattle.write_numbering.specs.Work.{tree_of, Numbered}
use Rattle.write_text_keys.specs.Keys.{key_in, long_of}
use Rattle.write_interning.specs.Uses.{stored_of, texts_joined, Offsets}

-- where things lie before the texts are counted, by a draft's counts and the work words that it needs. Two words a use are sorted; behind
-- them two words a text, a word for each path, two for a path's length by its node; at the end the numbers, two words a node
abbrev pub layout_by : EntryCounts → ℕ → Layout
layout_by c needed =
    let uses = 2 * c.nodes + c.named + c.definitions + c.items + c.payload in
    record {
      at = 2 * uses;
      texts = 0;
      paths = 2 * uses;
      lengths = 2 * uses + c.nodes;
      order = needed - 2 * c.nodes;
      new = needed - c.nodes;
      offsets = 0;
    }

abbrev pub layout_of : Sections → Layout
layout_of s = layout_by (draft_counts s) (write_words s)

-- a layout once so many texts and paths are counted: the offsets are behind the sorted uses
abbrev pub layout_with : Layout → ℕ → ℕ → Layout
layout_with l texts paths =
    record { at = l.at; texts = texts; paths = l.paths; lengths = l.lengths; order = l.order; new = l.new; offsets = texts + paths }

-- of a draft
abbrev pub planned_layout : Sections → Layout
planned_layout s = layout_with (layout_of s) (length (text_uses s (numbering s))) (length (by_path s (numbering s)))

-- the rules that are tested on the way. An image with more uses of texts than a word can count, or longer texts, is too long
unfoldable pub plan_rule : Sections → ℕ
plan_rule s =
    reach_rule s ▸ shape_rule s ▸ paths_rule s ▸ unless (leb (length (uses s (numbering s))) NONE) no_room ▸ unless (leb (length (stored_bytes s)) NONE) no_room

-- what the work words hold in the end
pub record Prepared (s : Sections) (w : List ℕ) : Type 0 where
  pub olds : OldsAt (numbering s) w (node_count s) (layout_of s).order
  pub news : NewsAt (numbering s) w (node_count s) (layout_of s).new
  pub offsets : OffsetsAt (stored_texts s (numbering s)) (uses s (numbering s)) w (planned_layout s).offsets
  -- the tables still give the text of each use
  pub keys : (a : ℕ) → a < (planned_layout s).offsets → key_in s.version s.nodes s.strings (planned_layout s) w a ≡ get_or (uses s (numbering s)) a []
  -- the containers in the order of the index
  pub boxes : (k : ℕ) → k < length (by_path s (numbering s))
      → get_or (drop (layout_of s).at w) ((layout_of s).paths + k) 0 ≡ old_of (numbering s) (get_or (by_path s (numbering s)) k 0)
  -- and the lengths of their paths
  pub lengths : (k : ℕ) → k < length (by_path s (numbering s))
      → long_of (layout_of s).lengths (drop (layout_of s).at w) (old_of (numbering s) (get_or (by_path s (numbering s)) k 0))
      ≡ length (path_of s (numbering s) (get_or (by_path s (numbering s)) k 0))

-- rules 19 to 21 are kept, layout and counts are the draft's, and the work words hold the numbers of the nodes
pub record Shaped (s : Sections) (w : List ℕ) (l : Layout) (c : EntryCounts) : Type 0 where
  pub tables : tables_rule s ≡ 0
  pub reach : reach_rule s ≡ 0
  pub shape : shape_rule s ≡ 0
  pub layout : l ≡ layout_of s
  pub counts : c ≡ draft_counts s
  pub long : length w ≡ write_words s
  pub numbers : Numbered (tree_of s.version s.nodes s.children s.named) l.order w

-- of some draft that has these tables
pub record ShapedTables (version : ℕ) (nodes named definitions items payload strings w : List ℕ) (l : Layout) (c : EntryCounts) : Type 0 where
  pub children : List ℕ
  pub known : Shaped (draft_of version nodes children named definitions items payload strings) w l c

-- layout, counts and work words as said, or the number of the first of the rules that is broken
abbrev pub PlanOf : Sections → List ℕ → Result (Layout × EntryCounts) ℕ → Type 0
PlanOf s w (Ok plan) = (plan_rule s ≡ 0) × (plan.0 ≡ planned_layout s) × (plan.1 ≡ image_counts s) × Prepared s w
PlanOf s w (Err k) = (plan_rule s ≡ k) × (k ≡ 0 → ⊥)

-- counts with others of the index and the strings
abbrev pub entries_with : EntryCounts → ℕ → ℕ → EntryCounts
entries_with c index strings =
    record {
      nodes = c.nodes;
      children = c.children;
      named = c.named;
      definitions = c.definitions;
      items = c.items;
      index = index;
      payload = c.payload;
      strings = strings;
    }

-- of the texts of a layout and so many paths, stored by their keys: layout and counts by what that takes and the offsets, or that one is too many
abbrev pub StoredPlan : (ℕ → List ℕ) → Layout → EntryCounts → ℕ → List ℕ → Result (Layout × EntryCounts) ℕ → Type 0
StoredPlan key l c paths w (Ok plan) =
    let n = l.texts + paths in
    (plan.0 ≡ layout_with l l.texts paths)
    × (plan.1 ≡ entries_with c paths (length (texts_joined (stored_of key n))))
    × (n ≤ NONE)
    × (length (texts_joined (stored_of key n)) ≤ NONE)
    × Offsets key n w
StoredPlan key l c paths w (Err k) =
    let n = l.texts + paths in
    (k ≡ no_room) × ((NONE < n) ⊎ ((n ≤ NONE) × (NONE < length (texts_joined (stored_of key n)))))
