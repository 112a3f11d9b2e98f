-- A small draft with each kind that has a target, and its image: what is counted, what comes of changes, and what is promised of them at it, as
-- one theorem.
use Rattle.std.specs.Prelude.{ℕ, ◌+◌, ◌≡◌, refl, List, [], ◌∷◌, ◌++◌, false, get_or, take, drop, set, replicate}
use Rattle.std.proofs.Common.{sym, true≢false, arith}
use Rattle.laws.specs.Counted.{sum_of}
use Rattle.words.specs.Words.{NONE}
use Rattle.texts.specs.Text.{ascii, texts}
use Rattle.image.specs.Sections.{Sections, tag_of}
use Rattle.image.specs.Header.{sections_of}
use Rattle.image.specs.Encoding.{header_with, body_of, encodings}
use Rattle.records.specs.Fields.{kind_of}
use Rattle.load.specs.Load.{load_rule, loads}
use Rattle.draft.specs.Source.{draft_of, with_nodes}
use Rattle.draft.specs.Draft.{tables_rule, reach_rule, shape_rule, paths_rule}
use Rattle.target_counts.specs.Summary.{target_at, summary_of, targets_present, summary_rule, draft_count_rule, summary_after}
use Rattle.target_counts.proofs.Counting.{counted-summary}
use Rattle.target_counts.proofs.Sums.{draft-adds_up, accepted-adds_up}
use Rattle.target_changes.specs.Change.{allowed, set_target_rule, draft_set, summary_set, changes}
use Rattle.target_changes.proofs.StaysRight.{stays-right, steps-taken, right_takes_steps, allowed-kept}
use Rattle.edges.specs.Examples.{node_entry, with_child, examples}

-- a root with ordered children 1 a choice, 2 a divert, 3 a divert-target value, 4 a reference and 5 a glue, and the named child 6, a container
-- night with ordered children 7, a container, and 8, a divert. The choice names 6, the other targets are given; words that are no target hold
-- numbers of nodes
unfoldable pub story_with : ℕ → ℕ → ℕ → ℕ → Sections
story_with divert value reference last =
    draft_of 2
    ((NONE ∷ NONE ∷ 1 ∷ NONE ∷ NONE ∷ 6 ∷ 0 ∷ 5 ∷ 0 ∷ 1 ∷ [])
    ++ node_entry 0 0 2 (0 ∷ 5 ∷ 6 ∷ 7 ∷ 7 ∷ [])
    ++ node_entry 0 1 4 (0 ∷ 5 ∷ divert ∷ NONE ∷ NONE ∷ 7 ∷ 0 ∷ [])
    ++ node_entry 0 2 13 (0 ∷ 5 ∷ value ∷ 7 ∷ 7 ∷ [])
    ++ node_entry 0 3 17 (0 ∷ 5 ∷ 0 ∷ 7 ∷ reference ∷ [])
    ++ node_entry 0 4 5 (7 ∷ 7 ∷ 7 ∷ 7 ∷ 7 ∷ [])
    ++ (0 ∷ NONE ∷ 1 ∷ 0 ∷ 5 ∷ 7 ∷ 5 ∷ 2 ∷ 1 ∷ 0 ∷ [])
    ++ (6 ∷ 0 ∷ 1 ∷ NONE ∷ NONE ∷ 7 ∷ 7 ∷ 0 ∷ 1 ∷ 0 ∷ [])
    ++ node_entry 6 1 4 (NONE ∷ NONE ∷ last ∷ NONE ∷ NONE ∷ 7 ∷ 0 ∷ []))
    (1 ∷ 2 ∷ 3 ∷ 4 ∷ 5 ∷ 7 ∷ 8 ∷ []) (0 ∷ 5 ∷ 6 ∷ []) [] [] [] (ascii "night.0")

-- the divert names 7, the value and the reference 6, the last node none
abbrev pub story : Sections
story = story_with 7 6 6 NONE

unfoldable pub right : List ℕ
right = 0 ∷ 0 ∷ 0 ∷ 0 ∷ 0 ∷ 0 ∷ 3 ∷ 1 ∷ 0 ∷ []

-- 6 can go down, 7 cannot go up
unfoldable pub full : List ℕ
full = 0 ∷ 0 ∷ 0 ∷ 0 ∷ 0 ∷ 0 ∷ 1 ∷ NONE ∷ 0 ∷ []

-- the divert names itself, the reference none, the value and the last node the last node
abbrev pub elsewhere : Sections
elsewhere = story_with 2 8 NONE 8

-- a value needs a target
abbrev pub broken : Sections
broken = story_with 7 NONE 6 NONE

-- with the root, night and night.0 in the index; and the image, with its checksum by number
unfoldable pub filed : Sections
filed =
    record {
      version = 2;
      nodes = story.nodes;
      children = story.children;
      named = story.named;
      definitions = [];
      items = [];
      index = (0 ∷ 0 ∷ 0 ∷ []) ++ (0 ∷ 5 ∷ 6 ∷ []) ++ (0 ∷ 7 ∷ 7 ∷ []);
      payload = [];
      strings = story.strings;
    }

unfoldable pub story_image : List ℕ
story_image = header_with 21 filed 4068943646 ++ body_of filed

unfoldable pub stories : Unit {0}
unfolding story_with right full filed story_image examples
stories = tt

-- what is counted
pub record SummaryLines : Type 0 where
  pub summary : summary_of story ≡ 0 ∷ 0 ∷ 0 ∷ 0 ∷ 0 ∷ 0 ∷ 3 ∷ 1 ∷ 0 ∷ []
  pub present : targets_present story ≡ 4
  -- a divert that names itself, an absent read count, the last node named twice
  pub to_itself : summary_of elsewhere ≡ 0 ∷ 0 ∷ 1 ∷ 0 ∷ 0 ∷ 0 ∷ 1 ∷ 0 ∷ 2 ∷ []
  pub present-elsewhere : targets_present elsewhere ≡ 4
  -- a target that is no node counts for nothing; of a draft it is 19
  pub outside : summary_of (story_with 9 6 6 NONE) ≡ 0 ∷ 0 ∷ 0 ∷ 0 ∷ 0 ∷ 0 ∷ 3 ∷ 0 ∷ 0 ∷ []
  pub outside-draft : draft_count_rule (story_with 9 6 6 NONE) 9 ≡ 19
  -- a word past the nodes stays
  pub counted : summary_after (draft_count_rule story 10) story (replicate 10 9) ≡ 0 ∷ 0 ∷ 0 ∷ 0 ∷ 0 ∷ 0 ∷ 3 ∷ 1 ∷ 0 ∷ 9 ∷ []
  pub short : draft_count_rule story 8 ≡ 27
  pub short-words : summary_after (draft_count_rule story 8) story (replicate 8 9) ≡ replicate 8 9
  -- 19 before 27
  pub of_broken : draft_count_rule broken 8 ≡ 19
  -- of a root with a glue
  pub row_27 : summary_rule (with_child 5 []) 1 ≡ 27
  pub row_27_draft : draft_count_rule (with_child 5 []) 1 ≡ 27

summary_lines : SummaryLines
unfolding stories changes texts
summary_lines =
    record {
      summary = refl;
      present = refl;
      to_itself = refl;
      present-elsewhere = refl;
      outside = refl;
      outside-draft = refl;
      counted = refl;
      short = refl;
      short-words = refl;
      of_broken = refl;
      row_27 = refl;
      row_27_draft = refl;
    }

-- its image
pub record ImageLines : Type 0 where
  pub accepted : load_rule story_image 37 ≡ 0
  pub summary : summary_of (sections_of story_image) ≡ 0 ∷ 0 ∷ 0 ∷ 0 ∷ 0 ∷ 0 ∷ 3 ∷ 1 ∷ 0 ∷ []
  pub enough : summary_rule (sections_of story_image) 9 ≡ 0
  pub short : summary_rule (sections_of story_image) 8 ≡ 27

image_lines : ImageLines
unfolding stories changes texts loads encodings
image_lines =
    record {
      accepted = refl;
      summary = refl;
      enough = refl;
      short = refl;
    }

-- what is changed; a recount of the changed draft finds the same
pub record ChangeLines : Type 0 where
  pub choice : summary_set story right 1 7 ≡ 0 ∷ 0 ∷ 0 ∷ 0 ∷ 0 ∷ 0 ∷ 2 ∷ 2 ∷ 0 ∷ []
  pub choice-counted : summary_of (draft_set story right 1 7) ≡ 0 ∷ 0 ∷ 0 ∷ 0 ∷ 0 ∷ 0 ∷ 2 ∷ 2 ∷ 0 ∷ []
  pub choice-draft : draft_set story right 1 7 ≡ with_nodes story (set story.nodes 15 7)
  pub divert : summary_set story right 2 5 ≡ 0 ∷ 0 ∷ 0 ∷ 0 ∷ 0 ∷ 1 ∷ 3 ∷ 0 ∷ 0 ∷ []
  pub divert-counted : summary_of (draft_set story right 2 5) ≡ 0 ∷ 0 ∷ 0 ∷ 0 ∷ 0 ∷ 1 ∷ 3 ∷ 0 ∷ 0 ∷ []
  pub value : summary_set story right 3 3 ≡ 0 ∷ 0 ∷ 0 ∷ 1 ∷ 0 ∷ 0 ∷ 2 ∷ 1 ∷ 0 ∷ []
  pub value-counted : summary_of (draft_set story right 3 3) ≡ 0 ∷ 0 ∷ 0 ∷ 1 ∷ 0 ∷ 0 ∷ 2 ∷ 1 ∷ 0 ∷ []
  pub read_count : summary_set story right 4 0 ≡ 1 ∷ 0 ∷ 0 ∷ 0 ∷ 0 ∷ 0 ∷ 2 ∷ 1 ∷ 0 ∷ []
  pub read-count-counted : summary_of (draft_set story right 4 0) ≡ 1 ∷ 0 ∷ 0 ∷ 0 ∷ 0 ∷ 0 ∷ 2 ∷ 1 ∷ 0 ∷ []
  pub read-count-draft : draft_set story right 4 0 ≡ with_nodes story (set story.nodes 47 0)
  -- cleared, and set where there was none: one step
  pub cleared : summary_set story right 4 NONE ≡ 0 ∷ 0 ∷ 0 ∷ 0 ∷ 0 ∷ 0 ∷ 2 ∷ 1 ∷ 0 ∷ []
  pub cleared-counted : summary_of (draft_set story right 4 NONE) ≡ 0 ∷ 0 ∷ 0 ∷ 0 ∷ 0 ∷ 0 ∷ 2 ∷ 1 ∷ 0 ∷ []
  pub last : summary_set story right 8 8 ≡ 0 ∷ 0 ∷ 0 ∷ 0 ∷ 0 ∷ 0 ∷ 3 ∷ 1 ∷ 1 ∷ []
  pub last-counted : summary_of (draft_set story right 8 8) ≡ 0 ∷ 0 ∷ 0 ∷ 0 ∷ 0 ∷ 0 ∷ 3 ∷ 1 ∷ 1 ∷ []
  pub still_none : summary_set story right 8 NONE ≡ right
  -- a word past the nodes stays
  pub past : summary_set story (right ++ (9 ∷ [])) 8 8 ≡ 0 ∷ 0 ∷ 0 ∷ 0 ∷ 0 ∷ 0 ∷ 3 ∷ 1 ∷ 1 ∷ 9 ∷ []
  -- to the node that it names: no step, whatever the words hold
  pub same : set_target_rule story (replicate 9 0) 1 6 ≡ 0
  pub same-summary : summary_set story (replicate 9 0) 1 6 ≡ replicate 9 0
  pub same-draft : draft_set story (replicate 9 0) 1 6 ≡ story
  pub same_top : set_target_rule story (replicate 9 NONE) 1 6 ≡ 0

change_lines : ChangeLines
unfolding stories changes texts
change_lines =
    record {
      choice = refl;
      choice-counted = refl;
      choice-draft = refl;
      divert = refl;
      divert-counted = refl;
      value = refl;
      value-counted = refl;
      read_count = refl;
      read-count-counted = refl;
      read-count-draft = refl;
      cleared = refl;
      cleared-counted = refl;
      last = refl;
      last-counted = refl;
      still_none = refl;
      past = refl;
      same = refl;
      same-summary = refl;
      same-draft = refl;
      same_top = refl;
    }

-- what is refused
pub record RefusedLines : Type 0 where
  -- 19 before 27, a short summary before 18
  pub of_broken : set_target_rule broken (replicate 8 0) 9 9 ≡ 19
  pub short : set_target_rule story (replicate 8 0) 9 9 ≡ 27
  pub node-outside : set_target_rule story right 9 6 ≡ 18
  pub node-none : set_target_rule story right NONE 6 ≡ 18
  pub of_container : set_target_rule story right 6 7 ≡ 18
  pub of_glue : set_target_rule story right 5 7 ≡ 18
  pub target-outside : set_target_rule story right 2 9 ≡ 18
  pub choice_to_glue : set_target_rule story right 1 5 ≡ 18
  pub choice_to_none : set_target_rule story right 1 NONE ≡ 18
  pub value_to_none : set_target_rule story right 3 NONE ≡ 18
  pub read-count_to_glue : set_target_rule story right 4 5 ≡ 18
  -- 18 before a word that cannot take its step
  pub forbidden : set_target_rule story (replicate 9 0) 1 5 ≡ 18
  pub no_fall : set_target_rule story (replicate 9 0) 1 7 ≡ 27
  pub no_fall_to_none : set_target_rule story (replicate 9 0) 4 NONE ≡ 27
  pub no_rise : set_target_rule story full 1 7 ≡ 27
  pub no_rise-from-none : set_target_rule story (replicate 9 NONE) 8 8 ≡ 27
  -- draft and summary stay
  pub no_rise-summary : summary_set story full 1 7 ≡ full
  pub no_rise-draft : draft_set story full 1 7 ≡ story

refused_lines : RefusedLines
unfolding stories changes texts
refused_lines =
    record {
      of_broken = refl;
      short = refl;
      node-outside = refl;
      node-none = refl;
      of_container = refl;
      of_glue = refl;
      target-outside = refl;
      choice_to_glue = refl;
      choice_to_none = refl;
      value_to_none = refl;
      read-count_to_glue = refl;
      forbidden = refl;
      no_fall = refl;
      no_fall_to_none = refl;
      no_rise = refl;
      no_rise-from-none = refl;
      no_rise-summary = refl;
      no_rise-draft = refl;
    }

-- what is promised, at the draft and its image
pub record PromisedLines : Type 0 where
  pub counted-right : take 9 (summary_after 0 story (replicate 10 9)) ≡ right
  pub counted-past : drop 9 (summary_after 0 story (replicate 10 9)) ≡ 9 ∷ []
  -- sums
  pub sum : sum_of 9 (λ n. get_or right n 0) ≡ 4
  pub image_sum : sum_of 9 (λ n. get_or right n 0) ≡ targets_present (sections_of story_image)
  -- the choice set to 7
  pub right_still : take 9 (summary_set story right 1 7) ≡ summary_of (with_nodes story (set story.nodes 15 7))
  pub target : target_at (with_nodes story (set story.nodes 15 7)) 1 ≡ 7
  pub other-target : target_at (draft_set story right 1 7) 2 ≡ 7
  pub other_word : get_or (draft_set story right 1 7).nodes 16 0 ≡ 7
  pub past : drop 9 (summary_set story (right ++ (9 ∷ [])) 1 7) ≡ 9 ∷ []
  pub tables : tables_rule (with_nodes story (set story.nodes 15 7)) ≡ 0
  pub reach : reach_rule (with_nodes story (set story.nodes 15 7)) ≡ 0
  pub shape : shape_rule (with_nodes story (set story.nodes 15 7)) ≡ 0
  pub paths : paths_rule (with_nodes story (set story.nodes 15 7)) ≡ 0
  pub down : get_or (summary_set story right 1 7) 6 0 + 1 ≡ 3
  pub up : get_or (summary_set story right 1 7) 7 0 ≡ 2
  pub rest : get_or (summary_set story right 1 7) 8 0 ≡ 0
  pub no_step : summary_set story (replicate 9 0) 1 6 ≡ replicate 9 0
  -- 27 is not given last beside a right summary; what 18 forbids, row 19 does
  pub takes_step : set_target_rule story right 8 8 ≡ 0
  pub kept : tables_rule (with_nodes story (set story.nodes 47 NONE)) ≡ 0
  pub no_target_lem : allowed story (kind_of (tag_of story 5)) 7 ≡ false
  pub forbidden : tables_rule (with_nodes story (set story.nodes 15 5)) ≡ 0 → ⊥

promised_lines : PromisedLines
unfolding stories changes texts encodings
promised_lines =
    let stays = stays-right story right 1 7 in
    let steps = steps-taken story right 1 7 refl in
    record {
      counted-right = (counted-summary story (replicate 10 9) (omega arith)).right;
      counted-past = (counted-summary story (replicate 10 9) (omega arith)).past;
      sum = draft-adds_up story refl right refl;
      image_sum = accepted-adds_up story_image 37 image_lines.accepted right refl;
      right_still = stays.right refl;
      target = stays.target refl;
      other-target = stays.others 2 (λ e. omega arith);
      other_word = stays.words 16 (λ e. omega arith);
      past = (stays-right story (right ++ (9 ∷ [])) 1 7).past;
      tables = stays.tables;
      reach = stays.reach;
      shape = stays.shape;
      paths = stays.paths refl;
      down = steps.down (λ e. omega arith) (λ e. omega arith);
      up = steps.up (λ e. omega arith) (λ e. omega arith);
      rest = steps.rest 8 (λ e. omega arith) (λ e. omega arith);
      no_step = (steps-taken story (replicate 9 0) 1 6 refl).same refl;
      takes_step = right_takes_steps story right refl (omega arith) (omega arith) refl 8 8 (omega arith) refl;
      kept = (allowed-kept story 4 NONE refl (omega arith)).kept refl;
      no_target_lem = (allowed-kept story 5 7 refl (omega arith)).none refl;
      forbidden = λ e. true≢false (sym ((allowed-kept story 1 5 refl (omega arith)).only (λ d. omega arith) e));
    }

pub record CountLines : Type 0 where
  pub counted : SummaryLines
  pub of_image : ImageLines
  pub changed : ChangeLines
  pub refused : RefusedLines
  pub promised : PromisedLines

pub count_lines : CountLines
count_lines =
    record {
      counted = summary_lines;
      of_image = image_lines;
      changed = change_lines;
      refused = refused_lines;
      promised = promised_lines;
    }
