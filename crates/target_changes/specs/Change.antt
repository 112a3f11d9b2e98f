-- One target of a draft changed, and the summary beside it kept right.
use Rattle.std.specs.Prelude.{ℕ, ◌+◌, ◌-◌, ◌*◌, ◌≤◌, ◌<◌, ◌≡◌, List, [], ◌∷◌, Bool, true, false, cond, ◌&&◌, ◌||◌, not, length, get_or, drop, set, ltb, eqb}
use Rattle.laws.specs.Refusal.{unless, passes, ◌▸◌}
use Rattle.words.specs.Words.{NONE, is_none}
use Rattle.image.specs.Sections.{Sections, node_words, node_count, tag_of, inside}
use Rattle.image.specs.Refusals.{not_found, bad_summary}
use Rattle.records.specs.Fields.{Kind, Field, text, optional, command, operator, node, optionalNode, container, optionalContainer, plain, at_most, children, named, payload, wrong, fields, target_place, no_place, kind_of}
use Rattle.records.specs.Records.{may_target}
use Rattle.draft.specs.Source.{with_nodes}
use Rattle.draft.specs.Draft.{tables_rule, reach_rule, shape_rule, paths_rule}
use Rattle.target_counts.specs.Summary.{target_at, RightSummary, summary_rule, summaries}

-- ---- what may stand in the field that names a node

-- what the rule of a field lets stand there, if it is the one that names a node: its own, or that of the others
abbrev pub allowed_before : Sections → ℕ → Field → Bool → Bool
allowed_before s t (node k) others = may_target false false s t
allowed_before s t (optionalNode k) others = may_target true false s t
allowed_before s t (container k) others = may_target false true s t
allowed_before s t (optionalContainer k) others = may_target true true s t
allowed_before s t (text k) others = others
allowed_before s t (optional k) others = others
allowed_before s t (command k) others = others
allowed_before s t (operator k) others = others
allowed_before s t (plain k) others = others
allowed_before s t (at_most k n) others = others
allowed_before s t children others = others
allowed_before s t named others = others
allowed_before s t payload others = others
allowed_before s t wrong others = others

-- nothing where no field names a node
unfoldable pub allowed_among : Sections → ℕ → List Field → Bool
allowed_among s t [] = false
allowed_among s t (x ∷ xs) = let others = allowed_among s t xs in allowed_before s t x others

-- the record rule of the kind lets the target be t; a kind without target has none
abbrev pub allowed : Sections → Kind → ℕ → Bool
allowed s k t = allowed_among s t (fields k)

-- ---- the steps of the summary

-- a word can go down by 1, up by 1; an absent node has no word
abbrev pub can_fall : List ℕ → ℕ → Bool
can_fall summary n = is_none n || not (eqb (get_or summary n 0) 0)

abbrev pub can_rise : List ℕ → ℕ → Bool
can_rise summary n = is_none n || ltb (get_or summary n 0) NONE

-- moving a target to itself takes no step
unfoldable pub step_rule : List ℕ → ℕ → ℕ → ℕ
step_rule summary old new = cond (eqb old new) 0 (unless (can_fall summary old && can_rise summary new) bad_summary)

unfoldable pub fallen : List ℕ → ℕ → List ℕ
fallen summary n = cond (is_none n) summary (set summary n (get_or summary n 0 - 1))

unfoldable pub risen : List ℕ → ℕ → List ℕ
risen summary n = cond (is_none n) summary (set summary n (get_or summary n 0 + 1))

-- the old node's word goes down by 1, the new one's up by 1
unfoldable pub stepped : List ℕ → ℕ → ℕ → List ℕ
stepped summary old new = cond (eqb old new) summary (risen (fallen summary old) new)

-- ---- the call

-- 18: a node outside, of a kind without target, or a target that its record rule forbids; last 27, a word that cannot take its step
unfoldable pub move_rule : Sections → List ℕ → ℕ → ℕ → ℕ
move_rule s summary i t = unless (inside s i && allowed s (kind_of (tag_of s i)) t) not_found ▸ step_rule summary (target_at s i) t

-- before them 19, then 27 for a short summary
unfoldable pub set_target_rule : Sections → List ℕ → ℕ → ℕ → ℕ
set_target_rule s summary i t = tables_rule s ▸ summary_rule s (length summary) ▸ move_rule s summary i t

-- the node words with t as the target of node i
abbrev pub with_target : Sections → ℕ → ℕ → List ℕ
with_target s i t = set s.nodes (i * node_words s.version + (3 + target_place (kind_of (tag_of s i)))) t

-- node words and summary on return, where the answer is r: a refusal leaves both
unfoldable pub nodes_after_set : ℕ → Sections → ℕ → ℕ → List ℕ
nodes_after_set r s i t = cond (passes r) (with_target s i t) s.nodes

unfoldable pub summary_after_set : ℕ → Sections → List ℕ → ℕ → ℕ → List ℕ
summary_after_set r s summary i t = cond (passes r) (stepped summary (target_at s i) t) summary

-- ---- what is promised of it

-- the draft and its summary after the call
module _ (s : Sections) (summary : List ℕ) (i t : ℕ) where
  abbrev pub draft_set : Sections
  draft_set = with_nodes s (nodes_after_set (set_target_rule s summary i t) s i t)

  abbrev pub summary_set : List ℕ
  summary_set = summary_after_set (set_target_rule s summary i t) s summary i t

-- of any draft, summary, node and target, whatever the answer
pub record StaysRight (s : Sections) (summary : List ℕ) (i t : ℕ) : Type 0 where
  -- a right summary stays right
  pub right : RightSummary s summary → RightSummary (draft_set s summary i t) (summary_set s summary i t)
  -- the target is the one that was asked for; those of other nodes stay
  pub target : set_target_rule s summary i t ≡ 0 → target_at (draft_set s summary i t) i ≡ t
  pub others : (j : ℕ) → (j ≡ i → ⊥) → target_at (draft_set s summary i t) j ≡ target_at s j
  -- no node word but that of the target changes
  pub words : (k : ℕ) → (k ≡ i * node_words s.version + (3 + target_place (kind_of (tag_of s i))) → ⊥)
      → get_or (draft_set s summary i t).nodes k 0 ≡ get_or s.nodes k 0
  -- words of the summary past the nodes stay
  pub past : drop (node_count s) (summary_set s summary i t) ≡ drop (node_count s) summary
  -- the draft keeps 19, 20 and 21 as before, and 22 where it is asked: after 21
  pub tables : tables_rule (draft_set s summary i t) ≡ tables_rule s
  pub reach : reach_rule (draft_set s summary i t) ≡ reach_rule s
  pub shape : shape_rule (draft_set s summary i t) ≡ shape_rule s
  pub paths : shape_rule s ≡ 0 → paths_rule (draft_set s summary i t) ≡ paths_rule s

-- of a change that is taken: the old node's word goes down by 1, the new one's up by 1, no other changes; none where the target stays
pub record StepsTaken (s : Sections) (summary : List ℕ) (i t : ℕ) : Type 0 where
  pub same : target_at s i ≡ t → summary_set s summary i t ≡ summary
  pub down : (target_at s i ≡ t → ⊥) → (target_at s i ≡ NONE → ⊥) → get_or (summary_set s summary i t) (target_at s i) 0 + 1 ≡ get_or summary (target_at s i) 0
  pub up : (target_at s i ≡ t → ⊥) → (t ≡ NONE → ⊥) → get_or (summary_set s summary i t) t 0 ≡ get_or summary t 0 + 1
  pub rest : (n : ℕ) → (n ≡ target_at s i → ⊥) → (n ≡ t → ⊥) → get_or (summary_set s summary i t) n 0 ≡ get_or summary n 0

-- a kind has a target exactly if one of its fields names a node; its record rule lets the target be t exactly if row 19 passes the draft
-- that has it
pub record AllowedExactly (s : Sections) (i t : ℕ) : Type 0 where
  pub kept : allowed s (kind_of (tag_of s i)) t ≡ true → tables_rule (with_nodes s (with_target s i t)) ≡ 0
  pub only : (target_place (kind_of (tag_of s i)) ≡ no_place → ⊥) → tables_rule (with_nodes s (with_target s i t)) ≡ 0
      → allowed s (kind_of (tag_of s i)) t ≡ true
  pub none : target_place (kind_of (tag_of s i)) ≡ no_place → allowed s (kind_of (tag_of s i)) t ≡ false

abbrev pub AllowedKept : Type 0
AllowedKept = (s : Sections) (i t : ℕ) → tables_rule s ≡ 0 → i < node_count s → AllowedExactly s i t

-- beside a right summary of no more nodes than a word can count, every target that is allowed can be set: 27 is not given last
abbrev pub RightTakesSteps : Type 0
RightTakesSteps =
    (s : Sections) (summary : List ℕ) → tables_rule s ≡ 0 → node_count s ≤ NONE → node_count s ≤ length summary → RightSummary s summary
    → (i t : ℕ) → i < node_count s → allowed s (kind_of (tag_of s i)) t ≡ true → set_target_rule s summary i t ≡ 0

-- names on an `unfolding` line what a computation with this module needs
unfoldable pub changes : Unit {0}
unfolding allowed_among step_rule fallen risen stepped move_rule set_target_rule nodes_after_set summary_after_set summaries
changes = tt
