-- Who points at a node: one word a node, kept beside an image or a draft.
use Rattle.std.specs.Prelude.{ℕ, ◌≡◌, List, [], ◌∷◌, ◌++◌, Bool, cond, get_or, take, drop, leb, eqb}
use Rattle.laws.specs.Refusal.{unless, passes, ◌▸◌, refusals}
use Rattle.laws.specs.Counted.{sum_of, all_of, join_of, counted}
use Rattle.words.specs.Words.{NONE, is_none}
use Rattle.image.specs.Sections.{Sections, node_count, tag_of, sections}
use Rattle.image.specs.Header.{sections_of}
use Rattle.image.specs.Refusals.{bad_summary}
use Rattle.records.specs.Fields.{kind_of, schema}
use Rattle.records.specs.Records.{target_of, records}
use Rattle.load.specs.Load.{load_rule}
use Rattle.draft.specs.Draft.{tables_rule, drafts}

-- ---- the summary

-- the target of node i: f2 of a choice, a divert or a divert-target value, f4 of a reference; NONE for any other kind
abbrev pub target_at : Sections → ℕ → ℕ
target_at s i = target_of s i (kind_of (tag_of s i))

-- 1 if a target is node n; a target that is absent is none
unfoldable pub points_at : ℕ → ℕ → ℕ
points_at target n = cond (is_none target) 0 (cond (eqb target n) 1 0)

-- how many choices, diverts, divert-target values and read counts name node n
unfoldable pub pointed_at : Sections → ℕ → ℕ
pointed_at s n = sum_of (node_count s) (λ i. points_at (target_at s i) n)

-- a word for each node
unfoldable pub summary_of : Sections → List ℕ
summary_of s = join_of (node_count s) (λ n. pointed_at s n ∷ [])

-- how many targets are present
unfoldable pub targets_present : Sections → ℕ
targets_present s = sum_of (node_count s) (λ i. cond (is_none (target_at s i)) 0 1)

-- a summary is right: its first words are those of the nodes
abbrev pub RightSummary : Sections → List ℕ → Type 0
RightSummary s summary = take (node_count s) summary ≡ summary_of s

-- ---- counting

-- 27: fewer words than nodes
unfoldable pub summary_rule : Sections → ℕ → ℕ
summary_rule s words = unless (leb (node_count s) words) bad_summary

-- every word can be counted up to what names its node
unfoldable pub words_hold : Sections → Bool
words_hold s = all_of (node_count s) (λ n. leb (pointed_at s n) NONE)

-- of a draft: 19 if it is broken, 27 for a short summary, and last 27 for a word that cannot be counted up so far
unfoldable pub draft_count_rule : Sections → ℕ → ℕ
draft_count_rule s words = tables_rule s ▸ summary_rule s words ▸ unless (words_hold s) bad_summary

-- the summary on return: the words of the nodes, and those past them as they were; where counting is refused, all as they were
unfoldable pub summary_after : ℕ → Sections → List ℕ → List ℕ
summary_after refusal s summary = cond (passes refusal) (summary_of s ++ drop (node_count s) summary) summary

-- ---- what is promised of it

-- a summary that was counted is right, and words past the nodes stay
pub record CountedSummary (s : Sections) (summary : List ℕ) : Type 0 where
  pub right : RightSummary s (summary_after 0 s summary)
  pub past : drop (node_count s) (summary_after 0 s summary) ≡ drop (node_count s) summary

-- the words of a right summary add up to the number of targets present
abbrev pub AddsUp : Sections → Type 0
AddsUp s = (summary : List ℕ) → RightSummary s summary → sum_of (node_count s) (λ n. get_or summary n 0) ≡ targets_present s

-- of every draft that row 19 does not refuse, and of every accepted image
abbrev pub DraftAddsUp : Type 0
DraftAddsUp = (s : Sections) → tables_rule s ≡ 0 → AddsUp s

abbrev pub AcceptedAddsUp : Type 0
AcceptedAddsUp = (bs : List ℕ) (work : ℕ) → load_rule bs work ≡ 0 → AddsUp (sections_of bs)

-- names on an `unfolding` line what a computation with this module needs
unfoldable pub summaries : Unit {0}
unfolding points_at pointed_at summary_of targets_present summary_rule words_hold draft_count_rule summary_after drafts records schema sections counted refusals
summaries = tt
