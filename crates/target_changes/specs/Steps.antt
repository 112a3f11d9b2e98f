-- As the code tests and writes: what may stand in a target, and the words that take a step.
use Rattle.std.specs.Prelude.{ℕ, ◌≤◌, ◌<◌, ◌≡◌, List, Bool, false, cond, ◌||◌, length, get_or, eqb}
use Rattle.words.specs.Words.{NONE, is_none}
use Rattle.image.specs.Sections.{Sections, node_count, inside_among}
use Rattle.image.specs.Tags.{reference_tag}
use Rattle.records.specs.Fields.{Kind, Container, Choice, Command, Divert, Glue, Operator, Tag, BoolValue, IntValue, FloatValue, StringValue, ListValue, TargetValue, PointerValue, Assignment, Reference, Void, Unknown}
use Rattle.records.specs.Shown.{container_among}
use Rattle.target_counts.specs.Summary.{target_at}
use Rattle.target_changes.specs.Change.{step_rule, move_rule, nodes_after_set, summary_after_set}

-- `allowed` among n nodes, of which t has the tag
unfoldable pub allowed_by : Kind → ℕ → ℕ → ℕ → Bool
allowed_by Choice n t tag = container_among n t tag
allowed_by Divert n t tag = is_none t || inside_among n t
allowed_by TargetValue n t tag = inside_among n t
allowed_by Reference n t tag = is_none t || container_among n t tag
allowed_by Container n t tag = false
allowed_by Command n t tag = false
allowed_by Glue n t tag = false
allowed_by Operator n t tag = false
allowed_by Tag n t tag = false
allowed_by BoolValue n t tag = false
allowed_by IntValue n t tag = false
allowed_by FloatValue n t tag = false
allowed_by StringValue n t tag = false
allowed_by ListValue n t tag = false
allowed_by PointerValue n t tag = false
allowed_by Assignment n t tag = false
allowed_by Void n t tag = false
allowed_by Unknown n t tag = false

-- the place of the target by the tag of a kind that has one
abbrev pub place_by : ℕ → ℕ
place_by tag = cond (eqb tag reference_tag) 4 2

-- a word that can go down, up, or that is none
pub record Falls (w : List ℕ) (n : ℕ) : Type 0 where
  pub there : (n ≡ NONE → ⊥) → n < length w
  pub can : (n ≡ NONE → ⊥) → 0 < get_or w n 0

pub record Rises (w : List ℕ) (n : ℕ) : Type 0 where
  pub there : (n ≡ NONE → ⊥) → n < length w
  pub can : (n ≡ NONE → ⊥) → get_or w n 0 < NONE

pub record Steps (w : List ℕ) (old new : ℕ) : Type 0 where
  pub rule : step_rule w old new ≡ 0
  pub old_there : (old ≡ NONE → ⊥) → old < length w
  pub new_there : (new ≡ NONE → ⊥) → new < length w

-- a draft whose targets, where they are present, are its nodes, and a word of the summary for each node
pub record Summarised (s : Sections) (w : List ℕ) : Type 0 where
  pub targets : (i : ℕ) → i < node_count s → (target_at s i ≡ NONE → ⊥) → target_at s i < node_count s
  pub room : node_count s ≤ length w

-- what is answered where 19 and a short summary are not, and node words and summary on return
pub record Moved (s : Sections) (w : List ℕ) (i t : ℕ) (nodes w' : List ℕ) (r : ℕ) : Type 0 where
  pub number : r ≡ move_rule s w i t
  pub nodes_are : nodes ≡ nodes_after_set r s i t
  pub words_are : w' ≡ summary_after_set r s w i t
