-- How the targets that were found are set in the words of a draft's nodes.
use Rattle.std.specs.Prelude.{ℕ, ◌+◌, ◌/◌, ◌≤◌, ◌<◌, ◌≡◌, List, Bool, true, cond, ◌||◌, length, get_or, eqb}
use Rattle.words.specs.Words.{NONE, is_none}
use Rattle.image.specs.Sections.{node_words}
use Rattle.image.specs.Tags.{choice_tag, divert_tag, target_tag, reference_tag}
use Rattle.draft.specs.PathList.{listed}
use Rattle.draft.specs.Source.{word_of}
use Rattle.target_finding.specs.Targets.{followed_word}
use Rattle.target_finding.specs.Finding.{OriginsInside, OriginsApart}

-- a node of this tag may follow a path
unfoldable pub follower_tag : ℕ → Bool
follower_tag tag = eqb tag choice_tag || eqb tag divert_tag || eqb tag target_tag || eqb tag reference_tag

-- word k of a node of this tag where that target was found for it: NONE says that the node is passed over
unfoldable pub set_word : ℕ → ℕ → ℕ → ℕ → ℕ
set_word tag target k w = cond (is_none target) w (followed_word tag target k w)

-- the words from `at` on are set as those of a node, words before it stay
pub record NodeSet (at target : ℕ) (nodes₀ nodes : List ℕ) : Type 0 where
  pub long : length nodes ≡ length nodes₀
  pub here : (k : ℕ) → get_or nodes (at + k) 0 ≡ set_word (get_or nodes₀ (at + 2) 0) target k (get_or nodes₀ (at + k) 0)
  pub before : (m : ℕ) → m < at → get_or nodes m 0 ≡ get_or nodes₀ m 0

-- the work words hold a target for each node, and one that is not NONE only for a node that may follow a path and that the list has. The
-- entries are of nodes, no two of the same
pub record Settable (version : ℕ) (paths nodes work : List ℕ) : Type 0 where
  pub enough : length nodes / node_words version ≤ length work
  pub followers : (i : ℕ) → i < length nodes / node_words version → (get_or work i 0 ≡ NONE → ⊥) → follower_tag (word_of version nodes i 2) ≡ true
  pub has : (i : ℕ) → i < length nodes / node_words version → (get_or work i 0 ≡ NONE → ⊥) → listed paths i ≡ true
  pub inside : OriginsInside (length nodes / node_words version) paths
  pub apart : OriginsApart paths

-- every node is set by its work word
pub record AllSet (version : ℕ) (nodes₀ work nodes : List ℕ) : Type 0 where
  pub long : length nodes ≡ length nodes₀
  pub each : (i k : ℕ) → i < length nodes₀ / node_words version → k < node_words version
      → word_of version nodes i k ≡ set_word (word_of version nodes₀ i 2) (get_or work i 0) k (word_of version nodes₀ i k)
