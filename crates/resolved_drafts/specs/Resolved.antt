-- What a resolved draft keeps, and which of the writer's rules it may break: the statements.
use Rattle.std.specs.Prelude.{ℕ, ◌+◌, ◌*◌, ◌≤◌, ◌<◌, ◌≡◌, ◌≢◌, ◌⊎◌, List, [], Bool, true, false, ◌&&◌, length, leb, Some}
use Rattle.laws.specs.Refusal.{unless, ◌▸◌}
use Rattle.words.specs.Words.{NONE}
use Rattle.image.specs.Header.{version, ink_right}
use Rattle.image.specs.Refusals.{too_few_words, draft_paths, no_room}
use Rattle.image.specs.Sections.{Sections, node_words, node_count, node_word, tag_of, f, inside, is_container}
use Rattle.image.specs.Tags.{target_tag}
use Rattle.records.specs.Fields.{target_place, kind_of}
use Rattle.records.specs.Records.{target_of}
use Rattle.draft.specs.Draft.{tables_rule, write_words, reach_rule, shape_rule, paths_rule}
use Rattle.draft.specs.PathList.{path_origin, path_of, follows}
use Rattle.draft_image.specs.Encode.{image_for, draft_rule, encode_rule}
use Rattle.written.specs.Written.{DraftWords, Written}
use Rattle.walks.specs.Walk.{Component, resolve}
use Rattle.target_finding.specs.Targets.{PathList, path_end, ends_in_index, needs_container, resolve_rule, is_path_text, resolved_nodes, resolved}

-- P holds of every draft and list that are not refused, with whatever ink version and count of work words
abbrev pub Resolved : (ℕ → Sections → PathList → ℕ → Type 0) → Type 0
Resolved P = (ink : ℕ) (s : Sections) (p : PathList) (work : ℕ) → resolve_rule ink s p work ≡ 0 → P ink s p work

-- ---- the writer's rules

-- 19 to 21 are kept
pub record ResolvedRight (s : Sections) (p : PathList) : Type 0 where
  pub tables : tables_rule (resolved s p) ≡ 0
  pub reach : reach_rule (resolved s p) ≡ 0
  pub shape : shape_rule (resolved s p) ≡ 0

abbrev pub ResolvedPasses : Type 0
ResolvedPasses = Resolved (λ ink s p work. ResolvedRight s p)

-- 22 says of the resolved draft what it says of the draft
abbrev pub ResolvedPaths : Type 0
ResolvedPaths = Resolved (λ ink s p work. paths_rule (resolved s p) ≡ paths_rule s)

-- so the writer, with any known ink version, answers by 7, 22 and 23 alone; the work words are those of the draft
abbrev pub ResolvedWrites : Type 0
ResolvedWrites =
    Resolved (λ ink s p work. (ink' work' room : ℕ) → ink_right ink' ≡ true
    → encode_rule ink' (resolved s p) work' room
    ≡ ((unless (leb (write_words s) work') too_few_words ▸ paths_rule s)
    ▸ unless (leb (length (image_for ink' (resolved s p))) room && leb (length (image_for ink' (resolved s p))) NONE) no_room))

abbrev pub ResolvedRefusals : Type 0
ResolvedRefusals =
    Resolved (λ ink s p work. (ink' work' room : ℕ) → ink_right ink' ≡ true
    → (encode_rule ink' (resolved s p) work' room ≡ 0) ⊎ (encode_rule ink' (resolved s p) work' room ≡ too_few_words)
    ⊎ (encode_rule ink' (resolved s p) work' room ≡ draft_paths) ⊎ (encode_rule ink' (resolved s p) work' room ≡ no_room))

-- and not by 7, with the same ink version and no fewer work words
abbrev pub ResolvedWords : Type 0
ResolvedWords =
    Resolved (λ ink s p work. (work' room : ℕ) → work ≤ work' → encode_rule ink (resolved s p) work' room ≢ too_few_words)

-- ---- an empty list

abbrev pub no_paths : List ℕ → List ℕ → PathList
no_paths components names = record { entries = []; components = components; names = names }

-- the test is the writer's own, which goes on with 22
abbrev pub EmptyList : Type 0
EmptyList =
    (ink : ℕ) (s : Sections) (components names : List ℕ) (work : ℕ)
    → draft_rule ink s work ≡ (resolve_rule ink s (no_paths components names) work ▸ paths_rule s)

-- and nodes that are whole entries stay as they are
abbrev pub EmptyKeeps : Type 0
EmptyKeeps =
    (s : Sections) (components names : List ℕ) → length s.nodes ≡ node_count s * node_words s.version
    → resolved_nodes s (no_paths components names) ≡ s.nodes

-- so a draft that is not refused stays as it is
abbrev pub EmptyUnchanged : Type 0
EmptyUnchanged =
    (ink : ℕ) (s : Sections) (components names : List ℕ) (work : ℕ) → resolve_rule ink s (no_paths components names) work ≡ 0
    → resolved s (no_paths components names) ≡ s

-- ---- what stays, of any draft and list

pub record ResolvedKeeps (s : Sections) (p : PathList) : Type 0 where
  pub nodes : node_count (resolved s p) ≡ node_count s
  pub words : write_words (resolved s p) ≡ write_words s
  -- every word of a node that is passed over
  pub passed_over : (i k : ℕ) → i < node_count s → k < node_words s.version → follows s p.entries i ≡ false
      → node_word (resolved s p) i k ≡ node_word s i k
  -- of any node, all but its target and its path text; of one that follows, the text is absent
  pub others : (i k : ℕ) → i < node_count s → k < node_words s.version → k ≢ 3 + target_place (kind_of (tag_of s i)) → is_path_text (tag_of s i) k ≡ false
      → node_word (resolved s p) i k ≡ node_word s i k
  pub path-text : (i k : ℕ) → i < node_count s → k < node_words s.version → follows s p.entries i ≡ true → is_path_text (tag_of s i) k ≡ true
      → node_word (resolved s p) i k ≡ NONE
  -- the text of a divert-target value
  pub value-text : (i k : ℕ) → i < node_count s → tag_of s i ≡ target_tag → k < 2 → f (resolved s p) i k ≡ f s i k

abbrev pub DraftKept : Type 0
DraftKept = (s : Sections) (p : PathList) → ResolvedKeeps s p

-- its words are words, so what holds of every image that is written holds of the resolved draft's
abbrev pub WordsKept : Type 0
WordsKept = (s : Sections) (p : PathList) → DraftWords s → DraftWords (resolved s p)

abbrev pub ResolvedWritten : Type 1
ResolvedWritten =
    (P : ℕ → Sections → Type 0) → Written P → (ink : ℕ) (s : Sections) (p : PathList) (work room : ℕ) → s.version ≡ version → DraftWords s
    → encode_rule ink (resolved s p) work room ≡ 0 → P ink (resolved s p)

-- ---- targets

-- the target of node i is the node at the end of its path, and a container if one is due
pub record TargetSet (s : Sections) (p : PathList) (i : ℕ) : Type 0 where
  pub entry : ℕ
  pub node : ℕ
  pub origin : path_origin p.entries entry ≡ i
  pub listed : path_of p.entries i ≡ Some entry
  pub end : path_end s p i entry ≡ Some node
  pub target : target_of (resolved s p) i (kind_of (tag_of (resolved s p) i)) ≡ node
  pub within : inside (resolved s p) node ≡ true
  pub container : needs_container (tag_of s i) (ends_in_index p entry) ≡ true → is_container (resolved s p) node ≡ true

abbrev pub TargetsSet : Type 0
TargetsSet = Resolved (λ ink s p work. (i : ℕ) → i < node_count s → follows s p.entries i ≡ true → TargetSet s p i)

-- and walks through the resolved draft are those through the draft
abbrev pub ResolvedWalks : Type 0
ResolvedWalks =
    Resolved (λ ink s p work. (relative : Bool) (origin : ℕ) (cs : List Component)
    → resolve (resolved s p) relative origin cs ≡ resolve s relative origin cs)
