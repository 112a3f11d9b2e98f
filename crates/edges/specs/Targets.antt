-- Small drafts with lists of paths beside them, what is answered and what is set, as one theorem.
use Rattle.std.specs.Prelude.{ℕ, ◌≡◌, refl, List, [], ◌∷◌, ◌++◌}
use Rattle.words.specs.Words.{NONE}
use Rattle.texts.specs.Text.{ascii, texts}
use Rattle.image.specs.Sections.{Sections, f}
use Rattle.draft.specs.Source.{draft_of}
use Rattle.draft_image.specs.Encode.{encode_rule, encodes}
use Rattle.target_finding.specs.Targets.{PathList, resolve_rule, resolved, targets}
use Rattle.edges.specs.Examples.{node_entry, examples}

-- a root with ordered children 1 a choice, 2 a divert, 3 a container that is also named a, with a glue 4, then 5 a divert-target value and
-- 6 a reference. The four have the text a, and the given target; the divert has the given flags and variable
unfoldable pub guide_with : ℕ → ℕ → ℕ → Sections
guide_with target flags variable =
    draft_of 2
    ((NONE ∷ NONE ∷ 1 ∷ NONE ∷ NONE ∷ 0 ∷ 0 ∷ 5 ∷ 0 ∷ 1 ∷ [])
    ++ node_entry 0 0 2 (0 ∷ 1 ∷ target ∷ 0 ∷ [])
    ++ node_entry 0 1 4 (0 ∷ 1 ∷ target ∷ variable ∷ variable ∷ 0 ∷ flags ∷ [])
    ++ (0 ∷ 2 ∷ 1 ∷ 0 ∷ 1 ∷ 0 ∷ 5 ∷ 1 ∷ 1 ∷ 0 ∷ [])
    ++ node_entry 3 0 5 []
    ++ node_entry 0 3 13 (0 ∷ 1 ∷ target ∷ [])
    ++ node_entry 0 4 17 (0 ∷ 1 ∷ 0 ∷ 1 ∷ target ∷ []))
    (1 ∷ 2 ∷ 3 ∷ 5 ∷ 6 ∷ 4 ∷ []) (0 ∷ 1 ∷ 3 ∷ []) [] [] [] (ascii "a")

abbrev pub guide : ℕ → Sections
guide target = guide_with target 0 NONE

-- entries beside the components 0 the name a, 1 the index 0, 2 the parent, 3 the index 2, 4 of an unknown kind
unfoldable pub along : List ℕ → PathList
along entries =
    record {
      entries = entries;
      components = (2 ∷ 0 ∷ 1 ∷ []) ++ (1 ∷ 0 ∷ 0 ∷ []) ++ (0 ∷ 0 ∷ 0 ∷ []) ++ (1 ∷ 2 ∷ 0 ∷ []) ++ (3 ∷ 0 ∷ 0 ∷ []);
      names = ascii "a";
    }

-- choice and reference to a, divert and divert-target value to a.0, which is the glue; in no order
unfoldable pub whole : PathList
whole = along ((6 ∷ 0 ∷ 0 ∷ 1 ∷ []) ++ (1 ∷ 0 ∷ 0 ∷ 1 ∷ []) ++ (2 ∷ 0 ∷ 0 ∷ 2 ∷ []) ++ (5 ∷ 0 ∷ 0 ∷ 2 ∷ []))

-- one path, of node i
abbrev pub one : ℕ → ℕ → ℕ → ℕ → PathList
one i relative first count = along (i ∷ relative ∷ first ∷ count ∷ [])

unfoldable pub path_examples : Unit {0}
unfolding guide_with along whole examples
path_examples = tt

-- the list: what it names need not have a target, all else is tested as before
pub record ListLines : Type 0 where
  pub unlisted : resolve_rule 21 (guide NONE) (along []) 1000 ≡ 19
  pub passed : resolve_rule 21 (guide NONE) whole 1000 ≡ 0
  pub any_word : resolve_rule 21 (guide 77) whole 1000 ≡ 0
  pub ink : resolve_rule 17 (guide NONE) whole 1000 ≡ 3
  pub words-enough : resolve_rule 21 (guide NONE) whole 140 ≡ 0
  pub words_few : resolve_rule 21 (guide NONE) whole 139 ≡ 7
  -- an external divert and one by variable are passed over, and their targets are tested
  pub external : resolve_rule 21 (guide_with 77 2 NONE) whole 1000 ≡ 19
  pub by_variable : resolve_rule 21 (guide_with 77 0 0) whole 1000 ≡ 19
  pub other-kind : resolve_rule 21 (guide 3) (one 4 0 3 1) 1000 ≡ 0
  -- twice, outside, NONE, a flag above 1, components outside, a broken entry
  pub twice : resolve_rule 21 (guide 3) (along ((1 ∷ 0 ∷ 0 ∷ 1 ∷ []) ++ (1 ∷ 0 ∷ 0 ∷ 1 ∷ []))) 1000 ≡ 19
  pub outside : resolve_rule 21 (guide 3) (one 7 0 0 1) 1000 ≡ 19
  pub of_none : resolve_rule 21 (guide 3) (one NONE 0 0 1) 1000 ≡ 19
  pub flag : resolve_rule 21 (guide 3) (one 1 2 0 1) 1000 ≡ 19
  pub components : resolve_rule 21 (guide 3) (one 1 0 4 2) 1000 ≡ 19
  pub broken-entry : resolve_rule 21 (guide 3) (along (1 ∷ 0 ∷ 0 ∷ [])) 1000 ≡ 19
  -- the target of a node that follows a path is no matter of 19, even where the root is no container
  pub root-choice : resolve_rule 21 (draft_of 2 (node_entry NONE NONE 2 (NONE ∷ NONE ∷ NONE ∷ [])) [] [] [] [] [] []) (one 0 0 0 1) 1000 ≡ 21

list_lines : ListLines
unfolding path_examples targets encodes texts
list_lines =
    record {
      unlisted = refl;
      passed = refl;
      any_word = refl;
      ink = refl;
      words-enough = refl;
      words_few = refl;
      external = refl;
      by_variable = refl;
      other-kind = refl;
      twice = refl;
      outside = refl;
      of_none = refl;
      flag = refl;
      components = refl;
      broken-entry = refl;
      root-choice = refl;
    }

-- where paths lead, and who needs a container
pub record PathLines : Type 0 where
  pub row_25 : resolve_rule 21 (guide 3) (one 1 0 2 1) 1000 ≡ 25
  pub row_26 : resolve_rule 21 (guide 3) (one 1 0 0 2) 1000 ≡ 26
  pub read_count : resolve_rule 21 (guide 3) (one 6 0 0 2) 1000 ≡ 26
  pub divert-index : resolve_rule 21 (guide 3) (one 2 0 0 2) 1000 ≡ 0
  pub value_anywhere : resolve_rule 21 (guide 3) (one 5 0 0 2) 1000 ≡ 0
  pub unknown_kind : resolve_rule 21 (guide 3) (one 1 0 4 1) 1000 ≡ 25
  pub first-decides : resolve_rule 21 (guide 3) (along ((2 ∷ 0 ∷ 2 ∷ 1 ∷ []) ++ (1 ∷ 0 ∷ 0 ∷ 2 ∷ []))) 1000 ≡ 26
  -- relative: from the parent, one component skipped, whatever it is
  pub relative : f (resolved (guide NONE) (one 1 1 2 2)) 1 2 ≡ 3
  pub skipped : f (resolved (guide NONE) (one 1 1 4 1)) 1 2 ≡ 0
  -- no components: the root
  pub to_root : f (resolved (guide NONE) (one 1 0 0 0)) 1 2 ≡ 0

path_lines : PathLines
unfolding path_examples targets encodes texts
path_lines =
    record {
      row_25 = refl;
      row_26 = refl;
      read_count = refl;
      divert-index = refl;
      value_anywhere = refl;
      unknown_kind = refl;
      first-decides = refl;
      relative = refl;
      skipped = refl;
      to_root = refl;
    }

-- what is set
pub record ResolvedLines : Type 0 where
  pub choice-target : f (resolved (guide NONE) whole) 1 2 ≡ 3
  pub choice-text : f (resolved (guide NONE) whole) 1 0 ≡ NONE
  pub choice_flags : f (resolved (guide NONE) whole) 1 3 ≡ 0
  pub divert-target : f (resolved (guide NONE) whole) 2 2 ≡ 4
  pub divert-text : f (resolved (guide NONE) whole) 2 1 ≡ NONE
  pub value-target : f (resolved (guide NONE) whole) 5 2 ≡ 4
  pub value-text : f (resolved (guide NONE) whole) 5 1 ≡ 1
  pub reference-target : f (resolved (guide NONE) whole) 6 4 ≡ 3
  pub reference-name : f (resolved (guide NONE) whole) 6 1 ≡ 1
  pub reference-text : f (resolved (guide NONE) whole) 6 3 ≡ NONE
  pub external-stays : f (resolved (guide_with NONE 2 NONE) whole) 2 2 ≡ NONE
  pub written : encode_rule 21 (resolved (guide NONE) whole) 1000 1000 ≡ 0

resolved_lines : ResolvedLines
unfolding path_examples targets encodes texts
resolved_lines =
    record {
      choice-target = refl;
      choice-text = refl;
      choice_flags = refl;
      divert-target = refl;
      divert-text = refl;
      value-target = refl;
      value-text = refl;
      reference-target = refl;
      reference-name = refl;
      reference-text = refl;
      external-stays = refl;
      written = refl;
    }

pub record TargetLines : Type 0 where
  pub lists : ListLines
  pub paths : PathLines
  pub resolved-drafts : ResolvedLines

pub target_lines : TargetLines
target_lines = record { lists = list_lines; paths = path_lines; resolved-drafts = resolved_lines }
