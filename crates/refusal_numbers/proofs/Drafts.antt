-- The numbers of the writer, and of the call that finds targets from paths.
use Rattle.std.specs.Prelude.{None, Option, Some, ℕ}
use Prim.Native.Nat.{ℕ}
use mathlib.Core.Bool.{Bool, true, false, cond}
use Rattle.laws.specs.Lists.{has}
use Rattle.image.specs.Sections.{Sections}
use Rattle.draft.specs.Draft.{draft_node_rule, draft_child_rule, draft_named_rule, draft_definition_rule, draft_item_rule, tables_rule, reach_rule, relation_rule, order_rule, shape_rule, path_rule, paths_rule}
use Rattle.draft.specs.PathList.{path_node_rule, path_tables_rule, follows, path_of}
use Rattle.draft_image.specs.Encode.{draft_rule, encode_rule}
use Rattle.target_finding.specs.Targets.{PathList, path_list_rule, end_rule, entry_rule, target_rule, resolve_rule, path_end}
use Rattle.refusal_numbers.specs.Numbers.{encode_numbers, resolve_numbers, EncodeNumbers, ResolveNumbers}
use Rattle.refusal_numbers.proofs.OneOf.{In, among, numbers}

-- ---- the writer

encode-number : (ink : ℕ) (s : Sections) (work room : ℕ) → In encode_numbers (encode_rule ink s work room)
unfolding encode_rule draft_rule tables_rule draft_node_rule draft_child_rule draft_named_rule draft_definition_rule draft_item_rule reach_rule shape_rule relation_rule order_rule paths_rule path_rule has
encode-number ink s work room = search numbers depth 30

pub encode-numbers : EncodeNumbers
encode-numbers ink s work room = among encode_numbers _ (encode-number ink s work room)

-- ---- the resolver

target-number : (s : Sections) (p : PathList) (i : ℕ) → In resolve_numbers (target_rule s p i)
unfolding target_rule has
target-number s p i = by (follows s p.entries i) (path_of p.entries i)
  where
    end : (due : Bool) (x : Option ℕ) → In resolve_numbers (end_rule s due x)
    end due None = search numbers
    end due (Some n) = search numbers

    by : (b : Bool) (x : Option ℕ) → In resolve_numbers (cond b (entry_rule s p i x) 0)
    by false x = search numbers
    by true None = search numbers
    by true (Some k) = end _ (path_end s p i k)

resolve-number : (ink : ℕ) (s : Sections) (p : PathList) (work : ℕ) → In resolve_numbers (resolve_rule ink s p work)
unfolding resolve_rule path_list_rule path_tables_rule path_node_rule draft_child_rule draft_named_rule draft_definition_rule draft_item_rule reach_rule shape_rule relation_rule order_rule has
resolve-number ink s p work = search (target-number, numbers) depth 30

pub resolve-numbers : ResolveNumbers
resolve-numbers ink s p work = among resolve_numbers _ (resolve-number ink s p work)
