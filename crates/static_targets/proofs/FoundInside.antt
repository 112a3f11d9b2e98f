-- The node at the end of a path, in a draft that keeps 19, but for the targets that are to be found, and 21.
use Rattle.std.specs.Prelude.{Some}
use Prim.Native.Nat.{ℕ}
use mathlib.Core.Path.{◌≡◌}
use mathlib.Core.List.{List}
use Rattle.words.specs.Words.{NONE}
use Rattle.image.specs.Sections.{Sections}
use Rattle.records.proofs.PassedRules.{node_of_lem, root}
use Rattle.draft.specs.Draft.{shape_rule}
use Rattle.draft.specs.PathList.{path_tables_rule}
use Rattle.draft.proofs.Rules.{shape}
use Rattle.draft.proofs.PathTables.{path-tables}
use Rattle.walks.specs.Walk.{components}
use Rattle.walks.proofs.WalkEnds.{Leads, EndsInside, found_inside}
use Rattle.target_finding.specs.Targets.{PathList, path_components, path_end}

-- every step leads to a node
pub leads : (s : Sections) (entries : List ℕ) → path_tables_rule s entries ≡ 0 → shape_rule s ≡ 0 → Leads s
leads s entries p q =
    let t = path-tables s entries p in
    record {
      some = t.some;
      root-parent = (root s (shape s q).root).parent;
      parents = t.parents;
      children = t.children;
      named = t.named-nodes;
    }

module _ (s : Sections) (l : Leads s) where
  pub end_inside : (p : PathList) (i k : ℕ) → EndsInside s (path_end s p i k)
  unfolding path_end
  end_inside p i k n h = found_inside s l _ i (components p.names (path_components p k)) n h

  pub end_some : (p : PathList) (i k n : ℕ) → path_end s p i k ≡ Some n → n ≡ NONE → ⊥
  end_some p i k n h = (node_of_lem s n (end_inside p i k n h)).some
