-- `draft::tables::children_rule` meets its contract. The invariant: the children before `j` pass.
use Prim.Native.Nat.{ℕ, ◌/◌}
use mathlib.Core.Path.{◌≡◌}
use mathlib.Core.List.{[]}
use lib.ListN.{length}
use Rattle.laws.specs.Refusal.{first_of}
use Rattle.image.specs.Sections.{node_words}
use Rattle.draft.specs.Source.{draft_of}
use Rattle.draft.specs.Draft.{draft_child_rule}
use Rattle.draft.proofs.tables.children_rule.Given as goal

abbrev pub invariant-loop-child : goal.invariant-loop-child
invariant-loop-child l =
    (v : ℕ) → l.count ≡ length l.nodes / node_words v → first_of l.child-index (draft_child_rule (draft_of v l.nodes l.children [] [] [] [] [])) ≡ 0
