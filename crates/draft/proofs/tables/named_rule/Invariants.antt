-- `draft::tables::named_rule` meets its contract. The invariant: the entries before `j` pass.
use Prim.Native.Nat.{ℕ, ◌/◌, ◌≤◌, ◌-◌}
use mathlib.Core.Path.{◌≡◌}
use mathlib.Core.List.{[]}
use Rattle.laws.specs.Refusal.{first_of}
use lib.ListN.{length}
use Rattle.image.specs.Sections.{node_words}
use Rattle.draft.specs.Source.{draft_of}
use Rattle.draft.specs.Draft.{draft_named_rule}
use Rattle.draft.proofs.tables.named_rule.Given as goal

abbrev pub invariant-loop-j : goal.invariant-loop-j
invariant-loop-j l =
    (l.j ≤ l.count)
    × ((v : ℕ) → l.nodes ≡ length l.nodes-2 / node_words v → first_of l.j (draft_named_rule (draft_of v l.nodes-2 [] l.named [] [] [] l.strings)) ≡ 0)

abbrev pub decreases-loop-j : goal.decreases-loop-j
decreases-loop-j l = l.count - l.j
