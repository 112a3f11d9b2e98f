-- `index::index_rule` meets its contract. The invariant: no entry so far is refused, the words of their targets hold their numbers, and the words past the
use Prim.Native.Nat.{◌≤◌, ◌-◌}
use mathlib.Core.Path.{◌≡◌}
use mathlib.Core.List.{[]}
use lib.ListN.{length, drop}
use Rattle.image.specs.Sections.{node_count}
use Rattle.laws.specs.Refusal.{first_of}
use Rattle.words.specs.Words.{words_of}
use Rattle.index.specs.Index.{index_entry_rule}
use Rattle.index.specs.Parts.{index_parts}
use Rattle.index.specs.Extended.{Filed}
use Rattle.index.proofs.index_rule.Given as goal

abbrev pub invariant-loop-j : goal.invariant-loop-j
invariant-loop-j l =
    (l.j ≤ l.count) × (first_of l.j (index_entry_rule (index_parts l.version l.nodes l.index l.strings)) ≡ 0) × (length l.work ≡ length l.initial.work)
    × (drop (node_count (index_parts l.version l.nodes [] [])) l.work ≡ drop (node_count (index_parts l.version l.nodes [] [])) l.initial.work)
    × Filed (words_of l.index) l.work l.j

abbrev pub decreases-loop-j : goal.decreases-loop-j
decreases-loop-j l = l.count - l.j
