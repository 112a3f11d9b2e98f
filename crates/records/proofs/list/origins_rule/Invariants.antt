-- `records::list::origins_rule` meets its contract.
use Prim.Native.Nat.{◌≤◌, ◌-◌}
use mathlib.Core.Path.{◌≡◌}
use Rattle.laws.specs.Refusal.{first_of}
use Rattle.records.specs.Records.{list_origin_rule}
use Rattle.records.specs.Shown.{bytes_only}
use Rattle.records.proofs.list.origins_rule.Given as goal

abbrev pub invariant-loop-j : goal.invariant-loop-j
invariant-loop-j l = (l.j ≤ l.origins) × (first_of l.j (list_origin_rule (bytes_only l.payload l.strings) l.at) ≡ 0)

abbrev pub decreases-loop-j : goal.decreases-loop-j
decreases-loop-j l = l.origins - l.j
