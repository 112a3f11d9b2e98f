use Prim.Native.Nat.{◌+◌, ◌-◌}
use Rattle.texts.specs.Text.{by_key}
use Rattle.write_text_keys.specs.Keys.{key_in}
use Rattle.write_sorting.proofs.MergeInPlace.{Placing}
use Rattle.write_sorting.proofs.merge_parts.Given as goal

abbrev pub invariant-loop-i : goal.invariant-loop-i
invariant-loop-i l = Placing (by_key (key_in l.source.version l.nodes l.strings l.layout l.initial.w)) l.initial.w l.m l.n l.w l.i l.j l.k

abbrev pub decreases-loop-i : goal.decreases-loop-i
decreases-loop-i l = (l.n + l.m) - l.k
