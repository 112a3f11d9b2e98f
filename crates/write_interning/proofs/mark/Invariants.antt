use Rattle.write_text_keys.specs.Keys.{key_in}
use Rattle.write_interning.proofs.FirstUses.{Marking}
use Rattle.write_interning.proofs.mark.Given as goal

abbrev pub invariant-loop-i : goal.invariant-loop-i
invariant-loop-i l = Marking (key_in l.source.version l.nodes l.strings l.layout l.initial.w) l.n l.initial.w l.w l.i
