use Rattle.write_text_keys.specs.Keys.{key_in}
use Rattle.write_interning.proofs.OutputLoop.{Emitting}
use Rattle.write_interning.proofs.emit.Given as goal

abbrev pub invariant-loop-k : goal.invariant-loop-k
invariant-loop-k l = Emitting (key_in l.source.version l.nodes l.strings l.layout l.w) l.n l.initial.out l.out l.k l.end
