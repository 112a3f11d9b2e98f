-- `write_interning::assign` meets its contract. The invariant: whatever the version, the uses before `k` have their offsets.
use Prim.Native.Nat.{ℕ}
use Rattle.write_text_keys.specs.Keys.{key_in}
use Rattle.write_interning.specs.Uses.{Firsts}
use Rattle.write_interning.proofs.OffsetLoop.{Assigning, Bounded}
use Rattle.write_interning.proofs.assign.Given as goal

abbrev pub invariant-loop-k : goal.invariant-loop-k
invariant-loop-k l =
    Bounded l.n l.initial.w l.w l.k l.total × ((v : ℕ) → Firsts (key_in v l.nodes l.strings l.layout l.initial.w) l.n l.initial.w → Assigning (key_in v l.nodes l.strings l.layout l.initial.w) l.n l.initial.w l.w l.k l.total)
