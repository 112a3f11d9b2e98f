-- `write_paths::measure` meets its contract.
use Rattle.write_text_keys.specs.Keys.{length_from}
use Rattle.write_paths.specs.Arranged.{Measured}
use Rattle.write_paths.proofs.Parents.{Short}
use Rattle.write_paths.proofs.measure.Given as goal

abbrev pub invariant-loop-i : goal.invariant-loop-i
invariant-loop-i l =
    Measured l.initial.w l.list l.found l.table l.count (length_from l.count l.source.version l.nodes) l.w l.i × Short l.source.version l.nodes l.initial.w l.list l.count l.i
