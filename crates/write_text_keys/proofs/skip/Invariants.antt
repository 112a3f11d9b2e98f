-- `write_text_keys::skip` meets its contract. The invariant: `rest` bytes back from x is where `count` bytes back from the start is.
use mathlib.Core.Path.{◌≡◌}
use Rattle.write_text_keys.specs.Keys.{back}
use Rattle.write_text_keys.proofs.skip.Given as goal

abbrev pub invariant-loop-x : goal.invariant-loop-x
invariant-loop-x l = back l.count l.source.version l.nodes l.initial.x ≡ back l.rest l.source.version l.nodes l.x

abbrev pub decreases-loop-x : goal.decreases-loop-x
decreases-loop-x l = l.rest
