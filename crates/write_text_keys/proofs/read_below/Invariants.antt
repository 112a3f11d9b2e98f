-- `write_text_keys::read_below` meets its contract. The invariant: what is left before x and y is ordered as the whole, with `less` for what is behind.
use mathlib.Core.Path.{◌≡◌}
use Rattle.write_text_keys.specs.Keys.{read_back, decided}
use Rattle.write_text_keys.proofs.read_below.Given as goal

abbrev pub invariant-loop-left : goal.invariant-loop-left
invariant-loop-left l =
    let v = l.source.version in
    decided (read_back l.n v l.nodes l.strings l.initial.x) (read_back l.n v l.nodes l.strings l.initial.y) l.later ≡ decided (read_back l.left v l.nodes l.strings l.x) (read_back l.left v l.nodes l.strings l.y) l.less

abbrev pub decreases-loop-left : goal.decreases-loop-left
decreases-loop-left l = l.left
