-- `write_text_keys::put_read` meets its contract. The invariant: the bytes from `left` on are written, and those before x are left.
use mathlib.Core.Path.{◌≡◌}
use mathlib.Core.List.{◌++◌}
use lib.ListN.{drop}
use Rattle.write_text_keys.specs.Keys.{read_back}
use Rattle.write_text_keys.proofs.put_read.Given as goal

abbrev pub invariant-loop-left : goal.invariant-loop-left
invariant-loop-left l =
    let v = l.source.version in
    read_back l.n v l.nodes l.strings l.initial.x ++ drop l.n l.initial.out ≡ read_back l.left v l.nodes l.strings l.x ++ drop l.left l.out
