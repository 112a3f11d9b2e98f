-- `write_text_keys::ends_below` meets its contract.
use native.Mathlib.Omega.{arith}
use mathlib.Core.Path.{◌∙◌}
use Rattle.write_text_keys.proofs.Uses.{below-shorter, below-longer}
use Rattle.write_text_keys.proofs.ends_below.Goals as goal

pub returns-then-m-n : goal.returns-then-m-n
returns-then-m-n c =
    let d = c.end_of-d in
    let e = c.end_of-c in
    let n = c.length_of-n in
    let m = c.length_of-m in
    let to = c.args in
    c.read_below.ensures
    ∙ rw (c.skip.ensures, d.ensures, e.ensures)
    (below-shorter to.source.version to.nodes.now to.strings.now to.layout.texts to.layout.paths to.layout.lengths to.tab.now to.a to.b m.result n.result m.ensures n.ensures (omega arith))

pub returns : goal.returns
returns c =
    let d = c.end_of-d in
    let e = c.end_of-c in
    let n = c.length_of-n in
    let m = c.length_of-m in
    let to = c.args in
    c.read_below-2.ensures
    ∙ rw (c.skip-2.ensures, d.ensures, e.ensures)
    (below-longer to.source.version to.nodes.now to.strings.now to.layout.texts to.layout.paths to.layout.lengths to.tab.now to.a to.b m.result n.result m.ensures n.ensures (omega arith))
