-- `write_text_keys::put_key` meets its contract.
use mathlib.Core.Path.{ap, ◌∙◌}
use native.Mathlib.Omega.{arith}
use lib.ListN.{length}
use Rattle.write_text_keys.proofs.Uses.{text-written, path-written}
use Rattle.write_text_keys.proofs.put_key.Goals as goal

pub put_bytes-requires : goal.put_bytes-requires
put_bytes-requires c =
    let to = c.args in
    let key = text-written to.source.version to.nodes.now to.strings.now to.layout.texts to.layout.paths to.layout.lengths to.layout.at to.w.now c.text_of.result.now to.a c.if-a-layout.true c.text_of.ensures in
    omega (arith, ap length key, c.requires.a_in_bounds)

pub returns-then-a-layout : goal.returns-then-a-layout
returns-then-a-layout c =
    let to = c.args in
    let key = text-written to.source.version to.nodes.now to.strings.now to.layout.texts to.layout.paths to.layout.lengths to.layout.at to.w.now c.text_of.result.now to.a c.if-a-layout.true c.text_of.ensures in
    c.put_bytes.ensures ∙ rw (← key)

pub put_read-requires : goal.put_read-requires
put_read-requires c =
    let to = c.args in
    let x = c.node_of-x in
    let end = c.at_end in
    let n = c.long_of in
    let key = path-written to.source.version to.nodes.now to.strings.now to.layout.texts to.layout.paths to.layout.lengths to.layout.at to.w.now to.a x.result n.result end.result c.if-a-layout.false x.ensures end.ensures n.ensures in
    omega (arith, key.1, c.requires.a_in_bounds)

pub returns : goal.returns
returns c =
    let to = c.args in
    let x = c.node_of-x in
    let end = c.at_end in
    let n = c.long_of in
    let key = path-written to.source.version to.nodes.now to.strings.now to.layout.texts to.layout.paths to.layout.lengths to.layout.at to.w.now to.a x.result n.result end.result c.if-a-layout.false x.ensures end.ensures n.ensures in
    c.put_read.ensures ∙ rw (key.1, key.0)
