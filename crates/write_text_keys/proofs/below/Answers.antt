-- `write_text_keys::below` meets its contract.
use mathlib.Core.Path.{◌∙◌}
use lib.ListN.{drop}
use Rattle.laws.proofs.Lists.{to_end}
use Rattle.write_text_keys.proofs.Uses.{text_key}
use Rattle.write_text_keys.proofs.below.Goals as goal

pub returns-then-b-layout : goal.returns-then-b-layout
returns-then-b-layout c =
    let to = c.args in
    let tab = drop to.layout.at to.w.now in
    c.texts_below.ensures
    ∙ rw (to_end to.layout.at to.w.now, text_key to.source.version to.nodes.now to.strings.now to.layout.texts to.layout.paths to.layout.lengths tab to.a c.if-a-layout.true, text_key to.source.version to.nodes.now to.strings.now to.layout.texts to.layout.paths to.layout.lengths tab to.b c.if-b-layout.true)

pub returns : goal.returns
returns c =
    let to = c.args in
    c.ends_below.ensures ∙ rw (to_end to.layout.at to.w.now)
