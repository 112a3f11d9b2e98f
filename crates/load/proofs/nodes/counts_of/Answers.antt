-- `load::nodes::counts_of` meets its contract.
use Rattle.load.proofs.SectionReads.{counts-read}
use Rattle.load.proofs.nodes.counts_of.Goals as goal

pub returns : goal.returns
returns c =
    let named = c in
    let index = c in
    counts-read _ _ _ _ _ _ _ _ _ _ _ named.nodes_part-nodes.ensures named.section_part-children.ensures named.section_part-named.ensures
    index.section_part-definitions.ensures index.section_part-items.ensures index.section_part-index.ensures c.section_part-payload.ensures
    c.section_part-strings.ensures c.node_count.ensures
