-- `write_tree_sections::nodes::put_record` meets its contract.
use native.Mathlib.Omega.{arith}
use Rattle.write_tree_sections.proofs.RecordWidth.{record_length}
use Rattle.write_tree_sections.proofs.nodes.put_record.Goals as goal

pub put_words-requires : goal.put_words-requires
put_words-requires c =
    let to = c.args in
    omega (arith, record_length to.source.version to.node)
