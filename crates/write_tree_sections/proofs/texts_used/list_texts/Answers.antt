-- `write_tree_sections::texts_used::list_texts` meets its contract.
use native.Mathlib.Omega.{arith}
use Rattle.write_tree_sections.proofs.TextCounts.{count-start, count_next, count_end}
use Rattle.write_tree_sections.proofs.Records.{count_small}
use Rattle.write_tree_sections.proofs.texts_used.list_texts.Goals as goal

pub loop-j-init : goal.loop-j-init
loop-j-init c = count-start _ _ _

pub overflow_add-present : goal.overflow_add-present
overflow_add-present c = omega (arith, c.text_count-present.ensures, count_small c.payload_get.result)

pub loop-j-preserved : goal.loop-j-preserved
loop-j-preserved c = count_next _ _ _ _ _ c.loop-j.invariant c.loop-j-test.true _ _ c.payload_get.ensures c.text_count-present.ensures

pub returns : goal.returns
returns c = count_end _ _ _ _ _ _ c.loop-j.invariant c.loop-j-test.false c.payload_get-items.ensures c.payload_get-origins.ensures
