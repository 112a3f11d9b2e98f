-- `target_setting::set_target` meets its contract.
use native.Mathlib.Omega.{arith}
use lib.ListN.{length-set}
use Rattle.target_setting.proofs.SetNode.{node_kept, reference-set, value_set, other-set}
use Rattle.target_setting.proofs.set_target.Goals as goal

pub returns-then-target-eq-NONE : goal.returns-then-target-eq-NONE
returns-then-target-eq-NONE c = node_kept _ _ _ c.if-target-eq-NONE.true

pub bounds-nodes-at-then-tag-eq-REFERENCE-2 : goal.bounds-nodes-at-then-tag-eq-REFERENCE-2
bounds-nodes-at-then-tag-eq-REFERENCE-2 c = simp length-set (omega (arith, c.requires.common_words_in_bounds))

pub bounds-nodes-at-then-tag-eq-REFERENCE-3 : goal.bounds-nodes-at-then-tag-eq-REFERENCE-3
bounds-nodes-at-then-tag-eq-REFERENCE-3 c = simp length-set (omega (arith, c.requires.common_words_in_bounds))

pub returns-then-tag-eq-REFERENCE : goal.returns-then-tag-eq-REFERENCE
returns-then-tag-eq-REFERENCE c = reference-set _ _ _ c.requires.common_words_in_bounds c.if-target-eq-NONE.false c.if-tag-eq-REFERENCE.true

pub bounds-nodes-at-then-tag-ne-TARGET_VALUE-2 : goal.bounds-nodes-at-then-tag-ne-TARGET_VALUE-2
bounds-nodes-at-then-tag-ne-TARGET_VALUE-2 c = simp length-set (omega (arith, c.requires.common_words_in_bounds))

pub bounds-nodes-at-then-tag-ne-TARGET_VALUE-3 : goal.bounds-nodes-at-then-tag-ne-TARGET_VALUE-3
bounds-nodes-at-then-tag-ne-TARGET_VALUE-3 c = simp length-set (omega (arith, c.requires.common_words_in_bounds))

pub returns-then-tag-ne-TARGET_VALUE : goal.returns-then-tag-ne-TARGET_VALUE
returns-then-tag-ne-TARGET_VALUE c =
    let pre = c.requires in
    let some = c.if-target-eq-NONE.false in
    other-set _ _ _ pre.common_words_in_bounds some (pre.at_value some) c.if-tag-eq-REFERENCE.false c.if-tag-ne-TARGET_VALUE.true

pub returns : goal.returns
returns c = value_set _ _ _ c.requires.common_words_in_bounds c.if-target-eq-NONE.false c.if-tag-ne-TARGET_VALUE.false
