-- `records::text_only` meets its contract.
use Rattle.records.proofs.Texts.{text_bad, text_any, command_known, command_unknown, operator_known, operator_unknown}
use Rattle.records.proofs.text_only.Goals as goal

pub returns-then-not-good_within : goal.returns-then-not-good_within
returns-then-not-good_within c = text_bad _ _ _ _ _ c.good_within.ensures c.if-not-good_within.true-raw

pub returns-then-is_command : goal.returns-then-is_command
returns-then-is_command c = command_known _ _ _ _ _ c.good_within.ensures c.if-not-good_within.false-raw _ c.text_part-name.ensures _ c.if-text_tag-eq-COMMAND.true c.is_command.ensures c.if-is_command.true

pub returns-then-text_tag-eq-COMMAND : goal.returns-then-text_tag-eq-COMMAND
returns-then-text_tag-eq-COMMAND c = command_unknown _ _ _ _ _ c.good_within.ensures c.if-not-good_within.false-raw _ c.text_part-name.ensures _ c.if-text_tag-eq-COMMAND.true c.is_command.ensures c.if-is_command.false

pub returns-then-is_operator : goal.returns-then-is_operator
returns-then-is_operator c = operator_known _ _ _ _ _ c.good_within.ensures c.if-not-good_within.false-raw _ c.text_part-name.ensures _ c.if-text_tag-eq-COMMAND.false c.if-text_tag-eq-OPERATOR.true c.is_operator.ensures c.if-is_operator.true

pub returns-then-text_tag-eq-OPERATOR : goal.returns-then-text_tag-eq-OPERATOR
returns-then-text_tag-eq-OPERATOR c = operator_unknown _ _ _ _ _ c.good_within.ensures c.if-not-good_within.false-raw _ c.text_part-name.ensures _ c.if-text_tag-eq-COMMAND.false c.if-text_tag-eq-OPERATOR.true c.is_operator.ensures c.if-is_operator.false

pub returns : goal.returns
returns c = text_any _ _ _ _ _ c.good_within.ensures c.if-not-good_within.false-raw c.if-text_tag-eq-COMMAND.false c.if-text_tag-eq-OPERATOR.false
