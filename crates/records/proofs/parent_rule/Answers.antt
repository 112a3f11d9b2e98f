-- `records::parent_rule` meets its contract.
use borrow.Author.Rules.{rules}
use Rattle.records.proofs.ByKind.{parent_of_root, parent-missing, parent-self, parent-right}
use Rattle.records.proofs.parent_rule.Goals as goal

pub returns-then-i-eq0 : goal.returns-then-i-eq0
returns-then-i-eq0 c = parent_of_root _ _ _ _ (search rules)

pub returns-then-not-is_container : goal.returns-then-not-is_container
returns-then-not-is_container c = parent-missing _ _ _ _ (search rules) _ c.is_container.ensures c.if-not-is_container.true-raw

pub returns-then-node-i : goal.returns-then-node-i
returns-then-node-i c = parent-self _ _ _ _ (search rules) _ c.is_container.ensures c.if-not-is_container.false-raw c.if-node-i.true

pub returns : goal.returns
returns c = parent-right _ _ _ _ (search rules) _ c.is_container.ensures c.if-not-is_container.false-raw c.if-node-i.false
