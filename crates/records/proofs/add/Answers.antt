-- `records::add` meets its contract.
use borrow.Author.Rules.{rules}
use Rattle.records.proofs.ByKind.{after-container, after_list, after-other}
use Rattle.records.proofs.add.Goals as goal

pub returns-in-1 : goal.returns-in-1
returns-in-1 c = after-container _ _ (search rules)

pub returns-in-12 : goal.returns-in-12
returns-in-12 c = after_list _ _ (search rules)

pub returns-in_default : goal.returns-in_default
returns-in_default c = after-other _ _ c.in_default.in_default-own.rest.0.1 c.in_default.in_default-own.rest.1
