-- `records::used_up` meets its contract.
use borrow.Author.Rules.{rules}
use Rattle.records.proofs.ByKind.{used-children, used-named, used-payload}
use Rattle.records.proofs.used_up.Goals as goal

pub returns-then-sums-counts : goal.returns-then-sums-counts
returns-then-sums-counts c = used-children _ _ (search rules)

pub returns-then-sums-counts-2 : goal.returns-then-sums-counts-2
returns-then-sums-counts-2 c = used-named _ _ (search rules) (search rules)

pub returns : goal.returns
returns c = used-payload _ _ (search rules) (search rules)
