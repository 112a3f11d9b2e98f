-- `utf8::four` meets its contract.
use borrow.Author.Rules.{rules}
use Rattle.utf8.proofs.Table.{next_fits, next_differs, next-missing, none_left}
use Rattle.utf8.proofs.four.Goals as goal

pub returns-then-s-at-lt4 : goal.returns-then-s-at-lt4
returns-then-s-at-lt4 c = search (rules, next-missing)

pub returns-then-not-lies : goal.returns-then-not-lies
returns-then-not-lies c = search (rules, next_fits, next_differs)

pub returns-then-not-lies-2 : goal.returns-then-not-lies-2
returns-then-not-lies-2 c = search (rules, next_fits, next_differs)

pub returns-then-not-lies-3 : goal.returns-then-not-lies-3
returns-then-not-lies-3 c = search (rules, next_fits, next_differs)

pub returns : goal.returns
returns c = search (rules, next_fits, none_left)
