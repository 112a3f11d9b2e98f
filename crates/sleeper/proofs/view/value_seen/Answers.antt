-- `sleeper::view::value_seen` meets its contract.
use Rattle.sleeper.proofs.SeenKinds.{int_seen, pointer_seen}
use borrow.Author.Rules.{rules}
use Rattle.sleeper.proofs.view.value_seen.Goals as goal

pub returns-in-Bool : goal.returns-in-Bool
returns-in-Bool c = cc

pub returns-in-Int : goal.returns-in-Int
returns-in-Int c = search (rules, int_seen)

pub returns-in-Float : goal.returns-in-Float
returns-in-Float c = cc

pub returns-in-VariablePointer : goal.returns-in-VariablePointer
returns-in-VariablePointer c = search (rules, pointer_seen)
