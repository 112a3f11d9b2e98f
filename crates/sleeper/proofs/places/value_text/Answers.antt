-- `sleeper::places::value_text` meets its contract.
use Rattle.sleeper.proofs.TextPlaces.{string-text, target-text, pointer_text}
use borrow.Author.Rules.{rules}
use Rattle.sleeper.proofs.places.value_text.Goals as goal

pub returns-in-String : goal.returns-in-String
returns-in-String c = search (rules, string-text)

pub returns-in-DivertTarget : goal.returns-in-DivertTarget
returns-in-DivertTarget c = search (rules, target-text)

pub returns-in-VariablePointer : goal.returns-in-VariablePointer
returns-in-VariablePointer c = search (rules, pointer_text)
