-- `sleeper::places::kind_text` meets its contract.
use Rattle.sleeper.proofs.TextPlaces.{container-name, divert-path, tag_text, value-text, assignment_text, reference-text}
use borrow.Author.Rules.{rules}
use Rattle.sleeper.proofs.places.kind_text.Goals as goal

pub returns-in-Container : goal.returns-in-Container
returns-in-Container c = search (rules, container-name)

pub returns-in-Divert : goal.returns-in-Divert
returns-in-Divert c = search (rules, divert-path)

pub returns-in-Tag : goal.returns-in-Tag
returns-in-Tag c = search (rules, tag_text)

pub returns-in-Value : goal.returns-in-Value
returns-in-Value c = search (rules, value-text)

pub returns-in-VariableAssignment : goal.returns-in-VariableAssignment
returns-in-VariableAssignment c = search (rules, assignment_text)

pub returns-in-VariableReference : goal.returns-in-VariableReference
returns-in-VariableReference c = search (rules, reference-text)
