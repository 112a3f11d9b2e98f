-- `sleeper::view::kind_seen` meets its contract.
use Rattle.sleeper.proofs.SeenKinds.{container-seen, choice-seen, command_seen, divert-seen, operator_seen, tag_seen, value-kind-seen, assignment_seen, reference-seen}
use borrow.Author.Rules.{rules}
use Rattle.sleeper.proofs.view.kind_seen.Goals as goal

pub returns-in-Container : goal.returns-in-Container
returns-in-Container c = search (rules, container-seen)

pub returns-in-ChoicePoint : goal.returns-in-ChoicePoint
returns-in-ChoicePoint c = search (rules, choice-seen)

pub returns-in-ControlCommand : goal.returns-in-ControlCommand
returns-in-ControlCommand c = search (rules, command_seen)

pub returns-in-Divert : goal.returns-in-Divert
returns-in-Divert c = search (rules, divert-seen)

pub returns-in-Glue : goal.returns-in-Glue
returns-in-Glue c = cc

pub returns-in-NativeFunction : goal.returns-in-NativeFunction
returns-in-NativeFunction c = search (rules, operator_seen)

pub returns-in-Tag : goal.returns-in-Tag
returns-in-Tag c = search (rules, tag_seen)

pub returns-in-Value : goal.returns-in-Value
returns-in-Value c = search (rules, value-kind-seen)

pub returns-in-VariableAssignment : goal.returns-in-VariableAssignment
returns-in-VariableAssignment c = search (rules, assignment_seen)

pub returns-in-VariableReference : goal.returns-in-VariableReference
returns-in-VariableReference c = search (rules, reference-seen)

pub returns-in-Void : goal.returns-in-Void
returns-in-Void c = cc
