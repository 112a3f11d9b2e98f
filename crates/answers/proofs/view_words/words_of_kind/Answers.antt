-- `answers::view_words::words_of_kind` meets its contract.
use mathlib.Core.Path.{ap}
use Rattle.answers.specs.RecordWords.{eight_of}
use Rattle.answers.proofs.ViewWords.{container-words, choice-words}
use borrow.Author.Rules.{rules}
use Rattle.answers.proofs.view_words.words_of_kind.Goals as goal

pub returns-in-Container : goal.returns-in-Container
returns-in-Container c = search (rules, container-words)

pub returns-in-ChoicePoint : goal.returns-in-ChoicePoint
returns-in-ChoicePoint c = search (rules, choice-words)

pub returns-in-ControlCommand : goal.returns-in-ControlCommand
returns-in-ControlCommand c = rw c.in-ControlCommand.is (ap eight_of c.command.ensures)

pub returns-in-Divert : goal.returns-in-Divert
returns-in-Divert c = rw (c.in-Divert.is, ← c.divert_flags.ensures, ← c.word_or.ensures, ← c.span_or-in-Divert.ensures, ← c.span_or.ensures) c.divert.ensures

pub returns-in-Glue : goal.returns-in-Glue
returns-in-Glue c = rw c.in-Glue.is (ap eight_of c.value_alone.ensures)

pub returns-in-NativeFunction : goal.returns-in-NativeFunction
returns-in-NativeFunction c = rw c.in-NativeFunction.is (ap eight_of c.operator.ensures)

pub returns-in-Tag : goal.returns-in-Tag
returns-in-Tag c = rw c.in-Tag.is (ap eight_of c.text_alone.ensures)

pub returns-in-Value : goal.returns-in-Value
returns-in-Value c = rw c.in-Value.is c.words_of_value.ensures

pub returns-in-VariableAssignment : goal.returns-in-VariableAssignment
returns-in-VariableAssignment c = rw c.in-VariableAssignment.is (ap eight_of c.assignment.ensures)

pub returns-in-VariableReference : goal.returns-in-VariableReference
returns-in-VariableReference c = rw (c.in-VariableReference.is, ← c.word_or-in-VariableReference.ensures) (ap eight_of c.text_alone-in-VariableReference.ensures)

pub returns-in-Void : goal.returns-in-Void
returns-in-Void c = rw c.in-Void.is (ap eight_of c.value_alone-in-Void.ensures)
