-- `answers::view_words::words_of_value` meets its contract.
use mathlib.Core.Path.{ap}
use Rattle.answers.specs.RecordWords.{eight_of}
use Rattle.answers.proofs.ViewWords.{int_words, pointer_words}
use borrow.Author.Rules.{rules}
use Rattle.answers.proofs.view_words.words_of_value.Goals as goal

pub returns-in-Bool : goal.returns-in-Bool
returns-in-Bool c = rw (c.in-Bool.is, ← c.bit_if.ensures.value) (ap eight_of c.value_alone.ensures)

pub returns-in-Int : goal.returns-in-Int
returns-in-Int c = search (rules, int_words)

pub returns-in-Float : goal.returns-in-Float
returns-in-Float c = rw c.in-Float.is (ap eight_of c.value_alone-in-Float.ensures)

pub returns-in-String : goal.returns-in-String
returns-in-String c = rw c.in-String.is (ap eight_of c.text_alone.ensures)

pub returns-in-List : goal.returns-in-List
returns-in-List c = rw c.in-List.is (ap eight_of c.text_alone-in-List.ensures)

pub returns-in-DivertTarget : goal.returns-in-DivertTarget
returns-in-DivertTarget c = rw c.in-DivertTarget.is (ap eight_of c.text_alone-in-DivertTarget.ensures)

pub returns-in-VariablePointer : goal.returns-in-VariablePointer
returns-in-VariablePointer c = search (rules, pointer_words)
