-- `sleeper::places::kind_variable` meets its contract.
use Rattle.sleeper.proofs.TextPlaces.{divert-variable}
use borrow.Author.Rules.{rules}
use Rattle.sleeper.proofs.places.kind_variable.Goals as goal

pub returns-in-Divert : goal.returns-in-Divert
returns-in-Divert c = search (rules, divert-variable)
