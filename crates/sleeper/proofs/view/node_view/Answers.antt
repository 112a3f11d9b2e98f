-- `sleeper::view::node_view` meets its contract.
use mathlib.Core.Path.{◌∙◌}
use Rattle.sleeper.proofs.SeenKinds.{seen-missing, seen-there}
use borrow.Author.Rules.{rules}
use Rattle.sleeper.proofs.view.node_view.Goals as goal

pub returns-in_err-node : goal.returns-in_err-node
returns-in_err-node c = c.from_residual.ensures ∙ search (rules, seen-missing)

pub returns : goal.returns
returns c = search (rules, seen-there)
