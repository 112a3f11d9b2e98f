-- `replay::loads::agrees_with` meets its contract.
use Rattle.replay.proofs.Comparing.{load-recorded}
use borrow.Author.Rules.{rules}
use Rattle.replay.proofs.loads.agrees_with.Goals as goal

pub returns : goal.returns
returns c = search (rules, load-recorded)
