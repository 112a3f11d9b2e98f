-- `replay::targets::resolve_agrees` meets its contract.
use Rattle.replay.proofs.Comparing.{targets-recorded}
use borrow.Author.Rules.{rules}
use Rattle.replay.proofs.targets.resolve_agrees.Goals as goal

pub returns : goal.returns
returns c = search (rules, targets-recorded)
