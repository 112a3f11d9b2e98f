-- `replay::targets::same` meets its contract.
use Rattle.replay.proofs.Comparing.{answer-unlike, nodes_compared}
use Rattle.replay.proofs.targets.same.Goals as goal

pub returns-then-ours-number : goal.returns-then-ours-number
returns-then-ours-number c = answer-unlike _ _ _ _ c.if-ours-number.true

pub returns : goal.returns
returns c = nodes_compared _ _ _ _ _ c.if-ours-number.false c.same_words.ensures
