-- `write_paths::gather` meets its contract.
use Rattle.write_paths.proofs.WordLoop.{fill_start, fill_end, gather_next}
use borrow.Author.Rules.{rules}
use Rattle.write_paths.proofs.gather.Goals as goal

pub loop-i-init : goal.loop-i-init
loop-i-init c = fill_start _ _ _ _

pub loop-i-preserved : goal.loop-i-preserved
loop-i-preserved c =
    gather_next _ _ _ c.requires.0 _ _ c.loop-i-test.true
    c.loop-i.invariant _ _ c.word-at.ensures c.word.ensures

pub returns : goal.returns
returns c = fill_end _ _ _ _ _ _ c.loop-i.invariant (search rules)
