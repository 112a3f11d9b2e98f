-- `write_paths::list_containers` meets its contract.
use Rattle.write_paths.proofs.ContainerLoops.{list-start, list-take, list-skip, list_end}
use borrow.Author.Rules.{rules}
use Rattle.write_paths.proofs.list_containers.Goals as goal

pub loop-j-init : goal.loop-j-init
loop-j-init c = list-start _ _ _ _ _ _

pub loop-j-preserved : goal.loop-j-preserved
loop-j-preserved c =
    elim c.if-word_of-eq-CONTAINER.branch [
      | goal.then-word_of-eq-CONTAINER w ↦ rw (w.w-is, w.found-is) (list-take _ _ _ _ _ _ _ _ _ _ c.loop-j.invariant c.requires.0 c.loop-j-test.true c.word-node.ensures (search rules))
      | goal.else-word_of-eq-CONTAINER w ↦ rw (w.w-is, w.found-is) (list-skip _ _ _ _ _ _ _ _ _ _ c.loop-j.invariant c.requires.0 c.loop-j-test.true c.word-node.ensures (search rules))
    ]

pub returns : goal.returns
returns c =
    record {
      answer = (list_end _ _ _ _ _ _ _ _ _ c.loop-j.invariant (search rules)).0;
      words = (list_end _ _ _ _ _ _ _ _ _ c.loop-j.invariant (search rules)).1;
    }
