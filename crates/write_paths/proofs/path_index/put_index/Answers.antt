-- `write_paths::path_index::put_index` meets its contract.
use native.Mathlib.Omega.{arith}
use Rattle.words.proofs.EntryLoop.{three-room, three-next}
use Rattle.write_paths.proofs.PathIndex.{begin, finish}
use Rattle.write_paths.proofs.path_index.put_index.Goals as goal

pub loop-k-init : goal.loop-k-init
loop-k-init c = let to = c in begin to.args.work.now to.args.layout to.args.count to.args.out.now to.requires.count_in_bounds

pub put_words-requires : goal.put_words-requires
put_words-requires c =
    let test = c in
    three-room _ _ _ _ _ _ _ _ _ test.loop-k.invariant test.loop-k-test.true

pub overflow_add-at : goal.overflow_add-at
overflow_add-at c =
    let test = c in
    let h = three-room _ _ _ _ _ _ _ _ _ test.loop-k.invariant test.loop-k-test.true in
    omega (arith, test.loop-k.invariant.long, test.well_formed.1.1.1.0)

pub loop-k-preserved : goal.loop-k-preserved
loop-k-preserved c =
    let new = c.word-in-loop-k-2 in
    let size = c.word-in-loop-k in
    let offset = c.word in
    let node = c.word-node.ensures in
    let test = c in
    three-next _ _ _ _ _ _ _ _ _ test.loop-k.invariant offset.result size.result new.result _ test.loop-k-test.true
    offset.ensures (rw (← node) size.ensures) (rw (← node) new.ensures) c.put_words.ensures

pub returns : goal.returns
returns c = λ s order kept all below place news nodes lengths offs. let a = c.args in finish s order kept a.work.now a.layout a.count all below place news nodes lengths offs _ _ _ _ c.loop-k.invariant c.loop-k-test.false
