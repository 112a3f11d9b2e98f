-- `write_tree_sections::named::put_named_of` meets its contract.
use Rattle.words.proofs.EntryLoop.{three-room, three-next, run_start, run_put}
use native.Mathlib.Omega.{arith}
use mathlib.Core.Path.{refl}
use Rattle.write_tree_sections.proofs.NamedWords.{named-words-length}
use Rattle.write_tree_sections.proofs.named.put_named_of.Goals as goal

pub loop-j-init : goal.loop-j-init
loop-j-init c =
    let to = c.args in
    run_start _ _ _ _ (omega (arith, named-words-length to.named.now to.work.now to.new to.text to.first to.count)) _ refl

pub put_words-requires : goal.put_words-requires
put_words-requires c = three-room _ _ _ _ _ _ _ _ _ c.loop-j.invariant c.loop-j-test.true

pub overflow_add-place : goal.overflow_add-place
overflow_add-place c =
    let loop = c.loop-j in
    let test = c.loop-j-test in
    let h = three-room _ _ _ _ _ _ _ _ _ loop.invariant test.true in omega arith

pub loop-j-preserved : goal.loop-j-preserved
loop-j-preserved c =
    let loop = c.loop-j in
    let test = c.loop-j-test in
    let word = c.word in
    let new-number = c.new_number-node in
    let word2 = c.word-in-loop-j in
    let word3 = c.word-in-loop-j-2 in
    three-next _ _ _ _ _ _ _ _ _ loop.invariant word2.result word3.result new-number.result _ test.true word2.ensures word3.ensures
    (rw (← word.ensures) new-number.ensures) c.put_words.ensures

pub returns : goal.returns
returns c = run_put _ _ _ _ _ _ _ c.loop-j.invariant c.loop-j-test.false
