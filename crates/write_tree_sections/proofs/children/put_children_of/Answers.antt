-- `write_tree_sections::children::put_children_of` meets its contract.
use Rattle.words.proofs.EntryLoop.{word_room, word_next, run_start, run_put}
use mathlib.Core.Path.{refl}
use native.Mathlib.Omega.{arith}
use Rattle.write_tree_sections.proofs.ChildWords.{child-words-length}
use Rattle.write_tree_sections.proofs.children.put_children_of.Goals as goal

pub loop-j-init : goal.loop-j-init
loop-j-init c =
    let to = c.args in
    run_start _ _ _ _ (omega (arith, child-words-length to.children.now to.work.now to.new to.first to.count)) _ refl

pub put_word-requires : goal.put_word-requires
put_word-requires c = word_room _ _ _ _ _ _ _ c.loop-j.invariant c.loop-j-test.true

pub overflow_add-place : goal.overflow_add-place
overflow_add-place c = let h = word_room _ _ _ _ _ _ _ c.loop-j.invariant c.loop-j-test.true in omega arith

pub loop-j-preserved : goal.loop-j-preserved
loop-j-preserved c =
    let loop = c.loop-j in
    let test = c.loop-j-test in
    let word = c.word-old in
    let new-number = c.new_number-child in
    word_next _ _ _ _ _ _ _ loop.invariant new-number.result _ test.true (rw (← word.ensures) new-number.ensures)
    c.put_word.ensures

pub returns : goal.returns
returns c = run_put _ _ _ _ _ _ _ c.loop-j.invariant c.loop-j-test.false
