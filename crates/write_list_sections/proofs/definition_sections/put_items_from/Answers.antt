-- `write_list_sections::definition_sections::put_items_from` meets its contract.
use mathlib.Core.Path.{refl}
use native.Mathlib.Omega.{arith}
use Rattle.words.proofs.EntryLoop.{run_next, run_put}
use Rattle.write_list_sections.proofs.DefinitionLoops.{items-start, items-room, item-words}
use Rattle.write_list_sections.proofs.definition_sections.put_items_from.Goals as goal

pub loop-i-init : goal.loop-i-init
loop-i-init c = items-start _ _ _ _ _ _ _ c.requires.1

pub put_words-requires : goal.put_words-requires
put_words-requires c = items-room _ _ _ _ _ _ _ _ _ _ c.loop-i.invariant c.loop-i-test.true

pub overflow_add-place : goal.overflow_add-place
overflow_add-place c =
    let loop = c.loop-i in
    let test = c.loop-i-test in
    omega (arith, items-room _ _ _ _ _ _ _ _ _ _ loop.invariant test.true)

pub loop-i-preserved : goal.loop-i-preserved
loop-i-preserved c =
    let loop = c.loop-i in
    let test = c.loop-i-test in
    let word = c.word-offset in
    let word2 = c.word-len in
    let word3 = c.word-value in
    run_next _ _ _ _ _ _ _ loop.invariant _ _ _ test.true (item-words _ _ _ _ _ _ _ _ word.ensures word2.ensures word3.ensures)
    c.put_words.ensures refl

pub returns : goal.returns
returns c = run_put _ _ _ _ _ _ _ c.loop-i.invariant c.loop-i-test.false
