-- `write_list_sections::payload::put_list_origins` meets its contract.
use mathlib.Core.Path.{refl}
use native.Mathlib.Omega.{arith}
use Rattle.words.proofs.EntryLoop.{run_next, run_put}
use Rattle.write_list_sections.proofs.ListLoops.{origins-start, origins-room, origin-words}
use Rattle.write_list_sections.proofs.payload.put_list_origins.Goals as goal

pub loop-j-init : goal.loop-j-init
loop-j-init c = origins-start _ _ _ _ _ _ _ c.requires.1

pub put_words-requires : goal.put_words-requires
put_words-requires c = origins-room _ _ _ _ _ _ _ _ _ _ c.loop-j.invariant c.loop-j-test.true

pub overflow_add-place : goal.overflow_add-place
overflow_add-place c =
    let loop = c.loop-j in
    let test = c.loop-j-test in
    omega (arith, origins-room _ _ _ _ _ _ _ _ _ _ loop.invariant test.true)

pub loop-j-preserved : goal.loop-j-preserved
loop-j-preserved c =
    let loop = c.loop-j in
    let test = c.loop-j-test in
    let word = c.word-offset in
    let payload-get = c.payload_get-len in
    run_next _ _ _ _ _ _ _ loop.invariant _ _ _ test.true (origin-words _ _ _ _ _ _ _ word.ensures payload-get.ensures)
    c.put_words.ensures refl

pub returns : goal.returns
returns c = run_put _ _ _ _ _ _ _ c.loop-j.invariant c.loop-j-test.false
