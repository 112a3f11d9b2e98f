-- `write_list_sections::payload::put_list_items` meets its contract.
use native.Mathlib.Omega.{arith}
use Rattle.write_list_sections.proofs.ListLoops.{list-start, list-room, list_inside, list-next, list_end}
use Rattle.write_list_sections.proofs.payload.put_list_items.Goals as goal

pub loop-j-init : goal.loop-j-init
loop-j-init c = list-start _ _ _ _ _ _ _ c.requires.count_in_bounds c.requires.count_in_bounds_2

pub overflow_add-name : goal.overflow_add-name
overflow_add-name c = omega (arith, list_inside _ _ _ _ _ _ _ _ _ _ _ c.loop-j.invariant c.loop-j-test.true _ _ c.payload_get-origin.ensures c.text_count.ensures)

pub put_words-requires : goal.put_words-requires
put_words-requires c =
    let loop = c.loop-j in
    let test = c.loop-j-test in
    list-room _ _ _ _ _ _ _ _ _ _ _ loop.invariant test.true

pub overflow_add-k : goal.overflow_add-k
overflow_add-k c =
    let loop = c.loop-j in
    let test = c.loop-j-test in
    let payload-get = c.payload_get-origin in
    let text-count = c.text_count in
    omega (arith, list_inside _ _ _ _ _ _ _ _ _ _ _ loop.invariant test.true _ _ payload-get.ensures text-count.ensures)

pub overflow_add-place : goal.overflow_add-place
overflow_add-place c =
    let loop = c.loop-j in
    let test = c.loop-j-test in
    omega (arith, list-room _ _ _ _ _ _ _ _ _ _ _ loop.invariant test.true)

pub loop-j-preserved : goal.loop-j-preserved
loop-j-preserved c =
    let loop = c.loop-j in
    let test = c.loop-j-test in
    let payload-get = c.payload_get-origin in
    let text-count = c.text_count in
    let payload-get2 = c.payload_get in
    let word = c.word in
    let payload-get3 = c.payload_get-in-loop-j in
    let payload-get4 = c.payload_get-in-loop-j-2 in
    list-next _ _ _ _ _ _ _ _ _ _ _ loop.invariant test.true _ _ payload-get.ensures text-count.ensures _ _ _ _ _ c.optional_offset.ensures
    payload-get2.ensures word.ensures payload-get3.ensures payload-get4.ensures _ c.put_words.ensures

pub returns : goal.returns
returns c = list_end _ _ _ _ _ _ _ _ _ _ _ c.loop-j.invariant c.loop-j-test.false
