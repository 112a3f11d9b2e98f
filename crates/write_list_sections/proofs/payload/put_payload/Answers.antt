-- `write_list_sections::payload::put_payload` meets its contract.
use native.Mathlib.Omega.{arith}
use Rattle.write_list_sections.proofs.PayloadLoop.{pay_start, pay_order, pay_node, pay_asked, pay_texts, pay_next, pay_end}
use Rattle.write_list_sections.proofs.payload.put_payload.Goals as goal

pub loop-j-init : goal.loop-j-init
loop-j-init c = pay_start _ _ _ _ _ _ _ c.requires.payload_fits c.requires.words_in_bounds

pub overflow_add-order : goal.overflow_add-order
overflow_add-order c = omega (arith, pay_order _ _ _ _ _ _ _ _ _ _ _ c.loop-j.invariant (rw c.node_count-count.ensures at c.loop-j-test.true))

pub node_at-node-requires : goal.node_at-node-requires
node_at-node-requires c = pay_node _ _ _ _ _ _ _ _ _ _ _ c.loop-j.invariant (rw c.node_count-count.ensures at c.loop-j-test.true) _ c.word.ensures

pub put_node-at-requires : goal.put_node-at-requires
put_node-at-requires c =
    let loop = c.loop-j in
    let test = c.loop-j-test in
    let node-count = c.node_count-count in
    let below = rw node-count.ensures at test.true in
    let asked = pay_asked _ _ _ _ _ _ _ _ _ _ _ loop.invariant below _ c.word.ensures _ c.node_at-node.ensures in
    record { tag_in_bounds = asked.0; node_in_bounds = asked.1 }

pub overflow_add-text : goal.overflow_add-text
overflow_add-text c =
    let room =
    let loop = c.loop-j in
    let test = c.loop-j-test in
    let node-count = c.node_count-count in
    let below = rw node-count.ensures at test.true in
    let word = c.word in
    let node_at = c.node_at-node in
    pay_texts _ _ _ _ _ _ _ _ _ _ _ loop.invariant below _ word.ensures _ node_at.ensures _ c.texts_of-text.ensures in
    omega (arith, room)

pub loop-j-preserved : goal.loop-j-preserved
loop-j-preserved c =
    let loop = c.loop-j in
    let test = c.loop-j-test in
    let node-count = c.node_count-count in
    let below = rw node-count.ensures at test.true in
    let word = c.word in
    let node_at = c.node_at-node in
    let put-node = c.put_node-at in
    pay_next _ _ _ _ _ _ _ _ _ _ _ loop.invariant below _ word.ensures _ node_at.ensures _ _ put-node.ensures _ c.texts_of-text.ensures

pub returns : goal.returns
returns c = λ s olds kept e d p t q o. pay_end s _ _ _ _ _ _ olds kept _ _ _ _ _ c.loop-j.invariant (rw c.node_count-count.ensures at c.loop-j-test.false) e d p t q o
