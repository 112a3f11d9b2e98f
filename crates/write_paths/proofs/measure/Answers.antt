-- `write_paths::measure` meets its contract.
use mathlib.Core.Path.{refl, ◌∙◌}
use native.Mathlib.Omega.{arith}
use Rattle.write_paths.proofs.LengthLoop.{measure_start, measure_node, measure_room, measure_next, measure_end}
use Rattle.write_paths.proofs.Parents.{sum_fits, size-next}
use borrow.Author.Rules.{rules}
use Rattle.write_paths.proofs.measure.Goals as goal

pub loop-i-init : goal.loop-i-init
loop-i-init c = (measure_start _ _ _ _ _ _, λ k h. absurd (omega arith))

pub path_length-len-requires : goal.path_length-len-requires
path_length-len-requires c =
    let start = c in
    let to = start.args in
    let at = c in
    let taken = c.loop-i-test.true in
    let named = c.word-node.ensures ∙ measure_node _ _ _ _ _ _ start.requires.found_bound.0 start.requires.found_bound.1 start.requires.by_index _ _ at.loop-i.invariant.0 taken in
    record {
      lengths_in_bounds = search rules;
      x_bound = sum_fits to.source.version to.nodes.now to.w.now to.list to.found start.requires.parents_first to.table to.count start.requires.found_bound.2 start.requires.found_bound.3 at.loop-i.w at.loop-i.i at.loop-i.invariant.0 at.loop-i.invariant.1 taken c.word-node.result named;
    }

pub bounds-w-at : goal.bounds-w-at
bounds-w-at c =
    let start = c in
    let at = c in
    let room = measure_room _ _ _ _ _ _ start.requires.found_bound.0 start.requires.found_bound.1 start.requires.by_index _ _ at.loop-i.invariant.0 c.loop-i-test.true _ c.word-node.ensures in
    search rules

pub bounds-w-at-in-loop-i : goal.bounds-w-at-in-loop-i
bounds-w-at-in-loop-i c =
    let start = c in
    let at = c in
    let room = measure_room _ _ _ _ _ _ start.requires.found_bound.0 start.requires.found_bound.1 start.requires.by_index _ _ at.loop-i.invariant.0 c.loop-i-test.true _ c.word-node.ensures in
    search rules

pub loop-i-preserved : goal.loop-i-preserved
loop-i-preserved c =
    let start = c in
    let to = start.args in
    let at = c in
    let taken = c.loop-i-test.true in
    let word = c.word-node in
    let named = word.ensures ∙ measure_node _ _ _ _ _ _ start.requires.found_bound.0 start.requires.found_bound.1 start.requires.by_index _ _ at.loop-i.invariant.0 taken in
    let measured = c.path_length-len in
    let next = size-next to.source.version to.nodes.now to.w.now to.list to.found start.requires.parents_first to.table to.count start.requires.found_bound.2 start.requires.found_bound.3 at.loop-i.w at.loop-i.i at.loop-i.invariant.0 at.loop-i.invariant.1 taken word.result named measured.result measured.ensures.answer measured.ensures.bound in
    (measure_next _ _ _ _ _ _ start.requires.found_bound.0 start.requires.found_bound.1 start.requires.by_index _ _ at.loop-i.invariant.0 taken _ word.ensures _ _ _ next.0 refl refl, next.1)

pub returns : goal.returns
returns c = measure_end _ _ _ _ _ _ _ _ c.loop-i.invariant.0 (search rules)
