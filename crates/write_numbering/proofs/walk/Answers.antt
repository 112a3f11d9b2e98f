-- `write_numbering::walk` meets its contract.
use mathlib.Core.Path.{refl, ◌∙◌}
use Prim.Native.Nat.{◌+◌, ◌*◌, ◌-◌, ◌<◌}
use native.Mathlib.Omega.{arith}
use lib.ListN.{get_or, length-set}
use Rattle.image.specs.Sections.{Sections, text_entry_words, child_word, named_word}
use Rattle.write_numbering.specs.Work.{tree_of}
use Rattle.write_numbering.proofs.WalkMarks.{InWords}
use Rattle.write_numbering.proofs.WorkWords.{read-start, read_end, read_below, read-skip, read_few, read-room, read-less, read-entered}
use Rattle.write_numbering.proofs.walk.Goals.{In-loop-depth}
use Rattle.write_numbering.proofs.walk.Goals as goal

-- the node on top of the stack is one of the draft's
top_below : (c : In-loop-depth) → get_or c.loop-depth.work (c.args.count + (c.loop-depth.depth - 1)) 0 < c.args.count
top_below c = read_below _ _ c.requires.fact.2 c.requires.fact.0 c.requires.fact.1 c.args.work.now _ _ _ c.loop-depth.invariant _ c.loop-depth-test.true refl

pub loop-depth-init : goal.loop-depth-init
loop-depth-init c =
    read-start _ _ c.requires.fact.2 c.requires.fact.0 c.requires.fact.1 c.args.work.now c.requires.fact.3 c.requires.by_index

pub offset_bounds-work-id : goal.offset_bounds-work-id
offset_bounds-work-id c =
    omega (arith, top_below (goal.at.offset_bounds-work-id c).In-loop-depth)

pub bounds-work-id : goal.bounds-work-id
bounds-work-id c =
    omega (arith, top_below (goal.at.bounds-work-id c).In-loop-depth)

pub overflow_add-taken : goal.overflow_add-taken
unfolding child_word named_word
overflow_add-taken c =
    let Tree : Sections = tree_of c.args.source.version c.args.nodes.now c.args.children.now c.args.named.now in
    let in_words : InWords Tree = record {
      child = λ j. omega (arith, c.shared_slice_known-2-1.given j);
      named = λ j. omega (arith, c.shared_slice_known-3-1.given (j * text_entry_words + 2));
    } in
    omega (arith, read_few _ _ c.requires.fact.2 c.requires.fact.0 c.requires.fact.1 c.args.work.now _ _ _ c.loop-depth.invariant _ c.loop-depth-test.true refl c.if-work-id-eq0.true in_words)

pub offset_bounds-work-id-then-work-id-eq0 : goal.offset_bounds-work-id-then-work-id-eq0
offset_bounds-work-id-then-work-id-eq0 c =
    omega (arith, top_below (goal.at.offset_bounds-work-id-then-work-id-eq0 c).In-loop-depth)

pub bounds-work-id-then-work-id-eq0 : goal.bounds-work-id-then-work-id-eq0
bounds-work-id-then-work-id-eq0 c =
    omega (arith, top_below (goal.at.bounds-work-id-then-work-id-eq0 c).In-loop-depth)

pub enter-depth-requires : goal.enter-depth-requires
enter-depth-requires c =
    let room = read-room _ _ c.requires.fact.2 c.requires.fact.0 c.requires.fact.1 c.args.work.now _ _ _ c.loop-depth.invariant _ c.loop-depth-test.true refl c.if-work-id-eq0.true in
    (c.requires.fact.0, omega (arith, top_below (goal.at.enter-depth-requires c).In-loop-depth, c.requires.fact.2), room)

pub loop-depth-smaller-then-work-id-eq0 : goal.loop-depth-smaller-then-work-id-eq0
loop-depth-smaller-then-work-id-eq0 c =
    read-less _ _ c.requires.fact.2 c.requires.fact.0 c.requires.fact.1 c.args.work.now _ _ _ c.loop-depth.invariant _ c.loop-depth-test.true refl c.if-work-id-eq0.true _ _
    c.enter-depth.ensures c.enter-depth.auto.work

pub loop-depth-preserved-then-work-id-eq0 : goal.loop-depth-preserved-then-work-id-eq0
loop-depth-preserved-then-work-id-eq0 c =
    read-entered _ _ c.requires.fact.2 c.requires.fact.0 c.requires.fact.1 c.args.work.now _ _ _ c.loop-depth.invariant _ c.loop-depth-test.true refl c.if-work-id-eq0.true _ _
    c.enter-depth.ensures c.enter-depth.auto.work

pub loop-depth-preserved : goal.loop-depth-preserved
loop-depth-preserved c =
    read-skip _ _ c.requires.fact.2 c.requires.fact.0 c.requires.fact.1 c.args.work.now _ _ _ c.loop-depth.invariant _ c.loop-depth-test.true refl c.if-work-id-eq0.false

pub shape_of-work : goal.shape_of-work
shape_of-work c = c.loop-depth.invariant.walking.long ∙ simp length-set

pub returns : goal.returns
returns c =
    read_end _ _ c.requires.fact.2 c.requires.fact.0 c.requires.fact.1 c.args.work.now _ _ _ c.loop-depth.invariant c.loop-depth-test.false
