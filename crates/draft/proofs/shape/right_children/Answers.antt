-- `draft::shape::right_children` meets its contract. The invariant: the tests so far pass.
use Prim.Native.Nat.{ℕ}
use mathlib.Core.Path.{ap, ◌∙◌}
use borrow.Author.Rules.{rules}
use mathlib.Core.List.{[]}
use Rattle.tree.specs.Tree.{right_child}
use Rattle.draft.specs.Source.{draft_of}
use Rattle.draft.proofs.Runs.{all_starts, all_stops, all_goes, all_ends}
use Rattle.draft.proofs.shape.right_children.Goals as goal

pub loop-j-init : goal.loop-j-init
loop-j-init c = (search rules, all_starts _)

pub returns-then-not-right_child : goal.returns-then-not-right_child
returns-then-not-right_child c =
    let loop = c in
    let to = loop.args in
    let s = draft_of to.source.version to.nodes.now [] [] [] [] [] [] in
    let right = c.right_child.ensures ∙ ap (λ (x : ℕ). right_child s x to.id loop.loop-j.j) c.word-child.ensures in
    all_stops _ _ _ right _ c.loop-j-test.true c.if-not-right_child.true-raw

pub loop-j-preserved : goal.loop-j-preserved
loop-j-preserved c =
    let loop = c in
    let to = loop.args in
    let s = draft_of to.source.version to.nodes.now [] [] [] [] [] [] in
    let right = c.right_child.ensures ∙ ap (λ (x : ℕ). right_child s x to.id loop.loop-j.j) c.word-child.ensures in
    (search rules, all_goes _ _ _ right loop.loop-j.invariant.1 c.if-not-right_child.false-raw)

pub returns : goal.returns
returns c = all_ends _ _ _ c.loop-j.invariant.0 c.loop-j-test.false c.loop-j.invariant.1
