-- `write_image::put_sections` meets its contract.
use mathlib.Core.Path.{refl}
use native.Mathlib.Omega.{arith}
use Rattle.write_image.proofs.SectionRuns.{run_tree, run_lists, run_texts, tree-ready, lists-ready, texts-ready, runs_put}
use Rattle.write_image.proofs.put_sections.Goals as goal

pub put_tree-text-requires : goal.put_tree-text-requires
put_tree-text-requires c = tree-ready _ _ _ _ _ _ _ _ _ _ _ _ _ c.requires

pub slice_bounds-put_lists-count : goal.slice_bounds-put_lists-count
slice_bounds-put_lists-count c =
    let r = c.requires in
    omega (arith, run_tree _ _ _ _ _ _ _ _ _ _ _ _ _ r, run_lists _ _ _ _ _ _ _ _ _ _ _ _ _ r, run_texts _ _ _ _ _ _ _ _ _ _ _ _ _ r)

pub slice_bounds-put_lists-start : goal.slice_bounds-put_lists-start
slice_bounds-put_lists-start c =
    let r = c.requires in
    omega (arith, run_tree _ _ _ _ _ _ _ _ _ _ _ _ _ r, run_lists _ _ _ _ _ _ _ _ _ _ _ _ _ r, run_texts _ _ _ _ _ _ _ _ _ _ _ _ _ r)

pub put_lists-requires : goal.put_lists-requires
put_lists-requires c =
    let r = c.requires in
    let text = (c.put_tree-text.ensures _ _ _ r.told).1 in
    lists-ready _ _ _ _ _ _ _ _ _ _ _ _ _ r _ _ text (omega (arith, run_tree _ _ _ _ _ _ _ _ _ _ _ _ _ r, run_texts _ _ _ _ _ _ _ _ _ _ _ _ _ r))

pub slice_bounds-put_texts-count : goal.slice_bounds-put_texts-count
slice_bounds-put_texts-count c =
    let r = c.requires in
    omega (arith, run_tree _ _ _ _ _ _ _ _ _ _ _ _ _ r, run_lists _ _ _ _ _ _ _ _ _ _ _ _ _ r, run_texts _ _ _ _ _ _ _ _ _ _ _ _ _ r)

pub slice_bounds-put_texts-start : goal.slice_bounds-put_texts-start
slice_bounds-put_texts-start c =
    let r = c.requires in
    omega (arith, run_tree _ _ _ _ _ _ _ _ _ _ _ _ _ r, run_lists _ _ _ _ _ _ _ _ _ _ _ _ _ r, run_texts _ _ _ _ _ _ _ _ _ _ _ _ _ r)

pub put_texts-requires : goal.put_texts-requires
put_texts-requires c =
    let r = c.requires in
    texts-ready _ _ _ _ _ _ _ _ _ _ _ _ _ r _
    (omega (arith, run_tree _ _ _ _ _ _ _ _ _ _ _ _ _ r, run_lists _ _ _ _ _ _ _ _ _ _ _ _ _ r, run_texts _ _ _ _ _ _ _ _ _ _ _ _ _ r))

pub returns : goal.returns
returns c =
    let r = c.requires in
    let put-tree = c.put_tree-text in
    let put-lists = c.put_lists in
    let first = put-tree.ensures _ _ _ r.told in
    let second = put-lists.ensures _ _ _ _ _ _ r.told
    first.1 r.indexed in
    let third = c.put_texts.ensures _ _ _ _ r.told
    r.keyed in runs_put _ _ _ _ _ _ _ _ _ _ _ _ _ r _ _ _ _ _ refl first.0 second refl third
