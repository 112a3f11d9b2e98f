-- `write_paths::sort_paths` meets its contract.
use mathlib.Core.Path.{◌∙◌}
use native.Mathlib.Omega.{arith}
use borrow.Author.Tests.{not-true, not-false}
use Rattle.write_paths.proofs.Parents.{parents-listed}
use Rattle.write_paths.proofs.PathOrder.{containers_few, listed_below, indexed-unplaced, indexed, indexed-twice}
use borrow.Author.Rules.{rules}
use Rattle.write_paths.proofs.sort_paths.Goals as goal

pub returns-then-not-all_placed : goal.returns-then-not-all_placed
returns-then-not-all_placed c =
    λ s olds en es z ec rooted known. indexed-unplaced s olds _ _ _ _ _ _ _ en es z ec rooted known _ (c.all_placed.ensures s en z) (not-true _ c.if-not-all_placed.true-raw)

pub measure-requires : goal.measure-requires
measure-requires c =
    let to = c in
    let listed = c.list_containers-found.ensures in
    let few = containers_few to.args.source.version to.args.nodes.now to.args.w.now to.args.layout.order to.args.count in
    let size = listed.answer in
    record {
      found_bound = search rules;
      by_index = λ k h. listed_below _ _ _ _ _ _ _ _ (search rules) to.requires.count_bound.3 to.requires.by_index.0 listed.answer listed.words k h;
      parents_first = parents-listed to.args.source.version to.args.nodes.now to.args.w.now to.args.layout.order to.args.count _ _ _ to.requires.by_index.1 listed.answer (search rules) listed.words;
    }

pub sort_list-requires : goal.sort_list-requires
sort_list-requires c =
    let to = c in
    let listed = c.list_containers-found in
    let few = containers_few to.args.source.version to.args.nodes.now to.args.w.now to.args.layout.order to.args.count in
    let size = listed.ensures.answer in
    let room = to.requires.count_bound in
    let long = c.measure.auto.w ∙ listed.auto.w in
    (omega (arith, few, size, room.0), omega (arith, few, size, room.1, room.2, room.3, long), omega (arith, room.2, room.3, long), omega (arith, few, size, to.requires.texts_value.2))

pub returns-then-sort_list : goal.returns-then-sort_list
returns-then-sort_list c =
    λ s olds en es z ec rooted known.
    let start = c in
    let to = start.args in
    let listed = c.list_containers-found.ensures in
    let measured = c.measure.ensures in
    let placed = c.all_placed.ensures s en z in
    let yes = not-false _ c.if-not-all_placed.false-raw in
    indexed s olds to.source.version to.nodes.now to.strings.now to.layout to.w.now to.layout.order to.count en es z ec rooted known
    start.requires.texts_value.0 (search rules) (search rules) (search rules) _ _ _ listed.answer listed.words measured _ placed yes _ _
    c.sort_list.ensures c.if-sort_list.true

pub returns-else-sort_list : goal.returns-else-sort_list
returns-else-sort_list c =
    λ s olds en es z ec rooted known.
    let start = c in
    let to = start.args in
    let listed = c.list_containers-found.ensures in
    let measured = c.measure.ensures in
    let placed = c.all_placed.ensures s en z in
    let yes = not-false _ c.if-not-all_placed.false-raw in
    indexed-twice s olds to.source.version to.nodes.now to.strings.now to.layout to.w.now to.layout.order to.count en es z ec rooted known
    start.requires.texts_value.0 (search rules) (search rules) (search rules) _ _ _ listed.answer listed.words measured _ placed yes _ _
    c.sort_list.ensures c.if-sort_list.false
