-- `list_items::list_item` meets its contract.
use Prim.Native.Nat.{◌≤◌}
use mathlib.Core.Path.{sym, ap, ◌∙◌}
use native.Mathlib.Omega.{arith}
use lib.ListN.{length-take}
use borrow.Author.Rules.{rules}
use Rattle.lookups.specs.Lookup.{found_place}
use Rattle.list_items.proofs.Search.{definitions_few, origin-below, search_none, search_blank, search_plain, search_no_origin, search_origin}
use Rattle.list_items.proofs.list_item.Goals as goal

pub returns-then-view-eq0 : goal.returns-then-view-eq0
returns-then-view-eq0 c = c.no_search.ensures
    ∙ elim c.then-view-eq0.branch [
      | goal.then-view-eq0-via-then-view-eq0 w ↦ search_none _ _ w.if-view-eq0.true _
      | goal.then-view-eq0-via-else-view-eq0+then-is_blank w ↦ search_blank _ _ _ _ w.is_blank.ensures w.if-is_blank.true
    ]

pub last_item-requires : goal.last_item-requires
last_item-requires c = let few : c.args.view.definitions.count ≤ 4294967295 = omega (arith, c.struct_known-1.given) in
    record {
      count_in_bounds = search (rules, definitions_few _ c.args.view 4294967295 few _ c.section_part-definitions.ensures);
      count_bound = search (rules, definitions_few _ c.args.view 4294967295 few _ c.section_part-definitions.ensures);
    }

pub returns-then-name-dot : goal.returns-then-name-dot
returns-then-name-dot c = search_plain _ _ _ _ c.is_blank.ensures c.if-is_blank.false _ _ _ c.section_part-definitions.ensures c.section_part-items.ensures c.section_part-strings.ensures _ c.first_dot-dot.ensures _ c.if-name-dot.true c.last_item.ensures

pub slice_bounds-origin_at-end : goal.slice_bounds-origin_at-end
slice_bounds-origin_at-end c = simp length-take (omega arith)

pub slice_bounds-last_item-count : goal.slice_bounds-last_item-count
slice_bounds-last_item-count c = search (rules, origin-below _ _ _ _ (sym c.origin_at.ensures ∙ ap found_place c.in-Some.is))

pub last_item-requires-in-Some : goal.last_item-requires-in-Some
last_item-requires-in-Some c =
    let few : c.args.view.definitions.count ≤ 4294967295 = omega (arith, c.struct_known-1.given) in
    record {
      count_in_bounds = search (rules, origin-below _ _ _ _ (sym c.origin_at.ensures ∙ ap found_place c.in-Some.is), definitions_few _ c.args.view 4294967295 few _ c.section_part-definitions.ensures);
      count_bound = search (rules, origin-below _ _ _ _ (sym c.origin_at.ensures ∙ ap found_place c.in-Some.is), definitions_few _ c.args.view 4294967295 few _ c.section_part-definitions.ensures);
    }

pub returns-in-None : goal.returns-in-None
returns-in-None c =
    let origin = c in
    let dot = origin in
    c.no_search-in-None.ensures ∙ search_no_origin _ _ _ _ dot.is_blank.ensures dot.if-is_blank.false _ _ _ dot.section_part-definitions.ensures dot.section_part-items.ensures dot.section_part-strings.ensures _ dot.first_dot-dot.ensures origin.if-name-dot.false _ origin.origin_at.ensures (ap found_place c.in-None.is)

pub returns-in-Some : goal.returns-in-Some
returns-in-Some c =
    let origin = c in
    let dot = origin in
    search_origin _ _ _ _ dot.is_blank.ensures dot.if-is_blank.false _ _ _ dot.section_part-definitions.ensures dot.section_part-items.ensures dot.section_part-strings.ensures _ dot.first_dot-dot.ensures origin.if-name-dot.false _ origin.origin_at.ensures _ (ap found_place c.in-Some.is) _ c.last_item-in-Some.ensures
