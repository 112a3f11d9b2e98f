-- `list_items::last_item` meets its contract. The loop's invariant: the definitions before d are left to search.
use Prim.Native.Nat.{ℕ, ◌-◌}
use mathlib.Core.Path.{sym, ap, ◌∙◌}
use native.Mathlib.Omega.{arith}
use Rattle.lookups.specs.Lookup.{found_place}
use Rattle.list_items.proofs.Search.{item-inside, nowhere, sought_start, sought_end, sought_next, sought_found}
use Rattle.list_items.proofs.last_item.Goals as goal

pub loop-d-init : goal.loop-d-init
loop-d-init c = sought_start _ _ _ _ _ _ _ (omega arith)

pub overflow_add-item : goal.overflow_add-item
overflow_add-item c = omega (arith, item-inside _ _ _ _ _ _ c.in-Some.j (sym (ap found_place c.in-Some.is) ∙ c.place_of.ensures))

pub text_entry-requires : goal.text_entry-requires
text_entry-requires c = omega (arith, item-inside _ _ _ _ _ _ c.in-Some.j (sym (ap found_place c.in-Some.is) ∙ c.place_of.ensures))

pub returns-in-Some : goal.returns-in-Some
returns-in-Some c =
    let x = c.args in
    let left : ℕ = c.loop-d.d - 1 - x.first in
    sought_found _ _ _ _ _ _ (c.loop-d.d - x.first) left (c.loop-d.d - 1) (omega arith) (omega arith) c.loop-d.invariant _ c.definition_at-definition.ensures
    c.in-Some.j (sym (ap found_place c.in-Some.is) ∙ c.place_of.ensures) _ c.text_entry.ensures _ c.found.ensures _ (omega arith)

pub loop-d-preserved : goal.loop-d-preserved
loop-d-preserved c =
    let x = c.args in
    sought_next _ _ _ _ _ _ (c.loop-d.d - x.first) (c.loop-d.d - 1 - x.first) (c.loop-d.d - 1) (omega arith) (omega arith) c.loop-d.invariant _
    c.definition_at-definition.ensures
    (nowhere _ c.in_default.not-Some ∙ c.place_of.ensures)

pub returns : goal.returns
returns c = sought_end _ _ _ _ _ _ (c.loop-d.d - c.args.first) (omega arith) c.loop-d.invariant
