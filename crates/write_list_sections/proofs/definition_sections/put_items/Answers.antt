-- `write_list_sections::definition_sections::put_items` meets its contract.
use Prim.Native.Nat.{◌+◌, ◌*◌, ◌≤◌}
use mathlib.Core.Path.{refl}
use native.Mathlib.Omega.{arith}
use lib.ListN.{length}
use Rattle.image.specs.Sections.{text_entry_size}
use Rattle.write_list_sections.proofs.DefinitionLoops.{itemize_start, itemize_room, itemize_next, itemize_end}
use Rattle.write_list_sections.proofs.definition_sections.put_items.Goals.{After-definition_at-definition}
use Rattle.write_list_sections.proofs.definition_sections.put_items.Goals as goal

-- the definition's items fit, and there is an offset for the text of each
room : (c : After-definition_at-definition)
    → (c.loop-d.k + 1 + c.definition_at-definition.result.count ≤ length c.args.w.now) × (c.loop-d.at + text_entry_size * c.definition_at-definition.result.count ≤ length c.loop-d.out)
room c = itemize_room _ _ _ _ _ _ _ _ _ _ c.loop-d.invariant c.loop-d-test.true _ c.definition_at-definition.ensures

pub loop-d-init : goal.loop-d-init
loop-d-init c = itemize_start _ _ _ _ _ _ c.requires.definition_words_in_bounds c.requires.definition_words_in_bounds_2

pub overflow_add-k : goal.overflow_add-k
overflow_add-k c = omega (arith, (room (goal.at.overflow_add-k c).After-definition_at-definition).0)

pub put_items_from-requires : goal.put_items_from-requires
put_items_from-requires c = room (goal.at.put_items_from-requires c).After-definition_at-definition

pub overflow_mul-at : goal.overflow_mul-at
overflow_mul-at c = omega (arith, (room (goal.at.overflow_mul-at c).After-definition_at-definition).1)

pub overflow_add-at : goal.overflow_add-at
overflow_add-at c = omega (arith, (room (goal.at.overflow_add-at c).After-definition_at-definition).1)

pub overflow_add-k-in-loop-d : goal.overflow_add-k-in-loop-d
overflow_add-k-in-loop-d c = omega (arith, (room (goal.at.overflow_add-k-in-loop-d c).After-definition_at-definition).0)

pub overflow_add-k-in-loop-d-2 : goal.overflow_add-k-in-loop-d-2
overflow_add-k-in-loop-d-2 c = omega (arith, (room (goal.at.overflow_add-k-in-loop-d-2 c).After-definition_at-definition).0)

pub loop-d-preserved : goal.loop-d-preserved
loop-d-preserved c =
    itemize_next _ _ _ _ _ _ _ _ _ _ c.loop-d.invariant c.loop-d-test.true _ c.definition_at-definition.ensures _ c.put_items_from.ensures _ _ refl refl

pub returns : goal.returns
returns c = λ s order kept e i p o. itemize_end _ _ _ _ _ _ _ _ _ c.loop-d.invariant c.loop-d-test.false s order kept e i p o
