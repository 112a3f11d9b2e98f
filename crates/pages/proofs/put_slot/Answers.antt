-- `pages::put_slot` meets its contract.
use mathlib.Core.Path.{refl, sym, ap, ◌∙◌}
use lib.ListN.{length}
use borrow.Author.Tests.{not-true, not-false}
use Rattle.image.specs.Header.{sections_by}
use Rattle.image.proofs.Views.{payload_by, strings_by}
use Rattle.views.proofs.Reading.{a_node}
use Rattle.views.proofs.Answers.{view-missing, view-found}
use Rattle.pages.proofs.Slots.{slot-missing, viewed-slot, viewless_slot, slot-over, slot_again}
use Rattle.pages.proofs.put_slot.Goals as goal

pub returns-in-None : goal.returns-in-None
returns-in-None c =
    let a = c.args in
    let missing = slot-missing _ _ (view-missing _ _ _ c.node_of.ensures c.in-None.is) in
    slot-over (sections_by a.bytes.now a.view) a.id a.out.now _ _ (c.no_slot.ensures ∙ missing) c.put_words.ensures

pub returns-then-not-has_kind : goal.returns-then-not-has_kind
returns-then-not-has_kind c =
    let a = c.args in
    let s = sections_by a.bytes.now a.view in
    let found = c.node_of.ensures in
    let is_node = c.in-Some.is in
    let payload = ap length (payload_by a.bytes.now a.view ∙ sym c.section_part-payload.ensures) in
    let strings = strings_by a.bytes.now a.view ∙ sym c.section_part-strings.ensures in
    let viewed = view-found s a.id _ found _ is_node _ _ payload strings _ refl in
    let viewless = viewless_slot s a.id _ _ _ viewed _ c.has_kind.ensures (not-true _ c.if-not-has_kind.true-raw) in
    slot_again s a.id a.out.now _ _ (c.no_slot-then-not-has_kind.ensures ∙ viewless) c.node_slot.result _ (ap length c.node_slot.ensures) c.put_words-in-Some.ensures
    c.put_words-then-not-has_kind.ensures

pub returns-else-not-has_kind : goal.returns-else-not-has_kind
returns-else-not-has_kind c =
    let a = c.args in
    let s = sections_by a.bytes.now a.view in
    let found = c.node_of.ensures in
    let is_node = c.in-Some.is in
    let payload = ap length (payload_by a.bytes.now a.view ∙ sym c.section_part-payload.ensures) in
    let strings = strings_by a.bytes.now a.view ∙ sym c.section_part-strings.ensures in
    let viewed = view-found s a.id _ found _ is_node _ _ payload strings _ refl in
    let seen = viewed-slot s a.id _ _ _ viewed _ c.has_kind.ensures (a_node _ _ _ found _ is_node).1 (not-false _ c.if-not-has_kind.false-raw) in
    slot-over s a.id a.out.now _ _ (c.node_slot.ensures ∙ seen) c.put_words-in-Some.ensures
