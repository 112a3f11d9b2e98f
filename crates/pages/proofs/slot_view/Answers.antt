-- `pages::slot_view` meets its contract.
use mathlib.Core.Path.{sym, ap, ◌∙◌}
use lib.ListN.{length}
use Rattle.image.specs.Header.{sections_by}
use Rattle.image.proofs.Views.{payload_by, strings_by}
use Rattle.pages.proofs.Slots.{record_viewed, slot-short, slot-viewed}
use Rattle.pages.proofs.slot_view.Goals as goal

pub returns-then-slot-lt-RECORD_WORDS : goal.returns-then-slot-lt-RECORD_WORDS
returns-then-slot-lt-RECORD_WORDS c = slot-short _ _ c.if-slot-lt-RECORD_WORDS.true

pub returns : goal.returns
returns c =
    let a = c.args in
    let s = sections_by a.bytes.now a.view in
    let payload = ap length (payload_by a.bytes.now a.view ∙ sym c.section_part-payload.ensures) in
    let strings = strings_by a.bytes.now a.view ∙ sym c.section_part-strings.ensures in
    record_viewed s _ _ _ payload strings _ c.record_view.ensures ∙ slot-viewed s a.slot.now c.if-slot-lt-RECORD_WORDS.false _ c.slot_record.ensures
