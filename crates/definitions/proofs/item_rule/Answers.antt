-- `definitions::item_rule` meets its contract.
use mathlib.Core.Path.{◌≡◌, ◌∙◌, sym, refl}
use mathlib.Core.List.{[]}
use borrow.Author.Tests.{not-true, not-false}
use Rattle.laws.specs.Refusal.{unless, ◌▸◌}
use Rattle.words.specs.Words.{words_of}
use Rattle.definitions.specs.Definitions.{item_rule_from}
use Rattle.definitions.specs.Parts.{definition_parts}
use Rattle.definitions.proofs.Readers.{item_by}
use Rattle.definitions.proofs.item_rule.Goals as goal

pub returns-then-not-good_text : goal.returns-then-not-good_text
unfolding unless ◌▸◌
returns-then-not-good_text c =
    let at = c.args in
    sym (item_by (definition_parts [] at.items.now at.strings.now) (words_of at.items.now) at.first at.place c.text_entry-item.result c.good_text.result _ refl c.text_entry-item.ensures c.good_text.ensures refl ∙ rw (not-true c.good_text.result c.if-not-good_text.true-raw))

pub returns-then-entry_rises : goal.returns-then-entry_rises
unfolding unless ◌▸◌
returns-then-entry_rises c =
    let last-test : item_rule_from (definition_parts [] c.args.items.now c.args.strings.now) c.args.first c.args.place ≡ unless c.entry_rises.result 17 =
    let at = c.args in
    item_by (definition_parts [] at.items.now at.strings.now) (words_of at.items.now) at.first at.place c.text_entry-item.result c.good_text.result c.entry_rises.result
    refl c.text_entry-item.ensures c.good_text.ensures c.entry_rises.ensures
    ∙ rw (not-false c.good_text.result c.if-not-good_text.false-raw) in
    sym (last-test ∙ rw c.if-entry_rises.true)

pub returns-else-entry_rises : goal.returns-else-entry_rises
unfolding unless ◌▸◌
returns-else-entry_rises c =
    let last-test : item_rule_from (definition_parts [] c.args.items.now c.args.strings.now) c.args.first c.args.place ≡ unless c.entry_rises.result 17 =
    let at = c.args in
    item_by (definition_parts [] at.items.now at.strings.now) (words_of at.items.now) at.first at.place c.text_entry-item.result c.good_text.result c.entry_rises.result
    refl c.text_entry-item.ensures c.good_text.ensures c.entry_rises.ensures
    ∙ rw (not-false c.good_text.result c.if-not-good_text.false-raw) in
    sym (last-test ∙ rw c.if-entry_rises.false)
