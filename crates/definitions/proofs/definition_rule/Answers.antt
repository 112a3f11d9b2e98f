-- `definitions::definition_rule` meets its contract.
use Prim.Native.Nat.{◌+◌}
use mathlib.Core.Path.{◌≡◌, ◌∙◌, sym, refl}
use mathlib.Core.List.{[]}
use mathlib.Core.Bool.{◌&&◌}
use native.Mathlib.Omega.{arith}
use lib.Dec.{leb, eqb}
use borrow.Author.Tests.{not-true, not-false, le-leb, lt-leb, eq-eqb, ne_eqb}
use Rattle.laws.specs.Refusal.{unless, ◌▸◌, first_of}
use Rattle.words.specs.Words.{words_of}
use Rattle.image.specs.declared.Definition.{Definition}
use Rattle.image.specs.Sections.{Sections, item_count}
use Rattle.definitions.specs.Definitions.{item_rule_from, definition_rule}
use Rattle.definitions.specs.Parts.{definition_parts}
use Rattle.definitions.proofs.Definitions.{item-like}
use Rattle.image.proofs.Parts.{text-entry-count}
use Rattle.definitions.proofs.Readers.{definition_by, definition-past}
use Rattle.laws.proofs.RuleRuns.{first-like}
use Rattle.definitions.proofs.definition_rule.Goals as goal

pub returns-then-not-good_text : goal.returns-then-not-good_text
unfolding unless ◌▸◌
returns-then-not-good_text c =
    let at = c.args in
    let good = c.good_text in
    let s = definition_parts at.definitions.now at.items.now at.strings.now in
    sym (definition_by s (words_of at.definitions.now) at.d at.used c.definition_at-definition.result good.result _ refl c.requires.1
    c.definition_at-definition.ensures good.ensures refl
    ∙ rw (not-true good.result c.if-not-good_text.true-raw))

pub returns-then-not-definition_rises : goal.returns-then-not-definition_rises
unfolding unless ◌▸◌
returns-then-not-definition_rises c =
    let at = c.args in
    let good = c.good_text in
    let rises = c.definition_rises in
    let s = definition_parts at.definitions.now at.items.now at.strings.now in
    sym (definition_by s (words_of at.definitions.now) at.d at.used c.definition_at-definition.result good.result rises.result refl c.requires.1
    c.definition_at-definition.ensures good.ensures rises.ensures
    ∙ rw (not-false good.result c.if-not-good_text.false-raw, not-true rises.result c.if-not-definition_rises.true-raw))

pub returns-then-items-first : goal.returns-then-items-first
unfolding unless ◌▸◌
returns-then-items-first c =
    let whole : Sections = definition_parts c.args.definitions.now c.args.items.now c.args.strings.now in
    let entry : Definition = c.definition_at-definition.result in
    let past-texts : definition_rule whole c.args.d
    ≡ (unless (leb (entry.first + entry.count) (item_count whole) && eqb entry.first c.args.used) 11 ▸ first_of entry.count (item_rule_from whole entry.first)) =
    let at = c.args in
    let good = c.good_text in
    let rises = c.definition_rises in
    definition-past whole (words_of at.definitions.now) at.d at.used entry good.result rises.result refl c.requires.1 c.definition_at-definition.ensures
    good.ensures rises.ensures (not-false good.result c.if-not-good_text.false-raw) (not-false rises.result c.if-not-definition_rises.false-raw) in
    let at = c in
    sym (past-texts ∙ rw (lt-leb (entry.first + entry.count) (item_count whole) (omega (arith, text-entry-count at.args.items.now))))

pub returns-then-first-used : goal.returns-then-first-used
unfolding unless ◌▸◌
returns-then-first-used c =
    let whole : Sections = definition_parts c.args.definitions.now c.args.items.now c.args.strings.now in
    let entry : Definition = c.definition_at-definition.result in
    let past-texts : definition_rule whole c.args.d
    ≡ (unless (leb (entry.first + entry.count) (item_count whole) && eqb entry.first c.args.used) 11 ▸ first_of entry.count (item_rule_from whole entry.first)) =
    let at = c.args in
    let good = c.good_text in
    let rises = c.definition_rises in
    definition-past whole (words_of at.definitions.now) at.d at.used entry good.result rises.result refl c.requires.1 c.definition_at-definition.ensures
    good.ensures rises.ensures (not-false good.result c.if-not-good_text.false-raw) (not-false rises.result c.if-not-definition_rises.false-raw) in
    let at = c in
    sym (past-texts ∙ rw (le-leb (entry.first + entry.count) (item_count whole) (omega (arith, text-entry-count at.args.items.now)), ne_eqb entry.first at.args.used c.if-first-used.true))

pub returns : goal.returns
unfolding unless ◌▸◌
returns c =
    let whole : Sections = definition_parts c.args.definitions.now c.args.items.now c.args.strings.now in
    let entry : Definition = c.definition_at-definition.result in
    let past-texts : definition_rule whole c.args.d
    ≡ (unless (leb (entry.first + entry.count) (item_count whole) && eqb entry.first c.args.used) 11 ▸ first_of entry.count (item_rule_from whole entry.first)) =
    let at = c.args in
    let good = c.good_text in
    let rises = c.definition_rises in
    definition-past whole (words_of at.definitions.now) at.d at.used entry good.result rises.result refl c.requires.1 c.definition_at-definition.ensures
    good.ensures rises.ensures (not-false good.result c.if-not-good_text.false-raw) (not-false rises.result c.if-not-definition_rises.false-raw) in
    let at = c in
    let items = definition_parts [] at.args.items.now at.args.strings.now in
    sym (past-texts
    ∙ rw (le-leb (entry.first + entry.count) (item_count whole) (omega (arith, text-entry-count at.args.items.now)), eq-eqb entry.first at.args.used c.if-first-used.false)
    (first-like entry.count (item_rule_from whole entry.first) (item_rule_from items entry.first) (item-like whole items refl refl entry.first)
    ∙ sym c.items_rule.ensures))
