-- `index::index_entry_rule` meets its contract.
use mathlib.Core.Path.{◌≡◌, ◌∙◌, sym, refl}
use mathlib.Core.List.{[]}
use Rattle.texts.specs.Text.{rising}
use Rattle.image.specs.declared.TextEntry.{TextEntry}
use Rattle.image.specs.Sections.{Sections, part_at}
use Rattle.index.specs.Paths.{fits}
use borrow.Author.Tests.{not-true, not-false}
use Rattle.laws.specs.Refusal.{unless, ◌▸◌}
use Rattle.words.specs.Words.{words_of}
use Rattle.tree.specs.Parts.{parts_of}
use Rattle.index.specs.Index.{index_entry_rule}
use Rattle.image.specs.Entries.{entry_text_from}
use Rattle.index.specs.Parts.{index_parts}
use Rattle.index.proofs.Index.{container-like, fits-like}
use Rattle.index.proofs.Readers.{index_by, index-past}
use Rattle.index.proofs.index_entry_rule.Goals as goal

pub returns-then-not-good_text : goal.returns-then-not-good_text
unfolding unless ◌▸◌
returns-then-not-good_text c =
    let at = c.args in
    let good = c.good_text in
    let s = index_parts at.version at.nodes.now at.index.now at.strings.now in
    sym (index_by s (words_of at.index.now) at.j c.text_entry-entry.result good.result _ _ _ refl c.text_entry-entry.ensures good.ensures refl refl refl
    ∙ rw (not-true good.result c.if-not-good_text.true-raw))

pub returns-then-not-is_container : goal.returns-then-not-is_container
unfolding unless ◌▸◌
returns-then-not-is_container c =
    let entry : TextEntry = c.text_entry-entry.result in
    let at = c.args in
    let good = c.good_text in
    let there = c.is_container in
    let entry = c.text_entry-entry in
    let s = index_parts at.version at.nodes.now at.index.now at.strings.now in
    sym (index_by s (words_of at.index.now) at.j entry.result good.result there.result _ _ refl entry.ensures good.ensures
    (there.ensures ∙ container-like (parts_of at.version at.nodes.now [] [] []) s refl refl entry.result.value) refl refl
    ∙ rw (not-false good.result c.if-not-good_text.false-raw, not-true there.result c.if-not-is_container.true-raw))

pub returns-then-not-entry_rises : goal.returns-then-not-entry_rises
unfolding unless ◌▸◌
returns-then-not-entry_rises c =
    let whole : Sections = index_parts c.args.version c.args.nodes.now c.args.index.now c.args.strings.now in
    let entry : TextEntry = c.text_entry-entry.result in
    let past-target : index_entry_rule whole c.args.j
    ≡ (unless (rising (entry_text_from (words_of c.args.index.now) c.args.strings.now 0) c.args.j) 16
    ▸ unless (fits whole entry.value (part_at c.args.strings.now entry.offset entry.len)) 16) =
    let at = c.args in
    let good = c.good_text in
    let there = c.is_container in
    index-past whole (words_of at.index.now) at.j entry good.result there.result refl c.text_entry-entry.ensures good.ensures
    (there.ensures ∙ container-like (parts_of at.version at.nodes.now [] [] []) whole refl refl entry.value)
    (not-false good.result c.if-not-good_text.false-raw) (not-false there.result c.if-not-is_container.false-raw) in
    let rises = c.entry_rises in
    sym (past-target ∙ rw (← rises.ensures, not-true rises.result c.if-not-entry_rises.true-raw))

pub returns-then-matches_canonical_path : goal.returns-then-matches_canonical_path
unfolding unless ◌▸◌
returns-then-matches_canonical_path c =
    let whole : Sections = index_parts c.args.version c.args.nodes.now c.args.index.now c.args.strings.now in
    let entry : TextEntry = c.text_entry-entry.result in
    let past-target : index_entry_rule whole c.args.j
    ≡ (unless (rising (entry_text_from (words_of c.args.index.now) c.args.strings.now 0) c.args.j) 16
    ▸ unless (fits whole entry.value (part_at c.args.strings.now entry.offset entry.len)) 16) =
    let at = c.args in
    let good = c.good_text in
    let there = c.is_container in
    index-past whole (words_of at.index.now) at.j entry good.result there.result refl c.text_entry-entry.ensures good.ensures
    (there.ensures ∙ container-like (parts_of at.version at.nodes.now [] [] []) whole refl refl entry.value)
    (not-false good.result c.if-not-good_text.false-raw) (not-false there.result c.if-not-is_container.false-raw) in
    let past-order : index_entry_rule whole c.args.j ≡ unless c.matches_canonical_path.result 16 =
    let at = c in
    let rises = c.entry_rises in
    let nodes = index_parts c.args.version c.args.nodes.now [] c.args.strings.now in
    past-target
    ∙ rw (← rises.ensures, not-false rises.result c.if-not-entry_rises.false-raw, ← c.text_bytes.ensures, ← fits-like nodes whole refl refl refl entry.value _, ← c.matches_canonical_path.ensures) in
    sym (past-order ∙ rw c.if-matches_canonical_path.true)

pub returns-else-matches_canonical_path : goal.returns-else-matches_canonical_path
unfolding unless ◌▸◌
returns-else-matches_canonical_path c =
    let whole : Sections = index_parts c.args.version c.args.nodes.now c.args.index.now c.args.strings.now in
    let entry : TextEntry = c.text_entry-entry.result in
    let past-target : index_entry_rule whole c.args.j
    ≡ (unless (rising (entry_text_from (words_of c.args.index.now) c.args.strings.now 0) c.args.j) 16
    ▸ unless (fits whole entry.value (part_at c.args.strings.now entry.offset entry.len)) 16) =
    let at = c.args in
    let good = c.good_text in
    let there = c.is_container in
    index-past whole (words_of at.index.now) at.j entry good.result there.result refl c.text_entry-entry.ensures good.ensures
    (there.ensures ∙ container-like (parts_of at.version at.nodes.now [] [] []) whole refl refl entry.value)
    (not-false good.result c.if-not-good_text.false-raw) (not-false there.result c.if-not-is_container.false-raw) in
    let past-order : index_entry_rule whole c.args.j ≡ unless c.matches_canonical_path.result 16 =
    let at = c in
    let rises = c.entry_rises in
    let nodes = index_parts c.args.version c.args.nodes.now [] c.args.strings.now in
    past-target
    ∙ rw (← rises.ensures, not-false rises.result c.if-not-entry_rises.false-raw, ← c.text_bytes.ensures, ← fits-like nodes whole refl refl refl entry.value _, ← c.matches_canonical_path.ensures) in
    sym (past-order ∙ rw c.if-matches_canonical_path.false)
