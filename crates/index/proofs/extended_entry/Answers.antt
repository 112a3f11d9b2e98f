-- `index::extended_entry` meets its contract.
use mathlib.Core.Path.{◌∙◌, refl, sym, ap}
use mathlib.Core.Bool.{true, false, not}
use borrow.Author.Tests.{lt-ltb, le-ltb, eq-eqb, ne_eqb, not-true, not-false}
use Rattle.image.specs.declared.TextEntry.{TextEntry}
use Rattle.index.specs.Extended.{extends_by}
use Rattle.index.proofs.Extended.{extended-tests}
use borrow.Author.Rules.{rules}
use Rattle.index.proofs.extended_entry.Goals as goal

pub returns-then-entry-eq0 : goal.returns-then-entry-eq0
returns-then-entry-eq0 c =
    let at = c.args in
    let entry = c.text_entry-entry in
    extended-tests at.version at.nodes.now at.index.now at.strings.now at.work.now at.j entry.result _ _ false _ _ _ _ _
    entry.ensures refl refl (ap not (sym (eq-eqb entry.result.value 0 c.if-entry-eq0.true))) refl refl refl refl refl

pub returns-then-not-is_container : goal.returns-then-not-is_container
returns-then-not-is_container c =
    let at = c.args in
    let entry = c.text_entry-entry in
    extended-tests at.version at.nodes.now at.index.now at.strings.now at.work.now at.j entry.result _ _ true false _ _ _ _
    entry.ensures refl refl (ap not (sym (ne_eqb entry.result.value 0 c.if-entry-eq0.false))) (sym (not-true _ c.if-not-is_container.true-raw) ∙ c.is_container.ensures) refl refl refl refl

pub returns-then-not-has_name_or_place : goal.returns-then-not-has_name_or_place
returns-then-not-has_name_or_place c =
    let at = c.args in
    let entry = c.text_entry-entry in
    extended-tests at.version at.nodes.now at.index.now at.strings.now at.work.now at.j entry.result _ _ true true false _ _ _
    entry.ensures refl refl (ap not (sym (ne_eqb entry.result.value 0 c.if-entry-eq0.false))) (sym (not-false _ c.if-not-is_container.false-raw) ∙ c.is_container.ensures) (sym (not-true _ c.if-not-has_name_or_place.true-raw) ∙ c.has_name_or_place.ensures) refl refl refl

pub returns-then-parent-eq0 : goal.returns-then-parent-eq0
returns-then-parent-eq0 c =
    let at = c.args in
    let entry = c.text_entry-entry in
    extended-tests at.version at.nodes.now at.index.now at.strings.now at.work.now at.j entry.result c.path_node-node.result _ true true true false _ _
    entry.ensures c.path_node-node.ensures refl (ap not (sym (ne_eqb entry.result.value 0 c.if-entry-eq0.false))) (sym (not-false _ c.if-not-is_container.false-raw) ∙ c.is_container.ensures) (sym (not-false _ c.if-not-has_name_or_place.false-raw) ∙ c.has_name_or_place.ensures) (ap not (sym (eq-eqb c.path_node-node.result.parent 0 c.if-parent-eq0.true))) refl refl

pub returns-then-j-k : goal.returns-then-j-k
returns-then-j-k c =
    let at = c.args in
    let entry = c.text_entry-entry in
    let node = c.path_node-node in
    let parent = c.parent_entry-k in
    extended-tests at.version at.nodes.now at.index.now at.strings.now at.work.now at.j entry.result node.result parent.result true true true true false _
    entry.ensures node.ensures parent.ensures.answer (ap not (sym (ne_eqb entry.result.value 0 c.if-entry-eq0.false))) (sym (not-false _ c.if-not-is_container.false-raw) ∙ c.is_container.ensures) (sym (not-false _ c.if-not-has_name_or_place.false-raw) ∙ c.has_name_or_place.ensures) (ap not (sym (ne_eqb node.result.parent 0 c.if-parent-eq0.false))) (sym (le-ltb _ _ c.if-j-k.true)) refl

pub returns-then-extends : goal.returns-then-extends
returns-then-extends c =
    let at = c.args in
    let entry = c.text_entry-entry in
    let node = c.path_node-node in
    let parent = c.parent_entry-k in
    extended-tests at.version at.nodes.now at.index.now at.strings.now at.work.now at.j entry.result node.result parent.result true true true true true true
    entry.ensures node.ensures parent.ensures.answer (ap not (sym (ne_eqb entry.result.value 0 c.if-entry-eq0.false))) (sym (not-false _ c.if-not-is_container.false-raw) ∙ c.is_container.ensures) (sym (not-false _ c.if-not-has_name_or_place.false-raw) ∙ c.has_name_or_place.ensures) (ap not (sym (ne_eqb node.result.parent 0 c.if-parent-eq0.false))) (sym (lt-ltb parent.result at.j (search rules))) (sym c.if-extends.true ∙ c.extends.ensures ∙ ap (λ (x : TextEntry). extends_by at.strings.now x entry.result node.result) c.text_entry.ensures)

pub returns-else-extends : goal.returns-else-extends
returns-else-extends c =
    let at = c.args in
    let entry = c.text_entry-entry in
    let node = c.path_node-node in
    let parent = c.parent_entry-k in
    extended-tests at.version at.nodes.now at.index.now at.strings.now at.work.now at.j entry.result node.result parent.result true true true true true false
    entry.ensures node.ensures parent.ensures.answer (ap not (sym (ne_eqb entry.result.value 0 c.if-entry-eq0.false))) (sym (not-false _ c.if-not-is_container.false-raw) ∙ c.is_container.ensures) (sym (not-false _ c.if-not-has_name_or_place.false-raw) ∙ c.has_name_or_place.ensures) (ap not (sym (ne_eqb node.result.parent 0 c.if-parent-eq0.false))) (sym (lt-ltb parent.result at.j (search rules))) (sym c.if-extends.false ∙ c.extends.ensures ∙ ap (λ (x : TextEntry). extends_by at.strings.now x entry.result node.result) c.text_entry.ensures)
