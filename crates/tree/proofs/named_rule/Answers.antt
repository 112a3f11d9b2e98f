-- `tree::named_rule` meets its contract.
use Prim.Native.Nat.{ℕ, ◌+◌}
use mathlib.Core.Path.{sym, ap, ◌∙◌}
use native.Mathlib.Omega.{arith}
use borrow.Author.Tests.{not-true, not-false}
use Rattle.image.proofs.Widths.{words-some}
use Rattle.tree.proofs.Tests.{Reading, bad_text_lem, bad_order, bad_target, bad_parent, right-named, container-below}
use Rattle.tree.proofs.named_rule.Goals as goal

pub returns-then-not-good_text : goal.returns-then-not-good_text
returns-then-not-good_text c =
    let reading : Reading c.args.version c.args.nodes.now c.args.named.now c.args.strings.now c.args.id c.args.place (c.args.first + c.args.place) c.text_entry-entry.result = record { where_at = ap (λ (x : ℕ). x + c.args.place) c.requires.first_value; read = c.text_entry-entry.ensures } in
    sym (bad_text_lem _ _ _ _ _ _ _ _ reading (sym c.good_text.ensures ∙ not-true _ c.if-not-good_text.true-raw))

pub returns-then-not-entry_rises : goal.returns-then-not-entry_rises
returns-then-not-entry_rises c =
    let reading : Reading c.args.version c.args.nodes.now c.args.named.now c.args.strings.now c.args.id c.args.place (c.args.first + c.args.place) c.text_entry-entry.result = record { where_at = ap (λ (x : ℕ). x + c.args.place) c.requires.first_value; read = c.text_entry-entry.ensures } in
    sym
    (bad_order _ _ _ _ _ _ _ _ reading (sym c.good_text.ensures ∙ not-false _ c.if-not-good_text.false-raw) _ c.requires.first_value
    (sym c.entry_rises.ensures ∙ not-true _ c.if-not-entry_rises.true-raw))

pub returns-then-not-is_container : goal.returns-then-not-is_container
returns-then-not-is_container c =
    let reading : Reading c.args.version c.args.nodes.now c.args.named.now c.args.strings.now c.args.id c.args.place (c.args.first + c.args.place) c.text_entry-entry.result = record { where_at = ap (λ (x : ℕ). x + c.args.place) c.requires.first_value; read = c.text_entry-entry.ensures } in
    sym
    (bad_target _ _ _ _ _ _ _ _ reading (sym c.good_text.ensures ∙ not-false _ c.if-not-good_text.false-raw) _ c.requires.first_value
    (sym c.entry_rises.ensures ∙ not-false _ c.if-not-entry_rises.false-raw) (sym c.is_container.ensures ∙ not-true _ c.if-not-is_container.true-raw))

pub node_word-requires : goal.node_word-requires
node_word-requires c = (
  container-below _ _ _ (sym c.is_container.ensures ∙ not-false _ c.if-not-is_container.false-raw),
  omega (arith, words-some c.args.version),
)

pub returns-then-node_word-id : goal.returns-then-node_word-id
returns-then-node_word-id c =
    let reading : Reading c.args.version c.args.nodes.now c.args.named.now c.args.strings.now c.args.id c.args.place (c.args.first + c.args.place) c.text_entry-entry.result = record { where_at = ap (λ (x : ℕ). x + c.args.place) c.requires.first_value; read = c.text_entry-entry.ensures } in
    sym
    (right-named _ _ _ _ _ _ _ _ reading (sym c.good_text.ensures ∙ not-false _ c.if-not-good_text.false-raw) _ c.requires.first_value
    (sym c.entry_rises.ensures ∙ not-false _ c.if-not-entry_rises.false-raw)
    (sym c.is_container.ensures ∙ not-false _ c.if-not-is_container.false-raw) _ c.node_word.ensures c.if-node_word-id.true)

pub returns-else-node_word-id : goal.returns-else-node_word-id
returns-else-node_word-id c =
    let reading : Reading c.args.version c.args.nodes.now c.args.named.now c.args.strings.now c.args.id c.args.place (c.args.first + c.args.place) c.text_entry-entry.result = record { where_at = ap (λ (x : ℕ). x + c.args.place) c.requires.first_value; read = c.text_entry-entry.ensures } in
    sym
    (bad_parent _ _ _ _ _ _ _ _ reading (sym c.good_text.ensures ∙ not-false _ c.if-not-good_text.false-raw) _ c.requires.first_value
    (sym c.entry_rises.ensures ∙ not-false _ c.if-not-entry_rises.false-raw)
    (sym c.is_container.ensures ∙ not-false _ c.if-not-is_container.false-raw) _ c.node_word.ensures c.if-node_word-id.false)
