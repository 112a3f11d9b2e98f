-- `draft::shape::entries_right` meets its contract. The invariant: the entries of the nodes before `i` are right.
use mathlib.Core.Path.{◌≡◌, refl, sym, ◌∙◌}
use mathlib.Core.List.{[]}
use native.Mathlib.Omega.{arith}
use borrow.Author.Rules.{rules}
use borrow.Author.Tests.{not-false, eqb-true, eq-eqb}
use Rattle.laws.proofs.Chains.{first_done}
use Rattle.laws.proofs.RuleRuns.{run_starts, run_goes}
use Rattle.image.proofs.Widths.{words-some}
use Rattle.tree.specs.Tree.{entries_rule}
use Rattle.draft.specs.Source.{draft_of}
use Rattle.draft.proofs.NodeCount.{below-count, upto-count, past-count}
use Rattle.draft.proofs.Runs.{passes-stops}
use Rattle.draft.proofs.Relations.{plain-entries}
use Rattle.draft.proofs.shape.entries_right.Goals as goal
use Rattle.draft.proofs.shape.entries_right.Goals.{then-node_word-eq-CONTAINER+else-not-node_entries_right, else-node_word-eq-CONTAINER}

pub loop-i-init : goal.loop-i-init
loop-i-init c = (search rules, run_starts _)

pub node_word-requires : goal.node_word-requires
node_word-requires c = (
  below-count _ _ c.node_count-count.ensures _ c.loop-i-test.true,
  omega (arith, words-some c.args.source.version),
)

pub node_at-node-requires : goal.node_at-node-requires
node_at-node-requires c = below-count _ _ c.node_count-count.ensures _ c.loop-i-test.true

pub node_entries_right-requires : goal.node_entries_right-requires
node_entries_right-requires c =
    record {
      fact = (c.requires, below-count _ _ c.node_count-count.ensures _ c.loop-i-test.true);
      node_value = c.node_at-node.ensures;
    }

pub returns-then-not-node_entries_right : goal.returns-then-not-node_entries_right
returns-then-not-node_entries_right c =
    let at = c in
    passes-stops _ _ (entries_rule (draft_of at.args.source.version at.args.nodes.now at.args.children.now at.args.named.now [] [] [] at.args.strings.now))
    c.node_entries_right.result (below-count _ _ c.node_count-count.ensures _ c.loop-i-test.true)
    c.node_entries_right.ensures c.if-not-node_entries_right.true-raw

pub loop-i-preserved : goal.loop-i-preserved
loop-i-preserved c =
    let at = c.args in
    let entries : entries_rule (draft_of at.source.version at.nodes.now at.children.now at.named.now [] [] [] at.strings.now) c.loop-i.i ≡ 0 =
    elim c.if-node_word-eq-CONTAINER.branch [
      | then-node_word-eq-CONTAINER+else-not-node_entries_right w ↦ eqb-true _ _ (sym w.node_entries_right.ensures ∙ not-false _ w.if-not-node_entries_right.false-raw)
      | else-node_word-eq-CONTAINER w ↦ plain-entries _ at.nodes.now at.children.now at.named.now at.strings.now _ _ c.node_word.ensures w.if-node_word-eq-CONTAINER.false
    ] in
    (search rules, run_goes _ _ _ c.loop-i.invariant.1 refl entries)

pub returns : goal.returns
returns c =
    let count = c.node_count-count.ensures in
    sym (eq-eqb _ 0 (sym (first_done _ _ _ (upto-count _ _ count _ c.loop-i.invariant.0) (past-count _ _ count _ c.loop-i-test.false) c.loop-i.invariant.1)))
