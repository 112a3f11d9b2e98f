-- `draft::tables::whole_entries` meets its contract.
use native.Mathlib.Omega.{arith}
use borrow.Author.Tests.{eq-eqb, ne_eqb}
use Rattle.image.proofs.Widths.{words-some}
use Rattle.draft.specs.Draft.{whole_entries}
use Rattle.draft.proofs.EntryTables.{rest-none, rest_some}
use Rattle.draft.proofs.tables.whole_entries.Goals as goal

pub nonzero_rem-nodes : goal.nonzero_rem-nodes
nonzero_rem-nodes c = let some = words-some c.args.source.version in omega (arith, c.node_words.ensures)

pub returns-then-nodes-node_words-ne0 : goal.returns-then-nodes-node_words-ne0
unfolding whole_entries
returns-then-nodes-node_words-ne0 c = rw (rest_some _ _ _ c.node_words.ensures c.if-nodes-node_words-ne0.true)

pub returns-then-named-ne0 : goal.returns-then-named-ne0
unfolding whole_entries
returns-then-named-ne0 c = rw (rest-none _ _ _ c.node_words.ensures c.if-nodes-node_words-ne0.false, ne_eqb _ _ c.if-named-ne0.true)

pub returns-then-definitions-ne0 : goal.returns-then-definitions-ne0
unfolding whole_entries
returns-then-definitions-ne0 c =
    let first = c in
    rw (rest-none _ _ _ first.node_words.ensures first.if-nodes-node_words-ne0.false, eq-eqb _ _ c.if-named-ne0.false, ne_eqb _ _ c.if-definitions-ne0.true)

pub returns-then-items-ne0 : goal.returns-then-items-ne0
unfolding whole_entries
returns-then-items-ne0 c =
    let first = c in
    let nodes = rest-none _ _ _ first.node_words.ensures first.if-nodes-node_words-ne0.false in
    rw (nodes, eq-eqb _ _ c.if-named-ne0.false, eq-eqb _ _ c.if-definitions-ne0.false, ne_eqb _ _ c.if-items-ne0.true)

pub returns : goal.returns
unfolding whole_entries
returns c =
    let first = c in
    let nodes = rest-none _ _ _ first.node_words.ensures first.if-nodes-node_words-ne0.false in
    rw (nodes, eq-eqb _ _ c.if-named-ne0.false, eq-eqb _ _ c.if-definitions-ne0.false, eq-eqb _ _ c.if-items-ne0.false, c.node_count.ensures)
