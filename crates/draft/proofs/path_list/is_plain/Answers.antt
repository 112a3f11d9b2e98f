-- `draft::path_list::is_plain` meets its contract.
use borrow.Author.Tests.{eq-eqb, ne_eqb}
use Rattle.draft.proofs.path_list.is_plain.Goals as goal

pub returns-then-node-ne0 : goal.returns-then-node-ne0
returns-then-node-ne0 c = rw (ne_eqb _ _ c.if-node-ne0.true)

pub returns-then-node-ne-NONE : goal.returns-then-node-ne-NONE
returns-then-node-ne-NONE c = rw (eq-eqb _ _ c.if-node-ne0.false, ne_eqb _ _ c.if-node-ne-NONE.true)

pub returns : goal.returns
returns c = rw (eq-eqb _ _ c.if-node-ne0.false, eq-eqb _ _ c.if-node-ne-NONE.false)
