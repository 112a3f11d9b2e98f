-- `draft::tables::definition_rule` meets its contract.
use mathlib.Core.Path.{refl}
use borrow.Author.Tests.{eq-eqb, ne_eqb}
use Rattle.laws.proofs.Chains.{stop, go}
use Rattle.records.proofs.Tests.{past_end, in_end}
use Rattle.draft.proofs.EntryTables.{last_yes, last_no}
use Rattle.draft.proofs.tables.definition_rule.Goals as goal

pub returns-then-not-good_text : goal.returns-then-not-good_text
returns-then-not-good_text c = stop _ _ _ _ refl c.good_text.ensures c.if-not-good_text.true-raw

pub returns-then-items-first : goal.returns-then-items-first
returns-then-items-first c =
    go _ _ _ _ _ c.good_text.ensures c.if-not-good_text.false-raw (last_no _ _ _ (past_end _ _ _ _ c.if-items-first.true) refl)

pub returns-then-first-used : goal.returns-then-first-used
returns-then-first-used c =
    go _ _ _ _ _ c.good_text.ensures c.if-not-good_text.false-raw
    (last_yes _ _ _ (in_end _ _ _ _ c.if-items-first.false) (eq-eqb _ _ c.if-first-used.true))

pub returns-else-first-used : goal.returns-else-first-used
returns-else-first-used c =
    go _ _ _ _ _ c.good_text.ensures c.if-not-good_text.false-raw
    (last_no _ _ _ (in_end _ _ _ _ c.if-items-first.false) (ne_eqb _ _ c.if-first-used.false))
