-- `draft::tables::entry_rule` meets its contract.
use mathlib.Core.Path.{refl}
use Rattle.laws.proofs.Chains.{stop, go}
use Rattle.draft.proofs.EntryTables.{last_yes, last_no}
use Rattle.draft.proofs.tables.entry_rule.Goals as goal

pub returns-then-not-good_within : goal.returns-then-not-good_within
returns-then-not-good_within c = stop _ _ _ _ refl c.good_within.ensures c.if-not-good_within.true-raw

pub returns-then-is_inside : goal.returns-then-is_inside
returns-then-is_inside c =
    go _ _ _ _ _ c.good_within.ensures c.if-not-good_within.false-raw (last_yes _ _ _ c.is_inside.ensures c.if-is_inside.true)

pub returns-else-is_inside : goal.returns-else-is_inside
returns-else-is_inside c =
    go _ _ _ _ _ c.good_within.ensures c.if-not-good_within.false-raw (last_no _ _ _ c.is_inside.ensures c.if-is_inside.false)
