-- `draft::shape::right_entry` meets its contract.
use Rattle.draft.proofs.Relations.{entry-falls, entry-leads}
use Rattle.draft.proofs.shape.right_entry.Goals as goal

pub returns-then-not-entry_rises : goal.returns-then-not-entry_rises
returns-then-not-entry_rises c = entry-falls _ _ _ _ _ _ _ _ c.entry_rises.ensures c.if-not-entry_rises.true-raw

pub returns : goal.returns
returns c =
    entry-leads _ _ _ _ _ _ _ _ c.entry_rises.ensures c.if-not-entry_rises.false-raw _ _ c.entry_at.ensures c.right_container.ensures
