-- `draft::path_list::entry_right` meets its contract.
use Rattle.draft.proofs.PathLists.{right-outside, right-flag, right-last}
use Rattle.draft.proofs.path_list.entry_right.Goals as goal

pub returns-then-not-is_inside : goal.returns-then-not-is_inside
returns-then-not-is_inside c = right-outside _ _ _ _ _ c.entry_at-entry.ensures _ c.is_inside.ensures c.if-not-is_inside.true-raw

pub returns-then-entry-gt1 : goal.returns-then-entry-gt1
returns-then-entry-gt1 c = let at = c in right-flag _ _ _ _ _ at.entry_at-entry.ensures _ at.is_inside.ensures c.if-not-is_inside.false-raw c.if-entry-gt1.true

pub returns : goal.returns
returns c = let at = c in right-last _ _ _ _ _ at.entry_at-entry.ensures _ at.is_inside.ensures c.if-not-is_inside.false-raw c.if-entry-gt1.false
