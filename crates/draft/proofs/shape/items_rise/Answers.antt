-- `draft::shape::items_rise` meets its contract. The invariant: the tests so far pass.
use borrow.Author.Rules.{rules}
use Rattle.draft.proofs.Runs.{all_starts, all_stops, all_goes, all_ends}
use Rattle.draft.proofs.shape.items_rise.Goals as goal

pub loop-j-init : goal.loop-j-init
loop-j-init c = (search rules, all_starts _)

pub returns-then-not-entry_rises : goal.returns-then-not-entry_rises
returns-then-not-entry_rises c = all_stops _ _ _ c.entry_rises.ensures _ c.loop-j-test.true c.if-not-entry_rises.true-raw

pub loop-j-preserved : goal.loop-j-preserved
loop-j-preserved c = (search rules, all_goes _ _ _ c.entry_rises.ensures c.loop-j.invariant.1 c.if-not-entry_rises.false-raw)

pub returns : goal.returns
returns c = all_ends _ _ _ c.loop-j.invariant.0 c.loop-j-test.false c.loop-j.invariant.1
