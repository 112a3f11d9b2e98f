-- `draft::path_list::none_twice` meets its contract. The invariant: no node of the windows so far has two entries.
use mathlib.Core.Path.{refl}
use borrow.Author.Rules.{rules}
use Rattle.draft.proofs.Runs.{all_starts, all_goes}
use Rattle.draft.proofs.Windows.{twice_found, none_found}
use Rattle.draft.proofs.path_list.none_twice.Goals as goal

pub loop-number-init : goal.loop-number-init
loop-number-init c = (search rules, all_starts _)

pub returns-then-not-fill_window : goal.returns-then-not-fill_window
returns-then-not-fill_window c = twice_found _ _ _ c.fill_window.ensures.value c.if-not-fill_window.true-raw

pub loop-number-preserved : goal.loop-number-preserved
loop-number-preserved c = (search rules, all_goes _ _ _ c.fill_window.ensures.value c.loop-number.invariant.1 c.if-not-fill_window.false-raw)

pub returns : goal.returns
returns c = none_found _ _ _ _ c.requires refl c.loop-number-test.false c.loop-number.invariant.1
