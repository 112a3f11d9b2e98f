-- `draft::path_list::next_hint` meets its contract.
use native.Mathlib.Omega.{arith}
use borrow.Author.Tests.{not-true, not-false}
use Rattle.draft.proofs.PathLists.{hint_silent, hint_room, hint_steps, hint_stays}
use Rattle.draft.proofs.path_list.next_hint.Goals as goal

pub returns-then-not-hint : goal.returns-then-not-hint
returns-then-not-hint c = let to = c in hint_silent _ _ _ to.args.hint to.requires (not-true _ c.if-not-hint.true)

pub overflow_add-result : goal.overflow_add-result
overflow_add-result c = let to = c in let room = hint_room _ _ to.args.hint to.requires (not-false _ c.if-not-hint.false) _ c.is_of.ensures c.if-is_of.true in omega arith

pub returns-then-is_of : goal.returns-then-is_of
returns-then-is_of c = let to = c in hint_steps _ _ to.args.hint to.requires (not-false _ c.if-not-hint.false) _ c.is_of.ensures c.if-is_of.true

pub returns-else-is_of : goal.returns-else-is_of
returns-else-is_of c = let to = c in hint_stays _ _ to.args.hint to.requires (not-false _ c.if-not-hint.false) _ c.is_of.ensures c.if-is_of.false
