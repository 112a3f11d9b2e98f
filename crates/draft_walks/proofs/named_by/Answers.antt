-- `draft_walks::named_by` meets its contract.
use mathlib.Core.Path.{refl, ◌∙◌}
use native.Mathlib.Omega.{arith}
use Rattle.lookups.proofs.Lookups.{named-outside, named-nowhere, named_at_lem, named-place}
use Rattle.draft_walks.proofs.named_by.Goals as goal

pub returns-then-named-from : goal.returns-then-named-from
returns-then-named-from c = named-outside _ _ _ _ _ _ refl c.if-named-from.true

pub overflow_add-result : goal.overflow_add-result
overflow_add-result c = omega (arith, named-place _ _ _ _ _ _ refl c.find.result c.find.ensures _ c.in_ok-j.was)

pub overflow_mul-result : goal.overflow_mul-result
overflow_mul-result c = omega (arith, named-place _ _ _ _ _ _ refl c.find.result c.find.ensures _ c.in_ok-j.was)

pub overflow_add-result-2 : goal.overflow_add-result-2
overflow_add-result-2 c = omega (arith, named-place _ _ _ _ _ _ refl c.find.result c.find.ensures _ c.in_ok-j.was)

pub offset_bounds-named-from : goal.offset_bounds-named-from
offset_bounds-named-from c = omega (arith, named-place _ _ _ _ _ _ refl c.find.result c.find.ensures _ c.in_ok-j.was)

pub bounds-named-from : goal.bounds-named-from
bounds-named-from c = omega (arith, named-place _ _ _ _ _ _ refl c.find.result c.find.ensures _ c.in_ok-j.was)

pub returns-in_err-j : goal.returns-in_err-j
returns-in_err-j c = c.from_residual.ensures ∙ named-nowhere _ _ _ _ _ _ refl c.find.result c.find.ensures c.if-named-from.false c.in_err-j.was

pub returns : goal.returns
returns c = named_at_lem _ _ _ _ _ _ refl c.find.result c.find.ensures c.if-named-from.false _ c.in_ok-j.was _ refl
