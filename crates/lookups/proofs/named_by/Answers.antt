-- `lookups::named_by` meets its contract.
use mathlib.Core.Path.{◌∙◌}
use native.Mathlib.Omega.{arith}
use Rattle.image.proofs.Parts.{text-entry-count}
use Rattle.lookups.proofs.Lookups.{named-outside, named-nowhere, named_at_lem, named-place}
use Rattle.lookups.proofs.named_by.Goals as goal

pub returns-then-named-from : goal.returns-then-named-from
returns-then-named-from c = named-outside _ _ _ _ _ _ (text-entry-count _) c.if-named-from.true

pub overflow_add-from-3 : goal.overflow_add-from-3
overflow_add-from-3 c = omega (arith, named-place _ _ _ _ _ _ (text-entry-count _) c.find.result c.find.ensures _ c.in_ok-j.was)

pub overflow_mul-from : goal.overflow_mul-from
overflow_mul-from c = omega (arith, named-place _ _ _ _ _ _ (text-entry-count _) c.find.result c.find.ensures _ c.in_ok-j.was)

pub overflow_add-from-2 : goal.overflow_add-from-2
overflow_add-from-2 c = omega (arith, named-place _ _ _ _ _ _ (text-entry-count _) c.find.result c.find.ensures _ c.in_ok-j.was)

pub part_word-requires : goal.part_word-requires
part_word-requires c = omega (arith, named-place _ _ _ _ _ _ (text-entry-count _) c.find.result c.find.ensures _ c.in_ok-j.was)

pub returns-in_err-j : goal.returns-in_err-j
returns-in_err-j c = c.from_residual.ensures ∙ named-nowhere _ _ _ _ _ _ (text-entry-count _) c.find.result c.find.ensures c.if-named-from.false c.in_err-j.was

pub returns : goal.returns
returns c = named_at_lem _ _ _ _ _ _ (text-entry-count _) c.find.result c.find.ensures c.if-named-from.false _ c.in_ok-j.was _ c.part_word.ensures
