-- `write_plan::sharing::share` meets its contract.
use Rattle.write_plan.specs.Shared.{SameTexts}
use Rattle.write_plan.proofs.sharing.share.Given as goal

abbrev pub invariant-loop-i : goal.invariant-loop-i
invariant-loop-i l = SameTexts l.strings l.layout.at l.layout.texts l.initial.w l.w
