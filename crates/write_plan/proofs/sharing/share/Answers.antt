-- `write_plan::sharing::share` meets its contract.
use Rattle.write_plan.proofs.SharedTexts.{same_none, same_next}
use Rattle.write_plan.proofs.sharing.share.Goals as goal

pub loop-i-init : goal.loop-i-init
loop-i-init c = same_none _ _ _ _

pub loop-i-preserved : goal.loop-i-preserved
loop-i-preserved c = same_next _ _ _ _ _ _ c.loop-i.invariant c.share_one.ensures
