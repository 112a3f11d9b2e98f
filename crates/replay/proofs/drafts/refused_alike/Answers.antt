-- `replay::drafts::refused_alike` meets its contract.
use Rattle.replay.proofs.Comparing.{none_alike, any_alike, this_alike}
use Rattle.replay.proofs.drafts.refused_alike.Goals as goal

pub returns-then-theirs-eq0 : goal.returns-then-theirs-eq0
returns-then-theirs-eq0 c = none_alike _ _ c.if-theirs-eq0.true

pub returns-then-theirs : goal.returns-then-theirs
returns-then-theirs c = any_alike _ _ c.if-theirs-eq0.false c.if-theirs.true

pub returns : goal.returns
returns c = this_alike _ _ c.if-theirs-eq0.false c.if-theirs.false
