-- `write_text_uses::put_divert` meets its contract.
use Rattle.write_text_uses.proofs.Puts.{first-room, second-room, two_put, both_are}
use Rattle.write_text_uses.proofs.put_divert.Goals as goal

pub put_optional-behind-requires : goal.put_optional-behind-requires
put_optional-behind-requires c = first-room _ _ _ _ _ (both_are _ _) c.requires

pub put_optional-requires : goal.put_optional-requires
put_optional-requires c = second-room _ _ _ _ _ (both_are _ _) c.requires _ _ c.put_optional-behind.ensures

pub returns : goal.returns
returns c =
    let asked = c.requires in
    let put-optional = c.put_optional-behind in
    two_put _ _ _ _ _ (both_are _ _) asked _ _ put-optional.ensures _ _ c.put_optional.ensures
