-- `write_text_uses::put_reference` meets its contract.
use Rattle.write_text_uses.proofs.Puts.{first-room, second-room, two_put, both_are}
use Rattle.write_text_uses.proofs.put_reference.Goals as goal

pub put_use-behind-requires : goal.put_use-behind-requires
put_use-behind-requires c = first-room _ _ _ _ _ (both_are _ _) c.requires

pub put_optional-requires : goal.put_optional-requires
put_optional-requires c = second-room _ _ _ _ _ (both_are _ _) c.requires _ _ c.put_use-behind.ensures

pub returns : goal.returns
returns c =
    let asked = c.requires in
    let put-use = c.put_use-behind in
    two_put _ _ _ _ _ (both_are _ _) asked _ _ put-use.ensures _ _ c.put_optional.ensures
