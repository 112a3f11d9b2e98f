-- `write_text_uses::put_definition` meets its contract.
use Rattle.write_text_uses.proofs.Puts.{first-room, second-room, two_put}
use Rattle.write_text_uses.proofs.DraftReads.{definition_is}
use Rattle.write_text_uses.proofs.put_definition.Goals as goal

pub put_use-behind-requires : goal.put_use-behind-requires
put_use-behind-requires c = first-room _ _ _ _ _ (definition_is _ _ _ _ c.definition_at-definition.ensures) c.requires.room

pub put_entries-requires : goal.put_entries-requires
put_entries-requires c =
    let asked = c.requires in
    let put-use = c.put_use-behind in
    second-room _ _ _ _ _ (definition_is _ _ _ _ c.definition_at-definition.ensures) asked.room _ _ put-use.ensures

pub returns : goal.returns
returns c =
    let asked = c.requires in
    let put-use = c.put_use-behind in
    two_put _ _ _ _ _ (definition_is _ _ _ _ c.definition_at-definition.ensures) asked.room _ _ put-use.ensures _ _ c.put_entries.ensures
