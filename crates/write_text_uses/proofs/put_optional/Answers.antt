-- `write_text_uses::put_optional` meets its contract.
use mathlib.Core.List.{[]}
use Rattle.write_text_uses.proofs.Puts.{put_none, put_same, room-same, if_none, if_some}
use Rattle.write_text_uses.proofs.put_optional.Goals as goal

pub returns-then-is_absent : goal.returns-then-is_absent
returns-then-is_absent c = put_same [] _ _ _ _ _ (if_none _ _ _ c.is_absent.ensures c.if-is_absent.true) (put_none _ _)

pub put_use-requires : goal.put_use-requires
put_use-requires c = room-same _ _ _ _ (if_some _ _ _ c.is_absent.ensures c.if-is_absent.false) c.requires

pub returns : goal.returns
returns c = put_same _ _ _ _ _ _ (if_some _ _ _ c.is_absent.ensures c.if-is_absent.false) c.put_use.ensures
