-- `write_text_uses::put_use` meets its contract.
use Rattle.write_text_uses.proofs.Puts.{put_two}
use Rattle.write_text_uses.proofs.put_use.Goals as goal

pub returns : goal.returns
returns c = put_two c.args.w.now c.args.at c.args.offset c.args.len c.requires
