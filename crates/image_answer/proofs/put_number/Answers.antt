-- The digits fit, and come back in their place.
use Rattle.std.proofs.Common.{rules, arith}
use lib.ListN.{length-take, length-drop}
use Rattle.texts.proofs.Decimal.{word-length}
use Rattle.image_answer.proofs.put_number.Goals as goal

pub put_decimal-requires : goal.put_decimal-requires
put_decimal-requires c =
    let d = word-length c.args.n (search rules) in
    simp (length-take, length-drop) (omega arith)
