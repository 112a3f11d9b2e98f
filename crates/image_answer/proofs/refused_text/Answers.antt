-- Three pieces make the line.
use Rattle.std.proofs.Common.{rules, arith, [], ◌∷◌}
use Rattle.texts.specs.Text.{ascii}
use Rattle.texts.proofs.Decimal.{word-length}
use Rattle.image_answer.specs.Answer.{refused_line}
use Rattle.image_answer.proofs.Pieces.{begin, onward, line_is}
use Rattle.image_answer.proofs.refused_text.Goals as goal

pub put_text-requires : goal.put_text-requires
put_text-requires c =
    let d = word-length c.args.number (search rules) in
    omega arith

pub returns : goal.returns
unfolding refused_line ascii
returns c =
    let no = c.put_text-a.ensures in
    let number = c.put_number-b.ensures in
    let end = c.put_text.ensures in
    let d = word-length c.args.number (search rules) in
    let a = begin c.args.out.now _ (110 ∷ 111 ∷ 32 ∷ []) _ (omega arith) (search rules) no.value no.out_after in
    let b = onward _ _ _ _ _ _ _ a (omega arith) number.value number.out_after in
    let line = line_is _ _ _ _ (onward _ _ _ _ (10 ∷ []) _ _ b (omega arith) end.value end.out_after) in
    record { value = line.0; out_after = line.1 }
