-- One piece makes the line.
use Rattle.std.proofs.Common.{rules, arith, [], ◌∷◌}
use Rattle.texts.specs.Text.{ascii}
use Rattle.image_answer.specs.Answer.{long_line}
use Rattle.image_answer.proofs.Pieces.{begin, line_is}
use Rattle.image_answer.proofs.long_text.Goals as goal

pub returns : goal.returns
unfolding long_line ascii
returns c =
    let written = c.put_text.ensures in
    let line = line_is _ _ _ _ (begin c.args.out.now _ (108 ∷ 111 ∷ 110 ∷ 103 ∷ 10 ∷ []) _ (omega arith) (search rules) written.value written.out_after) in
    record { value = line.0; out_after = line.1 }
