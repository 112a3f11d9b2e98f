-- Five pieces make the line.
use Rattle.std.proofs.Common.{rules, arith, [], ◌∷◌}
use Rattle.texts.specs.Text.{ascii}
use Rattle.texts.proofs.Decimal.{word-length}
use Rattle.image_answer.specs.Answer.{accepted_line}
use Rattle.image_answer.proofs.Pieces.{begin, onward, line_is}
use Rattle.image_answer.proofs.accepted_text.Goals as goal

pub put_text-c-requires : goal.put_text-c-requires
put_text-c-requires c =
    let d = word-length c.args.version (search rules) in
    omega arith

pub put_number-d-requires : goal.put_number-d-requires
put_number-d-requires c =
    let d = word-length c.args.version (search rules) in
    omega arith

pub put_text-requires : goal.put_text-requires
put_text-requires c =
    let d = word-length c.args.version (search rules) in
    let e = word-length c.args.nodes (search rules) in
    omega arith

pub returns : goal.returns
unfolding accepted_line ascii
returns c =
    let ok = c.put_text-a.ensures in
    let version = c.put_number-b.ensures in
    let space = c.put_text-c.ensures in
    let nodes = c.put_number-d.ensures in
    let end = c.put_text.ensures in
    let d = word-length c.args.version (search rules) in
    let e = word-length c.args.nodes (search rules) in
    let first = begin c.args.out.now _ (111 ∷ 107 ∷ 32 ∷ []) _ (omega arith) (search rules) ok.value ok.out_after in
    let second = onward _ _ _ _ _ _ _ first (omega arith) version.value version.out_after in
    let third = onward _ _ _ _ (32 ∷ []) _ _ second (omega arith) space.value space.out_after in
    let fourth = onward _ _ _ _ _ _ _ third (omega arith) nodes.value nodes.out_after in
    let line = line_is _ _ _ _ (onward _ _ _ _ (10 ∷ []) _ _ fourth (omega arith) end.value end.out_after) in
    record { value = line.0; out_after = line.1 }
