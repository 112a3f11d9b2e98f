-- `write_text_keys::parts_below` meets its contract. One part is not below itself.
use mathlib.Core.Path.{◌≡◌, ◌∙◌}
use native.Mathlib.Omega.{arith}
use Rattle.std.proofs.lemmas.Bool.Decides.{nat_tests}
use Rattle.write_text_keys.proofs.Uses.{part-self}
use Rattle.write_text_keys.proofs.parts_below.Goals as goal

pub returns-else-ne : goal.returns-else-ne
returns-else-ne c =
    let p = c.args.p in
    let q = c.args.q in
    let one : p.offset ≡ q.offset = grind (arith, nat_tests, c.ne.ensures) in
    let other : p.len ≡ q.len = grind (arith, nat_tests, c.ne.ensures) in
    c.if-ne.false ∙ part-self c.args.strings.now p.offset p.len q.offset q.len one other
