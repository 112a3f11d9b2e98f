-- `words::put` meets its contract.
use native.Mathlib.Omega.{arith}
use Rattle.words.proofs.Words.{put_in_lem, put_out}
use borrow.Author.Rules.{rules}
use Rattle.words.proofs.put.Goals as goal

pub returns-then-n-lt4 : goal.returns-then-n-lt4
returns-then-n-lt4 c =
    let at = c.args in
    rw (put_out at.out.now at.at at.w (omega arith)) (search rules)

pub returns-then-at-n : goal.returns-then-at-n
returns-then-at-n c =
    let at = c.args in
    rw (put_in_lem at.out.now at.at at.w (omega arith)) c.put_word.ensures

pub returns-else-at-n : goal.returns-else-at-n
returns-else-at-n c =
    let at = c.args in
    rw (put_out at.out.now at.at at.w (omega arith)) (search rules)
