-- `words::get` meets its contract.
use native.Mathlib.Omega.{arith}
use mathlib.Core.Path.{◌∙◌, sym}
use Rattle.words.proofs.Words.{word_in_lem, word_out}
use Rattle.words.proofs.get.Goals as goal

pub returns-then-n-lt4 : goal.returns-then-n-lt4
returns-then-n-lt4 c = sym (word_out c.args.bytes.now c.args.at (omega arith))

pub returns-then-at-n : goal.returns-then-at-n
returns-then-at-n c =
    let at = c in
    c.word.ensures ∙ sym (word_in_lem at.args.bytes.now at.args.at (omega arith))

pub returns-else-at-n : goal.returns-else-at-n
returns-else-at-n c = sym (word_out c.args.bytes.now c.args.at (omega arith))
