-- The invariant: both are alike so far.
use native.Mathlib.Omega.{arith}
use Rattle.texts.proofs.Blocks.{word-less, word_more, word_same}
use Rattle.texts.proofs.compare_words.Goals as goal

pub loop-i-init : goal.loop-i-init
loop-i-init c = c.alike_blocks-i.ensures

pub returns-then-x-y-2 : goal.returns-then-x-y-2
returns-then-x-y-2 c =
    let words = c in
    word-less words.loop-i.invariant.1 words.word-x.ensures words.word-y.ensures c.if-x-y-2.true

pub returns-then-x-y : goal.returns-then-x-y
returns-then-x-y c =
    let words = c in
    word_more words.loop-i.invariant.1 words.word-x.ensures words.word-y.ensures (omega arith)

pub loop-i-preserved : goal.loop-i-preserved
loop-i-preserved c =
    let words = c in
    (omega arith, word_same words.loop-i.invariant.1 words.word-x.ensures words.word-y.ensures c.if-x-y.false)

pub returns : goal.returns
returns c = c.compare_bytes.ensures
