-- The first words decide where they differ; else the bytes behind them do, or all.
use native.Mathlib.Omega.{arith}
use Rattle.texts.proofs.Blocks.{alike-none, word-less, word_more, word_same}
use Rattle.texts.proofs.compare_front.Goals as goal

pub compare_bytes-requires : goal.compare_bytes-requires
compare_bytes-requires c = alike-none _ _

pub returns-then-x-y : goal.returns-then-x-y
returns-then-x-y c = word-less (alike-none _ _) c.word-x.ensures c.word-y.ensures c.if-x-y.true

pub returns-then-y-x : goal.returns-then-y-x
returns-then-y-x c = word_more (alike-none _ _) c.word-x.ensures c.word-y.ensures c.if-y-x.true

pub compare_bytes-requires-then-n-lt64 : goal.compare_bytes-requires-then-n-lt64
compare_bytes-requires-then-n-lt64 c =
    word_same (alike-none _ _) c.word-x.ensures c.word-y.ensures (omega arith)
