-- `replay::compare::same_words` meets its contract: the words passed agree.
use native.Mathlib.Omega.{arith}
use Rattle.replay.proofs.Comparing.{agree-none, agree-more, agree_all, unlike-word, unlike-length}
use borrow.Author.Rules.{rules}
use Rattle.replay.proofs.compare.same_words.Goals as goal

pub returns-then-part-words : goal.returns-then-part-words
returns-then-part-words c = unlike-length _ _ c.if-part-words.true

pub loop-i-init : goal.loop-i-init
loop-i-init c = (search rules, agree-none _ _)

pub returns-then-part_word-word : goal.returns-then-part_word-word
returns-then-part_word-word c = unlike-word _ _ _ _ c.part_word.ensures c.if-part_word-word.true

pub loop-i-preserved : goal.loop-i-preserved
loop-i-preserved c =
    (search rules, agree-more _ _ _ _ c.part_word.ensures c.if-part_word-word.false c.loop-i.invariant.1)

pub returns : goal.returns
returns c = agree_all _ _ _ c.loop-i.invariant.0 (omega arith) c.loop-i.invariant.1
