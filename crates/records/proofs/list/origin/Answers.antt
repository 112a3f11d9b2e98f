-- `records::list::origin` meets its contract.
use mathlib.Core.Path.{refl, ◌∙◌}
use Rattle.laws.proofs.Chains.{stop-last, go_last}
use Rattle.records.proofs.Lists.{origin-rule}
use Rattle.records.proofs.list.origin.Goals as goal

pub returns-then-not-good_text : goal.returns-then-not-good_text
returns-then-not-good_text c = stop-last _ _ _ c.good_text.ensures c.if-not-good_text.true-raw ∙ origin-rule _ _ _ _ _ _ _ _ c.requires.1 refl c.word-text.ensures c.word-len.ensures

pub returns : goal.returns
returns c = go_last _ _ 10 c.good_text.ensures c.if-not-good_text.false-raw ∙ origin-rule _ _ _ _ _ _ _ _ c.requires.1 refl c.word-text.ensures c.word-len.ensures
