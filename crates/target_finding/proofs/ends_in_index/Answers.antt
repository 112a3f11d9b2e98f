-- `target_finding::ends_in_index` meets its contract.
use Rattle.target_finding.proofs.Finding.{index-none, index-last}
use Rattle.target_finding.proofs.ends_in_index.Goals as goal

pub returns-then-count-eq0 : goal.returns-then-count-eq0
returns-then-count-eq0 c = index-none _ _ _ c.if-count-eq0.true

pub returns : goal.returns
returns c = index-last _ _ _ _ c.if-count-eq0.false c.word.ensures
