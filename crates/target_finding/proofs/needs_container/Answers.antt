-- `target_finding::needs_container` meets its contract.
use Rattle.target_finding.proofs.Finding.{choice_due, reference_due, none_due, divert_due}
use Rattle.target_finding.proofs.needs_container.Goals as goal

pub returns-then-tag-eq-CHOICE : goal.returns-then-tag-eq-CHOICE
returns-then-tag-eq-CHOICE c = choice_due _ _ c.if-tag-eq-CHOICE.true

pub returns-then-tag-eq-REFERENCE : goal.returns-then-tag-eq-REFERENCE
returns-then-tag-eq-REFERENCE c = reference_due _ _ c.if-tag-eq-REFERENCE.true

pub returns-then-tag-ne-DIVERT : goal.returns-then-tag-ne-DIVERT
returns-then-tag-ne-DIVERT c = none_due _ c.if-tag-eq-CHOICE.false c.if-tag-eq-REFERENCE.false _ c.if-tag-ne-DIVERT.true

pub returns : goal.returns
returns c = divert_due _ c.if-tag-eq-CHOICE.false c.if-tag-eq-REFERENCE.false _ _ c.if-tag-ne-DIVERT.false c.ends_in_index.ensures
