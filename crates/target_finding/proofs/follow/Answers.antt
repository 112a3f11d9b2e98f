-- `target_finding::follow` meets its contract.
use mathlib.Core.Path.{sym, ◌∙◌}
use borrow.Author.Tests.{not-true, not-false}
use Rattle.target_finding.proofs.Finding.{end_none, end_free, end_wrong, end_right, end_is}
use Rattle.target_finding.proofs.follow.Goals as goal

pub returns-then-not-needs_container : goal.returns-then-not-needs_container
returns-then-not-needs_container c = λ definitions items payload.
    end_free _ _ _ _ (sym (end_is _ _ _ _ _ (c.resolve_path.ensures definitions items payload)) ∙ c.in-Some.is) (sym c.needs_container.ensures ∙ not-true _ c.if-not-needs_container.true-raw)

pub returns-then-word_of-ne-CONTAINER : goal.returns-then-word_of-ne-CONTAINER
returns-then-word_of-ne-CONTAINER c = λ definitions items payload.
    end_wrong _ _ _ _ (sym (end_is _ _ _ _ _ (c.resolve_path.ensures definitions items payload)) ∙ c.in-Some.is) _ c.word_of.ensures (sym c.needs_container.ensures ∙ not-false _ c.if-not-needs_container.false-raw) c.if-word_of-ne-CONTAINER.true

pub returns-in-None : goal.returns-in-None
returns-in-None c = λ definitions items payload.
    end_none _ _ _ (sym (end_is _ _ _ _ _ (c.resolve_path.ensures definitions items payload)) ∙ c.in-None.is)

pub returns-else-word_of-ne-CONTAINER : goal.returns-else-word_of-ne-CONTAINER
returns-else-word_of-ne-CONTAINER c = λ definitions items payload.
    end_right _ _ _ _ (sym (end_is _ _ _ _ _ (c.resolve_path.ensures definitions items payload)) ∙ c.in-Some.is) _ c.word_of.ensures (sym c.needs_container.ensures ∙ not-false _ c.if-not-needs_container.false-raw) c.if-word_of-ne-CONTAINER.false
