-- `load::nodes::left_over` meets its contract.
use mathlib.Core.Path.{ap, ◌∙◌}
use Rattle.image.specs.declared.EntryCounts.{EntryCounts}
use Rattle.records.proofs.ByKind.{shown-used}
use Rattle.records.specs.declared.Sums.{Sums}
use Rattle.load.proofs.Rows.{left_over, none_over, index-over}
use Rattle.load.proofs.nodes.left_over.Goals as goal

pub returns-then-not-used_up : goal.returns-then-not-used_up
returns-then-not-used_up c = λ s counts sums. left_over s _ (c.used_up.ensures ∙ shown-used s _ _ _ _ sums counts) c.if-not-used_up.true-raw

pub returns-then-sums-counts : goal.returns-then-sums-counts
returns-then-sums-counts c =
    λ s counts sums.
    none_over s _ (c.used_up.ensures ∙ shown-used s _ _ _ _ sums counts) c.if-not-used_up.false-raw _ _
    (ap (λ (u : Sums). u.containers) sums) (ap (λ (n : EntryCounts). n.index) counts) c.if-sums-counts.true

pub returns-else-sums-counts : goal.returns-else-sums-counts
returns-else-sums-counts c =
    λ s counts sums.
    index-over s _ (c.used_up.ensures ∙ shown-used s _ _ _ _ sums counts) c.if-not-used_up.false-raw _ _
    (ap (λ (u : Sums). u.containers) sums) (ap (λ (n : EntryCounts). n.index) counts) c.if-sums-counts.false
