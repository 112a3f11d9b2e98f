-- `static_targets::resolve` meets its contract.
use mathlib.Core.Path.{sym, ◌∙◌}
use Rattle.image.proofs.Refused.{refused-alike, some-refused, none-refused}
use Rattle.static_targets.proofs.Steps.{misshapen, targets_ask, no_target_lem, set_asks, all_set}
use borrow.Author.Rules.{rules}
use Rattle.static_targets.proofs.resolve.Goals as goal

pub returns-in_err-tree_rule : goal.returns-in_err-tree_rule
returns-in_err-tree_rule c =
    let to = c.args in
    rw (refused-alike _ _ _ c.in_err-tree_rule.was c.from_residual.ensures.1) (misshapen to.source.version to.nodes.now to.children.now to.named.now to.definitions.now to.items.now to.payload.now to.strings.now to.paths.now to.components.now to.names.now c.requires.fact.0 _ c.tree_rule.ensures (some-refused _ _ c.in_err-tree_rule.was))

pub targets_rule-requires : goal.targets_rule-requires
targets_rule-requires c =
    let to = c.args in
    targets_ask to.source.version to.nodes.now to.children.now to.named.now to.definitions.now to.items.now to.payload.now to.strings.now to.paths.now to.components.now c.tree_rule.new.work (search rules) c.requires.fact.1

pub returns-in_err-targets_rule : goal.returns-in_err-targets_rule
returns-in_err-targets_rule c =
    let to = c.args in
    let found = c.targets_rule.ensures to.definitions.now to.items.now to.payload.now in
    rw (refused-alike _ _ _ c.in_err-targets_rule.was c.from_residual-in_err-targets_rule.ensures.1) (no_target_lem to.source.version to.nodes.now to.children.now to.named.now to.definitions.now to.items.now to.payload.now to.strings.now to.paths.now to.components.now to.names.now c.requires.fact.0 _ c.tree_rule.ensures (none-refused _ _ c.in_ok-tree_rule.was) _ _ found (some-refused _ _ c.in_err-targets_rule.was))

pub set_targets-requires : goal.set_targets-requires
set_targets-requires c =
    let to = c.args in
    let asked = c.requires in
    let found = c.targets_rule.ensures to.definitions.now to.items.now to.payload.now in
    set_asks to.source.version to.nodes.now to.children.now to.named.now to.definitions.now to.items.now to.payload.now to.strings.now to.paths.now to.components.now to.names.now asked.fact.0 _ c.tree_rule.ensures (none-refused _ _ c.in_ok-tree_rule.was) _ _ found (none-refused _ _ c.in_ok-targets_rule.was) (search rules) asked.fact.1

pub returns : goal.returns
returns c =
    let to = c.args in
    let asked = c.requires in
    let found = c.targets_rule.ensures to.definitions.now to.items.now to.payload.now in
    rw (sym (none-refused _ _ c.in_ok-targets_rule.was))
    (all_set to.source.version to.nodes.now to.children.now to.named.now to.definitions.now to.items.now to.payload.now to.strings.now to.paths.now to.components.now to.names.now asked.fact.0 _ c.tree_rule.ensures (none-refused _ _ c.in_ok-tree_rule.was) _ _ found (none-refused _ _ c.in_ok-targets_rule.was)
    (c.targets_rule.auto.work ∙ c.tree_rule.auto.work ∙ asked.work_value) _ c.set_targets.ensures)
