-- `draft_tree::stands` meets its contract.
use mathlib.Core.Path.{sym, ◌∙◌}
use Rattle.image.proofs.Refused.{err-refused, not-err-passed}
use borrow.Author.Tests.{not-false}
use Rattle.records.proofs.ByKind.{shown-root}
use Rattle.draft.proofs.NodeTable.{node_is}
use Rattle.draft.proofs.Row21.{tree-passed, lists-passed}
use Rattle.draft_tree.proofs.Told.{asked, markable, all_marked, root-wrong, entries-wrong, orders-wrong, some-unlisted, rooted-decides}
use Rattle.draft_tree.proofs.stands.Goals as goal

pub node_at-requires : goal.node_at-requires
node_at-requires c = (asked _ _ _ _ _ _ _ _ _ c.requires).some

pub returns-then-not-root_right : goal.returns-then-not-root_right
returns-then-not-root_right c = root-wrong _ _ _ _ _ _ _ _ _ c.requires _ (c.root_right.ensures ∙ shown-root _ _ (node_is _ _ _ _ _ _ _ _ _ _ c.node_at.ensures)) c.if-not-root_right.true-raw

pub entries_right-requires : goal.entries_right-requires
entries_right-requires c = tree-passed _ _ _ _ _ _ _ _ (asked _ _ _ _ _ _ _ _ _ c.requires)

pub returns-then-not-entries_right : goal.returns-then-not-entries_right
returns-then-not-entries_right c = entries-wrong _ _ _ _ _ _ _ _ _ c.requires _ c.entries_right.ensures c.if-not-entries_right.true-raw

pub orders_rule-requires : goal.orders_rule-requires
orders_rule-requires c = lists-passed _ _ _ _ _ _ _ _ (asked _ _ _ _ _ _ _ _ _ c.requires)

pub returns-then-is_err : goal.returns-then-is_err
returns-then-is_err c = orders-wrong _ _ _ _ _ _ _ _ _ c.requires _ c.orders_rule.ensures (err-refused _ (sym c.is_err.ensures.value ∙ c.if-is_err.true))

pub all_listed-requires : goal.all_listed-requires
all_listed-requires c = markable _ _ _ _ _ _ _ _ _ c.requires

pub shape_of-work-then-not-all_listed : goal.shape_of-work-then-not-all_listed
shape_of-work-then-not-all_listed c = c.all_listed.ensures.long

pub returns-then-not-all_listed : goal.returns-then-not-all_listed
returns-then-not-all_listed c = some-unlisted _ _ _ _ _ _ _ _ _ c.requires _ _ c.all_listed.ensures c.if-not-all_listed.true-raw

pub all_rooted-requires : goal.all_rooted-requires
all_rooted-requires c =
    all_marked _ _ _ _ _ _ _ _ _ c.requires _ _ c.all_listed.ensures (not-false _ c.if-not-all_listed.false-raw)

pub shape_of-work : goal.shape_of-work
shape_of-work c = c.all_rooted.auto.work ∙ c.all_listed.ensures.long

pub returns : goal.returns
returns c =
    rooted-decides _ _ _ _ _ _ _ _ _ c.requires _ _ c.all_listed.ensures _ (c.root_right.ensures ∙ shown-root _ _ (node_is _ _ _ _ _ _ _ _ _ _ c.node_at.ensures))
    c.if-not-root_right.false-raw _ c.entries_right.ensures c.if-not-entries_right.false-raw _ c.orders_rule.ensures (not-err-passed _ (sym c.is_err.ensures.value ∙ c.if-is_err.false)) c.if-not-all_listed.false-raw _ c.all_rooted.ensures
