-- `draft::path_list::may_follow` meets its contract.
use Rattle.draft.proofs.PathLists.{follow_sure, follow_divert, follow_never}
use Rattle.draft.proofs.path_list.may_follow.Goals as goal

pub returns-in-2 : goal.returns-in-2
returns-in-2 c = follow_sure c.args.node c.in-2.is

pub returns-in-4 : goal.returns-in-4
returns-in-4 c = follow_divert c.args.node c.in-4.is _ c.is_plain.ensures

pub returns-in_default : goal.returns-in_default
returns-in_default c = follow_never c.args.node c.in_default.in_default-own.rest.0.1 c.in_default.in_default-own.rest.1
