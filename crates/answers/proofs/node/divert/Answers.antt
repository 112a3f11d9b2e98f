-- `answers::node::divert` meets its contract.
use Rattle.answers.proofs.Records.{divert-refused, divert-found}
use Rattle.answers.proofs.node.divert.Goals as goal

pub returns-then-node-gt2 : goal.returns-then-node-gt2
returns-then-node-gt2 c = divert-refused _ c.args.node c.if-node-gt2.true

pub returns : goal.returns
returns c =
    divert-found _ c.args.node c.if-node-gt2.false _ _ _ _ c.optional_text.ensures c.span_or-text.ensures c.optional_text-2.ensures c.span_or-variable.ensures
