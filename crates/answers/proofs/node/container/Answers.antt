-- `answers::node::container` meets its contract.
use native.Mathlib.Omega.{arith}
use Rattle.answers.proofs.Records.{container-found}
use Rattle.answers.proofs.node.container.Goals as goal

pub returns : goal.returns
returns c = container-found _ c.args.node _ (omega arith) _ _ c.optional_text.ensures c.span_or-name.ensures c.text_alone.ensures
