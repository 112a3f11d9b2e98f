-- `answers::node::numbered` meets its contract.
use mathlib.Core.Path.{refl}
use Rattle.answers.proofs.node.numbered.Goals as goal

pub returns : goal.returns
returns c = rw (c.in_ok-known.was, c.value_alone.ensures) refl

pub returns-in_err-known : goal.returns-in_err-known
returns-in_err-known c = rw (c.in_err-known.was, c.from_residual.ensures) refl
