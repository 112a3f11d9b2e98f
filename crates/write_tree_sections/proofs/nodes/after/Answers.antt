-- `write_tree_sections::nodes::after` meets its contract.
use native.Mathlib.Omega.{arith}
use Rattle.write_tree_sections.proofs.NodeLoop.{container-fits, list-fits, after-container, after_list, after-other}
use Rattle.write_tree_sections.proofs.nodes.after.Goals as goal

pub overflow_add-result : goal.overflow_add-result
overflow_add-result c = omega (arith, (container-fits _ _ c.requires c.in-1.is).0)

pub overflow_add-result-in-1 : goal.overflow_add-result-in-1
overflow_add-result-in-1 c = omega (arith, (container-fits _ _ c.requires c.in-1.is).1)

pub overflow_add-result-in-12 : goal.overflow_add-result-in-12
overflow_add-result-in-12 c = omega (arith, list-fits _ _ c.requires c.in-12.is)

pub returns-in-1 : goal.returns-in-1
returns-in-1 c = after-container _ c.args.node c.in-1.is

pub returns-in-12 : goal.returns-in-12
returns-in-12 c = after_list _ c.args.node c.in-12.is

pub returns-in_default : goal.returns-in_default
returns-in_default c = after-other _ c.args.node c.in_default.in_default-own.rest.0.1 c.in_default.in_default-own.rest.1
