-- `draft::path_list::mask_in` meets its contract.
use Rattle.draft.proofs.Windows.{mask_shifted, mask_zero}
use Rattle.draft.proofs.path_list.mask_in.Goals as goal

pub returns-then-node-number : goal.returns-then-node-number
returns-then-node-number c = mask_shifted _ _ c.if-node-number.true

pub returns-else-node-number : goal.returns-else-node-number
returns-else-node-number c = mask_zero _ _ c.if-node-number.false
