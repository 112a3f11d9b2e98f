-- `draft::path_list::mark` meets its contract.
use Rattle.draft.proofs.Windows.{mark-tells, mark-sets}
use Rattle.draft.proofs.path_list.mark.Goals as goal

pub returns : goal.returns
returns c =
    let to = c in
    let mask = c.mask_in-mask.ensures in
    record {
      result_value = rw mask (mark-tells to.args.number to.args.node to.args.window.now);
      by_index = λ i h. rw mask (mark-sets to.args.number to.args.node to.args.window.now to.requires i h);
    }
