-- The two parts around the checksum's own bytes, which may lie past the end.
use native.Mathlib.Omega.{arith}
use lib.ListN.{length-take}
use Rattle.checksum.proofs.Checksums.{checksum-parts}
use Rattle.checksum.proofs.checksum.Goals as goal

pub slice_bounds-update_all-end : goal.slice_bounds-update_all-end
slice_bounds-update_all-end c = simp length-take (omega arith)

pub returns : goal.returns
returns c =
    let head = c in
    let ends = head in
    checksum-parts _ _ _ _ _ ends.min-end.ensures ends.min-start.ensures head.update_all-head.ensures c.update_all.ensures
