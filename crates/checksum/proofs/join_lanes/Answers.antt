-- Each lane's word, and what the lane before it was, go into the next.
use mathlib.Core.Path.{ap, ◌∙◌}
use native.Mathlib.Omega.{arith}
use lib.ListN.{length-take}
use Rattle.laws.proofs.Lists.{to_end}
use Rattle.checksum.specs.Crc.{crc_from}
use Rattle.checksum.proofs.Lanes.{lanes_end}
use Rattle.checksum.proofs.join_lanes.Goals as goal

pub slice_bounds-update_bytes-end : goal.slice_bounds-update_bytes-end
slice_bounds-update_bytes-end c = simp length-take (omega arith)

pub returns : goal.returns
returns c =
    let fourth = c in
    let third = fourth in
    let second = third in
    let first = second in
    let start = first in
    let a = start.args in
    c.update_bytes.ensures
    ∙ ap (crc_from fourth.update_bytes-last.result) (to_end 16 a.s.now)
    ∙ lanes_end a.s.now a.a a.b a.c a.d first.update_bytes-first.result second.update_bytes-second.result third.update_bytes-third.result fourth.update_bytes-last.result
    start.requires first.update_bytes-first.ensures second.update_bytes-second.ensures third.update_bytes-third.ensures fourth.update_bytes-last.ensures
