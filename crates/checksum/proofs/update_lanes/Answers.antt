-- The loop's invariant: the four lanes, with what is left of the bytes, give the checksum of them all.
use mathlib.Core.Path.{ap, ◌∙◌}
use Rattle.laws.proofs.Lists.{to_end}
use Rattle.checksum.specs.Lanes.{lanes_from}
use Rattle.checksum.proofs.Lanes.{lanes_start, lanes_next}
use borrow.Author.Rules.{rules}
use Rattle.checksum.proofs.update_lanes.Goals as goal

pub loop-i-init : goal.loop-i-init
loop-i-init c = (search rules, lanes_start c.args.crc c.args.s.now)

pub loop-i-preserved : goal.loop-i-preserved
loop-i-preserved c =
    let third = c in
    let second = third in
    let first = second in
    let at = first in
    let l = at.loop-i in (
      search rules,
      rw (first.lane-a.ensures, second.lane-b.ensures, third.lane-c.ensures, c.lane-d.ensures)
          (lanes_next at.args.s.now l.i l.a l.b l.c l.d (search rules) ∙ l.invariant.1),
    )

pub returns : goal.returns
returns c =
    let at = c in
    let l = at.loop-i in
    c.join_lanes.ensures ∙ ap (lanes_from l.a l.b l.c l.d) (to_end l.i at.args.s.now) ∙ l.invariant.1
