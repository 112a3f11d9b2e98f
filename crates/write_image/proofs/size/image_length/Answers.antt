-- `write_image::size::image_length` meets its contract.
use native.Mathlib.Omega.{arith}
use borrow.Author.Rules.{rules}
use Rattle.write_image.proofs.CappedSums.{capped_le, whole, size_few, size-many}
use Rattle.write_image.proofs.size.image_length.Goals as goal

pub add-items-requires : goal.add-items-requires
add-items-requires c = (capped_le _ _ c.front_length-front.ensures, omega arith, omega arith)

pub add-index-requires : goal.add-index-requires
add-index-requires c = (capped_le _ _ c.add-items.ensures, omega arith, omega arith)

pub add-payload-requires : goal.add-payload-requires
add-payload-requires c = (capped_le _ _ c.add-index.ensures, omega arith, omega arith)

pub add-total-requires : goal.add-total-requires
add-total-requires c = (capped_le _ _ c.add-payload.ensures, omega arith, omega arith)

pub returns-then-total-lt-MORE : goal.returns-then-total-lt-MORE
returns-then-total-lt-MORE c =
    let b = c in
    let add2 = c.add-index in
    let total = whole b.args.source.version b.args.counts _ _ _ _ _ b.front_length-front.ensures b.add-items.ensures
    add2.ensures c.add-payload.ensures c.add-total.ensures in size_few _ _ total (search rules)

pub returns-else-total-lt-MORE : goal.returns-else-total-lt-MORE
returns-else-total-lt-MORE c =
    let b = c in
    let add2 = c.add-index in
    let total = whole b.args.source.version b.args.counts _ _ _ _ _ b.front_length-front.ensures b.add-items.ensures
    add2.ensures c.add-payload.ensures c.add-total.ensures in size-many _ _ total (search rules)
