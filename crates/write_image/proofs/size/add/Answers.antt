-- `write_image::size::add` meets its contract.
use mathlib.Core.Path.{sym}
use native.Mathlib.Omega.{arith}
use Rattle.write_image.proofs.CappedSums.{capped_least, capped-many, product_many}
use Rattle.write_image.proofs.size.add.Goals as goal

pub returns-then-count-ge-MORE : goal.returns-then-count-ge-MORE
returns-then-count-ge-MORE c =
    let a = c.args in
    sym (capped-many _ (omega (arith, product_many a.size a.count (omega arith) (omega arith))))

pub returns : goal.returns
returns c = capped_least _ _ c.min.ensures
