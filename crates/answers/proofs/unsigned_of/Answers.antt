-- `answers::unsigned_of` meets its contract.
use native.Mathlib.Omega.{arith}
use Rattle.answers.proofs.Bits.{negative, rest-fits, rest_back, below-bits, counting, same_back, above-bits, cast_fits}
use Rattle.answers.proofs.unsigned_of.Goals as goal

pub overflow_sub-rest : goal.overflow_sub-rest
overflow_sub-rest c = rest-fits _ c.ranges.n (negative _ c.ranges.n c.if-n-lt0.true)

pub overflow_cast-result : goal.overflow_cast-result
overflow_cast-result c =
    let n = negative _ c.ranges.n c.if-n-lt0.true in
    cast_fits _ n.at (rest_back _ c.ranges.n n) n.small

pub overflow_sub-result : goal.overflow_sub-result
overflow_sub-result c =
    let n = negative _ c.ranges.n c.if-n-lt0.true in
    rw (rest_back _ c.ranges.n n) (omega arith)

pub overflow_cast-result-else-n-lt0 : goal.overflow_cast-result-else-n-lt0
overflow_cast-result-else-n-lt0 c =
    let n = counting _ c.ranges.n c.if-n-lt0.false in
    cast_fits _ n.at (same_back _ c.ranges.n n) n.small

pub returns-then-n-lt0 : goal.returns-then-n-lt0
returns-then-n-lt0 c =
    let n = negative _ c.ranges.n c.if-n-lt0.true in
    rw (rest_back _ c.ranges.n n) (below-bits _ c.ranges.n n)

pub returns-else-n-lt0 : goal.returns-else-n-lt0
returns-else-n-lt0 c =
    let n = counting _ c.ranges.n c.if-n-lt0.false in
    rw (same_back _ c.ranges.n n) (above-bits _ c.ranges.n n)
