-- `image::header::laid_out` meets its contract. The loop's invariant: the table is that of the definition, the sections before k are right, and the last of them ends at `end`.
use native.Mathlib.Omega.{arith}
use borrow.Author.Rules.{rules}
use mathlib.Core.Path.{ap, ◌∙◌}
use Rattle.image.specs.Header.{sizes}
use Rattle.image.proofs.Rows.{laid-start, laid-elsewhere, laid_more, laid-empty, laid-right, table-size, table-bound, table-past, table-next}
use Rattle.image.proofs.header.laid_out.Goals as goal

pub loop-k-init : goal.loop-k-init
loop-k-init c = (c.section_sizes-sizes.ensures ∙ ap sizes c.word.ensures, laid-start _)

pub returns-then-offset-end : goal.returns-then-offset-end
returns-then-offset-end c =
    let at = c.loop-k in
    laid-elsewhere _ at.end at.k at.invariant.1 c.section_at-section.result c.section_at-section.ensures (search rules) c.if-offset-end.true

pub overflow_cast-end-in-loop-k : goal.overflow_cast-end-in-loop-k
overflow_cast-end-in-loop-k c = let at = c.loop-k in omega (arith, table-size _ _ at.k at.invariant.0)

pub overflow_mul-end : goal.overflow_mul-end
overflow_mul-end c =
    let at = c.loop-k in
    omega (arith, table-bound _ _ c.section_at-section.result.count at.k at.invariant.0 (omega arith))

pub overflow_add-end : goal.overflow_add-end
overflow_add-end c =
    let at = c.loop-k in
    omega (arith, table-bound _ _ c.section_at-section.result.count at.k at.invariant.0 (omega arith))

pub returns-then-bytes-end : goal.returns-then-bytes-end
returns-then-bytes-end c =
    let at = c.loop-k in
    table-past _ at.end at.k at.invariant.1 c.section_at-section.result c.section_at-section.ensures (search rules) _ at.invariant.0 c.if-offset-end.false c.if-bytes-end.true

pub loop-k-preserved : goal.loop-k-preserved
loop-k-preserved c =
    let at = c.loop-k in
    (at.invariant.0, table-next _ at.end at.k at.invariant.1 c.section_at-section.result c.section_at-section.ensures (search rules) _ at.invariant.0 c.if-offset-end.false c.if-bytes-end.false)

pub returns-then-end-bytes : goal.returns-then-end-bytes
returns-then-end-bytes c =
    let at = c.loop-k in
    laid_more _ at.end at.k at.invariant.1 c.loop-k-test.false c.if-end-bytes.true

pub returns-then-nodes-eq0 : goal.returns-then-nodes-eq0
returns-then-nodes-eq0 c =
    let at = c.loop-k in
    laid-empty _ at.end at.k at.invariant.1 c.loop-k-test.false c.section_at-nodes.result c.section_at-nodes.ensures c.if-nodes-eq0.true

pub returns-else-nodes-eq0 : goal.returns-else-nodes-eq0
returns-else-nodes-eq0 c =
    let at = c.loop-k in
    laid-right _ at.end at.k at.invariant.1 c.loop-k-test.false c.if-end-bytes.false c.section_at-nodes.result c.section_at-nodes.ensures c.if-nodes-eq0.false
