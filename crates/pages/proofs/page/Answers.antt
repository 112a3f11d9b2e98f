-- `pages::page` meets its contract. The loop's invariant: the slots of the numbers before k are written.
use mathlib.Core.Path.{refl}
use native.Mathlib.Omega.{arith}
use Rattle.image.specs.Header.{sections_by}
use Rattle.pages.proofs.Slots.{page-refused, page-start, page-next, page_end}
use Rattle.pages.proofs.page.Goals as goal

pub returns-then-slots-numbers : goal.returns-then-slots-numbers
returns-then-slots-numbers c =
    let a = c.args in
    record {
      answer = (page-refused (sections_by a.bytes.now a.view) a.numbers.now a.slots.now (omega arith)).0;
      written = (page-refused (sections_by a.bytes.now a.view) a.numbers.now a.slots.now (omega arith)).1;
    }

pub loop-k-init : goal.loop-k-init
loop-k-init c =
    let a = c.args in
    page-start (sections_by a.bytes.now a.view) a.numbers.now a.slots.now (omega arith)

pub loop-k-preserved : goal.loop-k-preserved
loop-k-preserved c =
    let l = c in
    let a = l.args in
    page-next (sections_by a.bytes.now a.view) a.numbers.now a.slots.now l.loop-k.slots l.loop-k.k l.loop-k.invariant _ _ (omega arith) refl c.put_slot.ensures

pub returns : goal.returns
returns c =
    let l = c in
    let a = l.args in
    record {
      answer = (page_end (sections_by a.bytes.now a.view) a.numbers.now a.slots.now l.loop-k.slots l.loop-k.k l.loop-k.invariant (omega arith)).0;
      written = (page_end (sections_by a.bytes.now a.view) a.numbers.now a.slots.now l.loop-k.slots l.loop-k.k l.loop-k.invariant (omega arith)).1;
    }
