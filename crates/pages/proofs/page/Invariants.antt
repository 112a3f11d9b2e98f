-- `pages::page` meets its contract. The loop's invariant: the slots of the numbers before k are written.
use Rattle.image.specs.Header.{sections_by}
use Rattle.pages.proofs.Slots.{PageSoFar}
use Rattle.pages.proofs.page.Given as goal

abbrev pub invariant-loop-k : goal.invariant-loop-k
invariant-loop-k l = PageSoFar (sections_by l.bytes l.view) l.numbers l.initial.slots l.slots l.k
