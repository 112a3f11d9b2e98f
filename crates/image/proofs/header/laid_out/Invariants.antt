-- `image::header::laid_out` meets its contract. The loop's invariant: the table is that of the definition, the sections before k are right, and the last of them ends at `end`.
use Prim.Native.Nat.{◌-◌}
use Rattle.words.specs.Words.{word_at}
use mathlib.Core.Path.{◌≡◌}
use Rattle.image.specs.Header.{sizes, version_at}
use Rattle.image.proofs.Rows.{Laid}
use Rattle.image.proofs.header.laid_out.Given as goal

abbrev pub invariant-loop-k : goal.invariant-loop-k
invariant-loop-k l = (l.sizes ≡ sizes (word_at l.bytes version_at)) × Laid l.bytes l.end l.k

abbrev pub decreases-loop-k : goal.decreases-loop-k
decreases-loop-k l = 8 - l.k
