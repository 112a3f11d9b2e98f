-- `index::piece_len` meets its contract.
use mathlib.Core.Path.{ap}
use lib.ListN.{length}
use Rattle.index.specs.Paths.{piece_of}
use Rattle.index.proofs.piece_len.Goals as goal

pub returns-then-no_name : goal.returns-then-no_name
unfolding piece_of
returns-then-no_name c = rw (← c.no_name.ensures, c.if-no_name.true) c.decimal_len.ensures

pub returns : goal.returns
unfolding piece_of
returns c = rw (← c.no_name.ensures, c.if-no_name.false) (ap length c.text_bytes.ensures)
