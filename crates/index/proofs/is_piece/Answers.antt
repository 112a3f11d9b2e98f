-- `index::is_piece` meets its contract.
use Rattle.index.specs.Paths.{piece_of}
use Rattle.index.proofs.is_piece.Goals as goal

pub returns-then-no_name : goal.returns-then-no_name
unfolding piece_of
returns-then-no_name c = rw (← c.no_name.ensures, c.if-no_name.true) c.is_decimal.ensures

pub returns : goal.returns
unfolding piece_of
returns c = rw (← c.no_name.ensures, c.if-no_name.false, ← c.text_bytes.ensures) c.equal.ensures
