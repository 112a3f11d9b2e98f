-- The table's rule: the eight shifts of each of the 256 places are computed, and they are the table.
use mathlib.Core.Path.{refl}
use Rattle.checksum.specs.Crc.{shift, shifts, values_from, crc_table}
use Rattle.checksum.proofs.table.Goals as goal

pub returns : goal.returns
unfolding crc_table values_from shifts shift
returns c = refl
