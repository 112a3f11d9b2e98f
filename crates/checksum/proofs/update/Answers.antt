-- The step by the table is the step by eight shifts.
use native.Mathlib.Omega.{arith}
use Rattle.checksum.proofs.Shifts.{index_lt, by_table}
use Rattle.checksum.proofs.update.Goals as goal

pub overflow_cast-index : goal.overflow_cast-index
overflow_cast-index c = omega (arith, index_lt c.args.crc c.from.result (omega arith))

pub offset_bounds-table-index : goal.offset_bounds-table-index
offset_bounds-table-index c = omega (arith, index_lt c.args.crc c.from.result (omega arith))

pub bounds-table-index : goal.bounds-table-index
bounds-table-index c = index_lt c.args.crc c.from.result (omega arith)

pub returns : goal.returns
returns c = rw (c.table.ensures, c.from.ensures) (by_table c.args.crc c.args.byte (omega arith))
