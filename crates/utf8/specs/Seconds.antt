-- The range of the byte that follows a first byte, for first bytes of two bytes more or three. It describes inner functions, and need not be
-- believed: `three-at` and `four-at` of `proofs/Table.antt` tie it to the table.
use Rattle.std.specs.Prelude.{ℕ, cond, eqb}

unfoldable pub lowest_after : ℕ → ℕ
lowest_after b = cond (eqb b 0xe0) 0xa0 (cond (eqb b 0xf0) 0x90 0x80)

unfoldable pub highest_after : ℕ → ℕ
highest_after b = cond (eqb b 0xed) 0x9f (cond (eqb b 0xf4) 0x8f 0xbf)
