-- The checksum by four lanes of four bytes each, sixteen bytes at a time: the tables, and what four lanes stand for. It describes inner
-- functions, and need not be believed: `proofs/Lanes.antt` ties it to `crc_from`.
use Rattle.std.specs.Prelude.{ℕ, ◌*◌, ◌^◌, List, [], ◌∷◌, ◌++◌, length}
use Rattle.std.specs.Int.Bits.{bit_xor}
use Rattle.checksum.specs.Crc.{shifts, values_from}

-- a table of k shifts: those of i at place i
unfoldable pub shifted : ℕ → List ℕ
shifted k = values_from (shifts k) 256 0

-- the tables by which a word goes 128 shifts: that of its lowest byte first
unfoldable pub lane_entries : List ℕ
lane_entries = shifted 128 ++ (shifted 120 ++ (shifted 112 ++ shifted 104))

-- the number that bytes are, the first one lowest
unfoldable pub little_endian : List ℕ → ℕ
little_endian [] = 0
little_endian (b ∷ bs) = bit_xor (little_endian bs * 2 ^ 8) b

-- h above the 32 bits of x
abbrev pub above : ℕ → ℕ → ℕ
above h x = bit_xor x (h * 2 ^ 32)

-- four registers, each for the word that follows where the one before it stops: they are added to the bytes, and all leaves by shifts
unfoldable pub lanes_from : ℕ → ℕ → ℕ → ℕ → List ℕ → ℕ
lanes_from a b c d bs = shifts (length bs * 8) (bit_xor (above (above (above d c) b) a) (little_endian bs))
