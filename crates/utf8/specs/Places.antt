-- UTF-8 by places: a byte is right or wrong by itself and the three bytes before it. `proofs/Places.antt` shows that it is the same.
use Rattle.std.specs.Prelude.{ℕ, ◌+◌, ◌-◌, ◌/◌, ◌≤◌, ◌<◌, ◌≡◌, List, Bool, true, not, cond, ◌&&◌, ◌||◌, length, get_or, leb, ltb, eqb}

-- 1 where the test passes, else 0
unfoldable pub flag : Bool → ℕ
flag t = cond t 1 0

unfoldable pub differ : Bool → Bool → Bool
differ a b = cond a (not b) b

-- after p3, p2, p1 a sequence is not whole
unfoldable pub due : ℕ → ℕ → ℕ → Bool
due p3 p2 p1 = (leb 0xc0 p1 || leb 0xe0 p2) || leb 0xf0 p3

-- a byte that continues a sequence
unfoldable pub continues : ℕ → Bool
continues b = eqb (b / 64) 2

-- a byte of no sequence
unfoldable pub never : ℕ → Bool
never b = eqb (b / 2) 96 || leb 0xf5 b

-- a second byte outside the range of its first
unfoldable pub too_low : ℕ → ℕ → Bool
too_low p b = (eqb p 0xe0 && ltb b 0xa0) || (eqb p 0xf0 && ltb b 0x90)

unfoldable pub too_high : ℕ → ℕ → Bool
too_high p b = (eqb p 0xed && leb 0xa0 b) || (eqb p 0xf4 && leb 0x90 b)

-- byte b after p3, p2 and p1, the nearest, is wrong
unfoldable pub wrong : ℕ → ℕ → ℕ → ℕ → Bool
wrong p3 p2 p1 b = ((differ (continues b) (due p3 p2 p1) || never b) || too_low p1 b) || too_high p1 b

-- byte b after p1 is wrong in a text of sequences of one and two bytes, or is the first byte of a longer one
unfoldable pub short_wrong : ℕ → ℕ → Bool
short_wrong p1 b = (differ (continues b) (leb 0xc0 p1) || eqb (b / 2) 96) || leb 0xe0 b

-- the byte at k + 3 is right
unfoldable pub right_at : List ℕ → ℕ → Bool
right_at s k = not (wrong (get_or s k 0) (get_or s (k + 1) 0) (get_or s (k + 2) 0) (get_or s (k + 3) 0))

-- the first three bytes are right
unfoldable pub starts : List ℕ → Bool
starts s =
    (not (wrong 0 0 0 (get_or s 0 0)) && not (wrong 0 0 (get_or s 0 0) (get_or s 1 0)))
    && not (wrong 0 (get_or s 0 0) (get_or s 1 0) (get_or s 2 0))

-- the last sequence is whole
unfoldable pub ends : List ℕ → Bool
ends s = not (due (get_or s (length s - 3) 0) (get_or s (length s - 2) 0) (get_or s (length s - 1) 0))

-- the first three bytes and those from 3 to i + 3 are right
pub record Passed (s : List ℕ) (i : ℕ) : Type 0 where
  pub room : i + 3 ≤ length s
  pub start : starts s ≡ true
  pub all : (k : ℕ) → k < i → right_at s k ≡ true

-- the bytes before e are ASCII
pub record AsciiTo (s : List ℕ) (e : ℕ) : Type 0 where
  pub to : e ≤ length s
  pub low : (k : ℕ) → k < e → get_or s k 0 < 0x80

-- names on an `unfolding` line what a computation with this module needs
unfoldable pub places : Unit {0}
unfolding flag differ due continues never too_low too_high wrong short_wrong right_at starts ends
places = tt
