-- Words: unsigned, 32 bits, little-endian; NONE.
use Rattle.std.specs.Prelude.{ℕ, ◌+◌, ◌*◌, ◌/◌, ◌%◌, List, [], ◌∷◌, ◌++◌, Bool, cond, length, get_or, take, drop, eqb, leb}

-- FORMAT.md's NONE, the word with all bits set
abbrev pub NONE : ℕ
NONE = 4294967295

abbrev pub is_none : ℕ → Bool
is_none w = eqb w NONE

-- the word of four bytes, the lowest first
abbrev pub word4 : ℕ → ℕ → ℕ → ℕ → ℕ
word4 a b c d = a + 256 * (b + 256 * (c + 256 * d))

-- the word at a byte offset
unfoldable pub word_at : List ℕ → ℕ → ℕ
word_at bs at = word4 (get_or bs at 0) (get_or bs (at + 1) 0) (get_or bs (at + 2) 0) (get_or bs (at + 3) 0)

-- the same where four bytes lie there, else 0
unfoldable pub word_in : List ℕ → ℕ → ℕ
word_in bs at = cond (leb (at + 4) (length bs)) (word_at bs at) 0

-- a list of bytes as words; bytes past the last whole word are dropped
unfoldable pub words_of : List ℕ → List ℕ
words_of [] = []
words_of (a ∷ []) = []
words_of (a ∷ b ∷ []) = []
words_of (a ∷ b ∷ c ∷ []) = []
words_of (a ∷ b ∷ c ∷ d ∷ rest) = word4 a b c d ∷ words_of rest

-- a word as four bytes
abbrev pub bytes4 : ℕ → List ℕ
bytes4 w = w % 256 ∷ w / 256 % 256 ∷ w / 256 / 256 % 256 ∷ w / 256 / 256 / 256 % 256 ∷ []

-- the bytes with a word's four at an offset, where they fit; else the bytes as they are
unfoldable pub put_in : List ℕ → ℕ → ℕ → List ℕ
put_in bs at w = cond (leb (at + 4) (length bs)) (take at bs ++ bytes4 w ++ drop (at + 4) bs) bs

-- words one after the other as bytes
unfoldable pub bytes_of : List ℕ → List ℕ
bytes_of [] = []
bytes_of (w ∷ ws) = bytes4 w ++ bytes_of ws

-- names on an `unfolding` line what a computation with this module needs
unfoldable pub words : Unit {0}
unfolding word_at word_in words_of put_in bytes_of
words = tt
