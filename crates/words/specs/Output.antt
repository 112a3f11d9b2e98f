-- An output with words written into it.
use Rattle.std.specs.Prelude.{ℕ, ◌+◌, ◌*◌, List, ◌++◌, length, take, drop}
use Rattle.words.specs.Words.{bytes_of}

-- the bytes with those of words from an offset on
abbrev pub put_at : List ℕ → ℕ → List ℕ → List ℕ
put_at out at ws = take at out ++ bytes_of ws ++ drop (at + 4 * length ws) out

-- bytes over the start of an output
abbrev pub over : List ℕ → List ℕ → List ℕ
over bs out = bs ++ drop (length bs) out
