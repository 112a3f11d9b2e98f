-- The names of the 26 commands and the 31 operators; a name's number is its place in the list.
use Rattle.std.specs.Prelude.{ℕ, suc, List, [], ◌∷◌, cond, None, Option, Some, option_map}
use Rattle.texts.specs.Text.{ascii, same, texts}

unfoldable pub commands : List (List ℕ)
commands =
    ascii "ev" ∷ ascii "out" ∷ ascii "/ev" ∷ ascii "du" ∷ ascii "pop" ∷ ascii "~ret" ∷ ascii "->->" ∷ ascii "str" ∷ ascii "/str" ∷ ascii "nop"
    ∷ ascii "choiceCnt" ∷ ascii "turn" ∷ ascii "turns" ∷ ascii "readc" ∷ ascii "rnd" ∷ ascii "srnd" ∷ ascii "visit" ∷ ascii "seq" ∷ ascii "thread"
    ∷ ascii "done" ∷ ascii "end" ∷ ascii "listInt" ∷ ascii "range" ∷ ascii "lrnd" ∷ ascii "#" ∷ ascii "/#" ∷ []

unfoldable pub operators : List (List ℕ)
operators =
    ascii "+" ∷ ascii "-" ∷ ascii "/" ∷ ascii "*" ∷ ascii "%" ∷ ascii "_" ∷ ascii "==" ∷ ascii ">" ∷ ascii "<" ∷ ascii ">=" ∷ ascii "<=" ∷ ascii "!="
    ∷ ascii "!" ∷ ascii "&&" ∷ ascii "||" ∷ ascii "MIN" ∷ ascii "MAX" ∷ ascii "POW" ∷ ascii "FLOOR" ∷ ascii "CEILING" ∷ ascii "INT" ∷ ascii "FLOAT"
    ∷ ascii "?" ∷ ascii "!?" ∷ ascii "^" ∷ ascii "LIST_MIN" ∷ ascii "LIST_MAX" ∷ ascii "LIST_ALL" ∷ ascii "LIST_COUNT" ∷ ascii "LIST_VALUE"
    ∷ ascii "LIST_INVERT" ∷ []

-- the number of a text, where it is one of the list's
unfoldable pub number_in : List (List ℕ) → List ℕ → Option ℕ
number_in [] t = None
number_in (x ∷ xs) t = let r = option_map suc (number_in xs t) in cond (same t x) (Some 0) r

-- names on an `unfolding` line what a computation with this module needs
unfoldable pub names : Unit {0}
unfolding commands operators number_in texts
names = tt
