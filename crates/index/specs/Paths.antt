-- The canonical path of a container, and the text that fits it.
use Rattle.std.specs.Prelude.{ℕ, zero, suc, List, [], ◌∷◌, ◌++◌, Bool, true, cond, ◌&&◌, ◌||◌, not, eqb}
use Rattle.words.specs.Words.{is_none}
use Rattle.texts.specs.Text.{same, texts}
use Rattle.texts.specs.Decimal.{decimal, decimals}
use Rattle.texts.specs.Dots.{dot}
use Rattle.image.specs.Sections.{Sections, node_count, parent_of, place_of, f, part_at, absent, sections}

-- no name, or the empty one
abbrev pub no_name : ℕ → ℕ → Bool
no_name at len = absent at len || eqb len 0

unfoldable pub nameless : Sections → ℕ → Bool
nameless s i = no_name (f s i 0) (f s i 1)

-- a container's piece of a path: its non-empty name, else its place in decimal
unfoldable pub piece_of : List ℕ → ℕ → ℕ → ℕ → List ℕ
piece_of strings place at len = cond (no_name at len) (decimal place) (part_at strings at len)

unfoldable pub piece : Sections → ℕ → List ℕ
piece s i = piece_of s.strings (place_of s i) (f s i 0) (f s i 1)

-- joined by a dot, below the root without one
abbrev pub joined_by_dot : ℕ → List ℕ → List ℕ → List ℕ
joined_by_dot zero front last = last
joined_by_dot (suc parent) front last = front ++ dot ∷ last

-- the first argument bounds the steps up to the root
unfoldable pub path_from : ℕ → Sections → ℕ → List ℕ
path_from zero s i = []
path_from (suc n) s i =
    let front = path_from n s (parent_of s i) in
    cond (eqb i 0) [] (joined_by_dot (parent_of s i) front (piece s i))

-- from below the root down, joined by dots
abbrev pub canonical_path : Sections → ℕ → List ℕ
canonical_path s i = path_from (node_count s) s i

-- a container has a non-empty name or a place that is not NONE: it is not a nameless container of place NONE
abbrev pub name_or_place_by : ℕ → ℕ → ℕ → Bool
name_or_place_by place at len = not (no_name at len) || not (is_none place)

abbrev pub name_or_place : Sections → ℕ → Bool
name_or_place s i = name_or_place_by (place_of s i) (f s i 0) (f s i 1)

-- so have node i and all on the way from it up to the root, the root excepted; the first argument bounds the steps
unfoldable pub name_or_place_from : ℕ → Sections → ℕ → Bool
name_or_place_from zero s i = true
name_or_place_from (suc n) s i =
    let above = name_or_place_from n s (parent_of s i) in
    cond (eqb i 0) true (name_or_place s i && above)

-- no nameless container of place NONE, the root excepted, is node i or on the way to it
abbrev pub name_or_place_on_way : Sections → ℕ → Bool
name_or_place_on_way s i = name_or_place_from (node_count s) s i

-- an index text fits its target: it is the canonical path, and nothing fits where a nameless container of place NONE is the target or on the way
unfoldable pub fits : Sections → ℕ → List ℕ → Bool
fits s i t = name_or_place_on_way s i && same t (canonical_path s i)

-- names on an `unfolding` line what a computation with this module needs
unfoldable pub paths : Unit {0}
unfolding nameless piece_of piece path_from name_or_place_from fits sections texts decimals
paths = tt
