-- A name as the code hands it back; what a name or a number stands for; the hash of a text.
use Rattle.std.specs.Prelude.{ℕ, zero, suc, ◌+◌, ◌-◌, ◌*◌, ◌%◌, List, [], ◌∷◌, ◌++◌, length, get_or, take, replicate, None, Option, Some}
use Rattle.names.specs.Names.{number_in}
use Rattle.names.specs.declared.Name.{Name}

-- the longest name, LIST_INVERT, has 11 bytes
abbrev pub name_of : List ℕ → Name
name_of t = record { len = length t; bytes = t ++ replicate (11 - length t) 0 }

abbrev pub spelled : Name → List ℕ
spelled n = take n.len n.bytes

-- the element at a place, where there is one
unfoldable pub element_at : {A : Type 0} → List A → ℕ → Option A
element_at [] k = None
element_at (x ∷ xs) zero = Some x
element_at (x ∷ xs) (suc k) = element_at xs k

abbrev pub element_of : {A : Type 0} → List A → Option ℕ → Option A
element_of xs None = None
element_of xs (Some k) = element_at xs k

-- of the kinds, which the names name in order, the one that the text names
unfoldable pub element_named : {A : Type 0} → List A → List (List ℕ) → List ℕ → Option A
element_named kinds names t = element_of kinds (number_in names t)

-- no two commands agree in it modulo 58, and no two operators modulo 54, so that a text is compared with one name alone
unfoldable pub hash_of : List ℕ → ℕ
hash_of t = get_or t 0 0 * 23 + get_or t (length t - 1) 0 * 38 + length t % 16 * 8

-- names on an `unfolding` line what a computation with this module needs
unfoldable pub spellings : Unit {0}
unfolding element_at element_named hash_of
spellings = tt
