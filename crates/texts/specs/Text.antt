-- Texts as lists of bytes: text order, equality, literals.
use Rattle.std.specs.Prelude.{ℕ, zero, suc, List, [], ◌∷◌, Bool, true, false, ◌||◌, ltb}
use Prim.Native.Char.{code}
use Prim.Native.String.{String, [] as empty, ◌∷◌ as ◌then◌}
use Rattle.std.specs.declared.cmp.Ordering.{Ordering}
use Rattle.std.specs.declared.cmp.Ordering.TheVariants.{Less, Equal, Greater}

-- by two first bytes, of which the first or the second is less, or else by what follows
abbrev pub by_head : Bool → Bool → Ordering → Ordering
by_head true u r = Less
by_head false true r = Greater
by_head false false r = r

-- text order is strict byte order: a shorter text comes before its extensions
unfoldable pub order_of : List ℕ → List ℕ → Ordering
order_of [] [] = Equal
order_of [] (b ∷ t) = Less
order_of (a ∷ s) [] = Greater
order_of (a ∷ s) (b ∷ t) = let r = order_of s t in by_head (ltb a b) (ltb b a) r

abbrev pub is_less : Ordering → Bool
is_less Less = true
is_less Equal = false
is_less Greater = false

abbrev pub is_equal : Ordering → Bool
is_equal Less = false
is_equal Equal = true
is_equal Greater = false

-- s comes before t
unfoldable pub before : List ℕ → List ℕ → Bool
before s t = is_less (order_of s t)

unfoldable pub same : List ℕ → List ℕ → Bool
same s t = is_equal (order_of s t)

-- one of the texts is t
unfoldable pub holds : List (List ℕ) → List ℕ → Bool
holds [] t = false
holds (x ∷ xs) t = same t x || holds xs t

-- numbers by their keys: a's comes before b's
abbrev pub by_key : (ℕ → List ℕ) → ℕ → ℕ → Bool
by_key key a b = before (key a) (key b)

-- entry j's text comes after that of the entry before it
abbrev pub rising : (ℕ → List ℕ) → ℕ → Bool
rising t zero = true
rising t (suc j) = before (t j) (t (suc j))

-- the bytes of a text literal whose characters are all below 128
unfoldable pub ascii : String → List ℕ
ascii empty = []
ascii (c then cs) = code c ∷ ascii cs

-- names on an `unfolding` line what a computation with this module needs
unfoldable pub texts : Unit {0}
unfolding order_of before same holds ascii
texts = tt
