-- Laws of the bytes of a good text. No other file unfolds `good_bytes`.
use mathlib.Core.Path.{◌≡◌, sym}
use mathlib.Core.List.{List, [], ◌++◌}
use mathlib.Core.Bool.{true, false, true≢false}
use Prim.Native.Nat.{ℕ, ◌+◌}
use lib.ListN.{take, drop, get_or}
use Rattle.laws.specs.Lists.{Below}
use Rattle.utf8.specs.Utf8.{utf8}
use Rattle.utf8.specs.Places.{continues}
use Rattle.utf8.proofs.Laws.{utf8_nil, utf8_append, utf8-rest, utf8-ascii, utf8-bytes}
use Rattle.utf8.proofs.Within.{utf8-within}
use Rattle.image.specs.Sections.{good_bytes}

pub good-empty : good_bytes [] ≡ true
unfolding good_bytes
good-empty = utf8_nil

pub good_append : (a b : List ℕ) → good_bytes a ≡ true → good_bytes b ≡ true → good_bytes (a ++ b) ≡ true
unfolding good_bytes
good_append a b p q = utf8_append a b p q

-- what is left behind a good text is good
pub good-rest : (a b : List ℕ) → good_bytes (a ++ b) ≡ true → good_bytes a ≡ true → good_bytes b ≡ true
unfolding good_bytes
good-rest a b p q = utf8-rest a b p q

pub good-ascii : (bs : List ℕ) → Below 128 bs → good_bytes bs ≡ true
unfolding good_bytes
good-ascii bs h = utf8-ascii bs h

-- a part of a good text is good, if it cuts no sequence
pub good_uncut : (s : List ℕ) (at len : ℕ) → good_bytes s ≡ true → continues (get_or s at 0) ≡ false → continues (get_or s (at + len) 0) ≡ false
    → good_bytes (take len (drop at s)) ≡ true
unfolding good_bytes
good_uncut s at len h e f = utf8-within s at len h e f

-- a good text is made of bytes, and is UTF-8
pub good-bytes : (bs : List ℕ) → good_bytes bs ≡ true → Below 256 bs
unfolding good_bytes
good-bytes bs h = utf8-bytes bs h

pub good-utf8 : (bs : List ℕ) → good_bytes bs ≡ true → utf8 bs ≡ true
unfolding good_bytes
good-utf8 bs h = h

-- where nothing is known of strings as a whole, nothing has to be shown of them
pub none-known : {A : Type 0} → false ≡ true → A
none-known e = absurd (true≢false (sym e))
