-- Sums that stay at one more than a word can say.
use Prim.Native.Nat.{ℕ, ◌+◌, ◌*◌, ◌≤◌, ◌<◌}
use mathlib.Core.Path.{◌≡◌, refl, sym, ap, ◌∙◌}
use mathlib.Core.Bool.{cond}
use native.Mathlib.Omega.{arith}
use native.Mathlib.Nat.{mul-le-mul}
use native.Mathlib.Decide.{dec_lt}
use lib.Dec.{leb}
use Rattle.std.specs.Prelude.{min, None, Some}
use borrow.Author.Tests.{le-leb, lt-leb}
use Rattle.words.specs.Words.{NONE}
use Rattle.image.specs.Sections.{text_entry_size}
use Rattle.image.specs.declared.EntryCounts.{EntryCounts}
use Rattle.image.specs.Counted.{length_by}
use Rattle.write_image.specs.Length.{front_by, capped, size_of}

pub capped_few : (n : ℕ) → n < 4294967296 → capped n ≡ n
unfolding capped
capped_few n h = rw (le-leb n NONE (omega arith)) refl

pub capped-many : (n : ℕ) → 4294967296 ≤ n → capped n ≡ 4294967296
unfolding capped
capped-many n h = rw (lt-leb n NONE (omega arith)) refl

pub capped_least : (n r : ℕ) → r ≡ min n 4294967296 → r ≡ capped n
capped_least n r e = side (dec_lt n 4294967296)
  where
    side : Dec (n < 4294967296) → r ≡ capped n
    side (yes l) = omega (arith, e, capped_few n l)
    side (no l) = omega (arith, e, capped-many n (omega arith))

capped-most : (n : ℕ) → capped n ≤ 4294967296
capped-most n = side (dec_lt n 4294967296)
  where
    side : Dec (n < 4294967296) → capped n ≤ 4294967296
    side (yes l) = omega (arith, capped_few n l)
    side (no l) = omega (arith, capped-many n (omega arith))

pub capped_le : (r n : ℕ) → r ≡ capped n → r ≤ 4294967296
capped_le r n e = omega (arith, capped-most n)

-- one more term
pub capped-next : (n m : ℕ) → capped (capped n + m) ≡ capped (n + m)
capped-next n m = side (dec_lt n 4294967296)
  where
    side : Dec (n < 4294967296) → capped (capped n + m) ≡ capped (n + m)
    side (yes l) = ap (λ (x : ℕ). capped (x + m)) (capped_few n l)
    side (no l) = capped-many (capped n + m) (omega (arith, capped-many n (omega arith))) ∙ sym (capped-many (n + m) (omega arith))

-- the sum so far and the next
pub adds : (r t n m : ℕ) → r ≡ capped (t + m) → t ≡ capped n → r ≡ capped (n + m)
adds r t n m e f = e ∙ ap (λ (x : ℕ). capped (x + m)) f ∙ capped-next n m

-- the sections behind them
pub whole : (version : ℕ) (e : EntryCounts) (a b c d r : ℕ) → a ≡ capped (front_by version e) → b ≡ capped (a + e.items * text_entry_size) → c ≡ capped (b + e.index * text_entry_size)
    → d ≡ capped (c + e.payload * 1) → r ≡ capped (d + e.strings * 1) → r ≡ capped (length_by version e)
whole version e a b c d r pa pb pc pd pr =
    let items = adds b a (front_by version e) (e.items * text_entry_size) pb pa in
    let index = adds c b (front_by version e + e.items * text_entry_size) (e.index * text_entry_size) pc items in
    let payload = adds d c (front_by version e + e.items * text_entry_size + e.index * text_entry_size) (e.payload * 1) pd index in
    adds r d (front_by version e + e.items * text_entry_size + e.index * text_entry_size + e.payload * 1) (e.strings * 1) pr payload
    ∙ ap capped (omega arith)

pub size_few : (n r : ℕ) → r ≡ capped n → r < 4294967296 → Some r ≡ size_of n
unfolding size_of
size_few n r e h = side (dec_lt n 4294967296)
  where
    side : Dec (n < 4294967296) → Some r ≡ cond (leb n NONE) (Some n) None
    side (yes l) = rw (le-leb n NONE (omega arith)) (ap Some (e ∙ capped_few n l))
    side (no l) = absurd (omega (arith, capped-many n (omega arith)))

pub size-many : (n r : ℕ) → r ≡ capped n → 4294967296 ≤ r → None ≡ size_of n
unfolding size_of
size-many n r e h = side (dec_lt n 4294967296)
  where
    side : Dec (n < 4294967296) → None ≡ cond (leb n NONE) (Some n) None
    side (yes l) = absurd (omega (arith, capped_few n l))
    side (no l) = rw (lt-leb n NONE (omega arith)) refl

-- ---- a section of few or of many entries

pub product_many : (size count : ℕ) → 0 < size → 4294967296 ≤ count → 4294967296 ≤ count * size
product_many size count h k = let l : 1 ≤ size = omega arith in mul-le-mul k l
