-- Shifts are linear over exclusive or, so bytes may be taken several at once: a checksum is so many shifts of one number, and the number's
-- parts may be shifted apart.
use mathlib.Core.Path.{◌≡◌, refl, sym, ap, ap₂, ◌∙◌}
use mathlib.Core.List.{List, [], ◌∷◌}
use Prim.Native.Nat.{ℕ, zero, suc, ◌+◌, ◌*◌, ◌/◌, ◌%◌, ◌^◌, ◌<◌}
use native.Mathlib.Nat.{zero-add, suc-add}
use native.Mathlib.Omega.{arith}
use lib.ListN.{length, get_or}
use lib.Bits.{bit_xor, xor_shifted}
use Rattle.checksum.specs.Crc.{polynomial, shift, shifts, byte_step, crc_from}
use Rattle.checksum.specs.Lanes.{shifted, little_endian}
use Rattle.checksum.specs.Polynomial.{◌⊕◌}
use Rattle.checksum.proofs.Xor.{each_bit, bit_lt}
use Rattle.checksum.proofs.Shifts.{shifts-high, value-from}
use Rattle.checksum.proofs.Polynomials.{sum_zero, sum_comm, sum_left-comm, sum_of_sums, sum_half, sum_odd}

abbrev Spreads : ℕ → ℕ → Type 0
Spreads x y = polynomial * bit_xor x y ≡ bit_xor (polynomial * x) (polynomial * y)

spreads : (x y : ℕ) → x < 2 → y < 2 → Spreads x y
spreads x y hx hy =
    each_bit (λ x. Spreads x y) (each_bit (λ y. Spreads 0 y) refl refl y hy) (each_bit (λ y. Spreads 1 y) refl refl y hy) x hx

-- ---- shifts are linear

shift_xor : (x y : ℕ) → shift (bit_xor x y) ≡ bit_xor (shift x) (shift y)
unfolding shift ◌⊕◌
shift_xor x y =
    ap₂ (λ h b. bit_xor h (polynomial * b)) (sum_half x y) (sum_odd x y)
    ∙ ap (bit_xor (bit_xor (x / 2) (y / 2))) (spreads (x % 2) (y % 2) (bit_lt x) (bit_lt y))
    ∙ sum_of_sums (x / 2) (y / 2) (polynomial * (x % 2)) (polynomial * (y % 2))

pub shifts_xor : (k x y : ℕ) → shifts k (bit_xor x y) ≡ bit_xor (shifts k x) (shifts k y)
unfolding shifts
shifts_xor zero x y = refl
shifts_xor (suc k) x y = ap (shifts k) (shift_xor x y) ∙ shifts_xor k (shift x) (shift y)

pub shifts-zero : (k : ℕ) → shifts k 0 ≡ 0
unfolding shifts shift
shifts-zero zero = refl
shifts-zero (suc k) = shifts-zero k

pub shifts_add : (m n c : ℕ) → shifts (m + n) c ≡ shifts n (shifts m c)
unfolding shifts
shifts_add zero n c = ap (λ k. shifts k c) (zero-add n)
shifts_add (suc m) n c = ap (λ k. shifts k c) (suc-add m n) ∙ shifts_add m n (shift c)

-- what stands above k bits comes down by k shifts
pub shifts_up : (k a : ℕ) → shifts k (a * 2 ^ k) ≡ a
unfolding ◌⊕◌
shifts_up k a = ap (shifts k) (sym (sum_zero (a * 2 ^ k))) ∙ shifts-high k a 0 ∙ ap (bit_xor a) (shifts-zero k) ∙ sum_zero a

-- a part that stands k bits up may be shifted where it stands
pub in_place : (k n m x : ℕ) → shifts (n + (k + m)) (x * 2 ^ k) ≡ shifts (k + m) (shifts n x * 2 ^ k)
in_place k n m x =
    let e : n + (k + m) ≡ k + (n + m) = omega arith in
    ap (λ j. shifts j (x * 2 ^ k)) e
    ∙ shifts_add k (n + m) (x * 2 ^ k)
    ∙ ap (shifts (n + m)) (shifts_up k x)
    ∙ shifts_add n m x
    ∙ sym (shifts_add k m (shifts n x * 2 ^ k) ∙ ap (shifts m) (shifts_up k (shifts n x)))

-- ---- bytes at once

pub crc_number : (c : ℕ) (bs : List ℕ) → crc_from c bs ≡ shifts (length bs * 8) (bit_xor c (little_endian bs))
unfolding crc_from byte_step shifts little_endian ◌⊕◌
crc_number c [] = sym (sum_zero c)
crc_number c (b ∷ bs) =
    let n = little_endian bs in
    let d = bit_xor c b in
    let e : suc (length bs) * 8 ≡ 8 + length bs * 8 = omega arith in
    crc_number (shifts 8 d) bs
    ∙ ap (shifts (length bs * 8)) (sum_comm (shifts 8 d) n ∙ sym (shifts-high 8 n d) ∙ ap (shifts 8) (sum_left-comm (n * 2 ^ 8) c b))
    ∙ sym (ap (λ j. shifts j (bit_xor c (bit_xor (n * 2 ^ 8) b))) e ∙ shifts_add 8 (length bs * 8) (bit_xor c (bit_xor (n * 2 ^ 8) b)))

-- ---- a word by four tables, a byte each

abbrev pub four_at : ℕ → ℕ → ℕ → ℕ → ℕ → ℕ
four_at s a b c d = bit_xor (bit_xor (bit_xor a (b * 2 ^ s)) (c * 2 ^ (s + s))) (d * 2 ^ (s + s + s))

down : (n k x : ℕ) → shifts (k + n) (x * 2 ^ k) ≡ shifts n x
down n k x = shifts_add k n (x * 2 ^ k) ∙ ap (shifts n) (shifts_up k x)

pub by_four-tables : (n a b c d : ℕ)
    → shifts (24 + n) (four_at 8 a b c d) ≡ bit_xor (bit_xor (bit_xor (shifts (24 + n) a) (shifts (16 + n) b)) (shifts (8 + n) c)) (shifts n d)
by_four-tables n a b c d =
    let p : 24 + n ≡ 8 + (16 + n) = omega arith in
    let q : 24 + n ≡ 16 + (8 + n) = omega arith in
    shifts_xor (24 + n) (bit_xor (bit_xor a (b * 2 ^ 8)) (c * 2 ^ 16)) (d * 2 ^ 24)
    ∙ ap₂ bit_xor
    (shifts_xor (24 + n) (bit_xor a (b * 2 ^ 8)) (c * 2 ^ 16)
    ∙ ap₂ bit_xor
    (shifts_xor (24 + n) a (b * 2 ^ 8) ∙ ap (bit_xor (shifts (24 + n) a)) (ap (λ j. shifts j (b * 2 ^ 8)) p ∙ down (16 + n) 8 b))
    (ap (λ j. shifts j (c * 2 ^ 16)) q ∙ down (8 + n) 16 c))
    (down n 24 d)

-- ---- four lanes of 32 bits: sixteen bytes at once, each lane by itself

pub by_lanes : (m a b c d r : ℕ)
    → shifts (128 + (96 + m)) (bit_xor (four_at 32 a b c d) (r * 2 ^ 128))
    ≡ shifts (96 + m) (bit_xor (four_at 32 (shifts 128 a) (shifts 128 b) (shifts 128 c) (shifts 128 d)) r)
by_lanes m a b c d r =
    let t = 128 + (96 + m) in
    let u = 96 + m in
    let f : ℕ → ℕ = shifts 128 in
    let ab = bit_xor a (b * 2 ^ 32) in
    let abc = bit_xor ab (c * 2 ^ 64) in
    shifts_xor t (bit_xor abc (d * 2 ^ 96)) (r * 2 ^ 128)
    ∙ ap₂ bit_xor
    (shifts_xor t abc (d * 2 ^ 96)
    ∙ ap₂ bit_xor
    (shifts_xor t ab (c * 2 ^ 64)
    ∙ ap₂ bit_xor
    (shifts_xor t a (b * 2 ^ 32) ∙ ap₂ bit_xor (shifts_add 128 u a) (lane 32 (64 + m) b (omega arith)))
    (lane 64 (32 + m) c (omega arith)))
    (lane 96 m d refl))
    (down u 128 r)
    ∙ sym
    (shifts_xor u (bit_xor (bit_xor (bit_xor (f a) (f b * 2 ^ 32)) (f c * 2 ^ 64)) (f d * 2 ^ 96)) r
    ∙ ap (λ z. bit_xor z (shifts u r))
    (shifts_xor u (bit_xor (bit_xor (f a) (f b * 2 ^ 32)) (f c * 2 ^ 64)) (f d * 2 ^ 96)
    ∙ ap (λ z. bit_xor z (shifts u (f d * 2 ^ 96)))
    (shifts_xor u (bit_xor (f a) (f b * 2 ^ 32)) (f c * 2 ^ 64)
    ∙ ap (λ z. bit_xor z (shifts u (f c * 2 ^ 64))) (shifts_xor u (f a) (f b * 2 ^ 32)))))
  where
    lane : (k j x : ℕ) → 96 + m ≡ k + j → shifts (128 + (96 + m)) (x * 2 ^ k) ≡ shifts (96 + m) (shifts 128 x * 2 ^ k)
    lane k j x e = ap (λ u. shifts (128 + u) (x * 2 ^ k)) e ∙ in_place k 128 j x ∙ ap (λ u. shifts u (shifts 128 x * 2 ^ k)) (sym e)

-- ---- tables of shifts

pub shifted_at : (k i : ℕ) → i < 256 → get_or (shifted k) i 0 ≡ shifts k i
unfolding shifted
shifted_at k i h = value-from (shifts k) 256 0 i h ∙ ap (shifts k) (zero-add i)

pub comm : (p q : ℕ) → bit_xor p q ≡ bit_xor q p
unfolding ◌⊕◌
comm p q = sum_comm p q

-- a number is its four bytes
pub four_bytes : (x : ℕ) → four_at 8 (x % 256) (x / 256 % 256) (x / 65536 % 256) (x / 16777216) ≡ x
four_bytes x =
    let a = x % 256 in
    let b = x / 256 % 256 in
    let c = x / 65536 % 256 in
    let d = x / 16777216 in
    let ha : a < 2 ^ 8 = omega arith in
    let hab : b * 2 ^ 8 + a < 2 ^ 16 = omega arith in
    let habc : c * 2 ^ 16 + (b * 2 ^ 8 + a) < 2 ^ 24 = omega arith in
    let ab : bit_xor a (b * 2 ^ 8) ≡ b * 2 ^ 8 + a = comm a (b * 2 ^ 8) ∙ xor_shifted b 8 a ha in
    let abc : bit_xor (bit_xor a (b * 2 ^ 8)) (c * 2 ^ 16) ≡ c * 2 ^ 16 + (b * 2 ^ 8 + a) =
    ap (λ z. bit_xor z (c * 2 ^ 16)) ab ∙ comm (b * 2 ^ 8 + a) (c * 2 ^ 16) ∙ xor_shifted c 16 (b * 2 ^ 8 + a) hab in
    ap (λ z. bit_xor z (d * 2 ^ 24)) abc
    ∙ comm (c * 2 ^ 16 + (b * 2 ^ 8 + a)) (d * 2 ^ 24)
    ∙ xor_shifted d 24 (c * 2 ^ 16 + (b * 2 ^ 8 + a)) habc
    ∙ omega arith

pub by_word : (n x : ℕ)
    → x < 2 ^ 32
    → bit_xor (bit_xor (bit_xor (get_or (shifted (24 + n)) (x % 256) 0) (get_or (shifted (16 + n)) (x / 256 % 256) 0)) (get_or (shifted (8 + n)) (x / 65536 % 256) 0)) (get_or (shifted n) (x / 16777216) 0)
    ≡ shifts (24 + n) x
by_word n x h =
    ap₂ bit_xor
    (ap₂ bit_xor
    (ap₂ bit_xor (shifted_at (24 + n) (x % 256) (omega arith)) (shifted_at (16 + n) (x / 256 % 256) (omega arith)))
    (shifted_at (8 + n) (x / 65536 % 256) (omega arith)))
    (shifted_at n (x / 16777216) (omega arith))
    ∙ sym (ap (shifts (24 + n)) (sym (four_bytes x)) ∙ by_four-tables n (x % 256) (x / 256 % 256) (x / 65536 % 256) (x / 16777216))
