-- A table of eight-shift values serves for a step: the low byte goes by the table, the rest comes down eight places.
use mathlib.Core.Path.{◌≡◌, sym, ap, ap₂, ◌∙◌}
use Prim.Native.Nat.{ℕ, zero, suc, ◌+◌, ◌*◌, ◌/◌, ◌%◌, ◌^◌, ◌<◌}
use native.Mathlib.Nat.{mod-lt, mul-one, add-zero, zero-add, add-suc, suc-add, le_of_suc-le-suc, not-suc-le-zero}
use lib.ListN.{get_or}
use lib.Pow.{split, pow_pos}
use lib.Bits.{bit_xor, xor_shr, xor_mod, xor_shifted, shifted_half, shifted_even, xor_lt}
use Rattle.checksum.specs.Crc.{polynomial, shift, shifts, entry_of, values_from, crc_table, byte_step}
use Rattle.checksum.proofs.Xor.{xor_assoc}

-- ---- what stands at a place of the table

pub value-from : (f : ℕ → ℕ) (n i k : ℕ) → k < n → get_or (values_from f n i) k 0 ≡ f (i + k)
unfolding values_from
value-from f zero i k h = absurd (not-suc-le-zero h)
value-from f (suc n) i zero h = ap f (sym (add-zero i))
value-from f (suc n) i (suc k) h = value-from f n (suc i) k (le_of_suc-le-suc h) ∙ ap f (suc-add i k ∙ sym (add-suc i k))

pub entry_at : (k : ℕ) → k < 256 → get_or crc_table k 0 ≡ entry_of k
unfolding crc_table
entry_at k h = value-from entry_of 256 0 k h ∙ ap entry_of (zero-add k)

-- ---- the step by the table

-- what stands above the k low bits is not changed by k shifts, but comes down by k places
pub shifts-high : (k a y : ℕ) → shifts k (bit_xor (a * 2 ^ k) y) ≡ bit_xor a (shifts k y)
unfolding shifts shift
shifts-high zero a y = ap (λ x. bit_xor x y) (mul-one a)
shifts-high (suc k) a y =
    ap (shifts k)
    (ap₂ (λ x z. bit_xor x (polynomial * z))
    (xor_shr (a * 2 ^ suc k) y 1 ∙ ap (λ x. bit_xor x (y / 2)) (shifted_half a k))
    (xor_mod (a * 2 ^ suc k) y 1 ∙ ap (λ x. bit_xor x (y % 2)) (shifted_even a k))
    ∙ xor_assoc (a * 2 ^ k) (y / 2) (polynomial * (y % 2)))
    ∙ shifts-high k a (shift y)

-- the place in the table
pub index_lt : (c b : ℕ) → b < 256 → bit_xor (c % 256) b < 256
index_lt c b h = xor_lt 8 (c % 256) b (mod-lt c (pow_pos 8)) h

pub by_table : (c b : ℕ) → b < 256 → bit_xor (c / 256) (get_or crc_table (bit_xor (c % 256) b) 0) ≡ byte_step c b
unfolding byte_step
by_table c b h =
    ap (bit_xor (c / 256)) (entry_at (bit_xor (c % 256) b) (index_lt c b h))
    ∙ sym
    (ap (λ x. shifts 8 (bit_xor x b)) (sym (split c 8) ∙ sym (xor_shifted (c / 256) 8 (c % 256) (mod-lt c (pow_pos 8))))
    ∙ ap (shifts 8) (xor_assoc (c / 256 * 256) (c % 256) b)
    ∙ shifts-high 8 (c / 256) (bit_xor (c % 256) b))
