-- A table of shifts is known by its entries at the powers of two, since shifts are linear.
use mathlib.Core.Path.{◌≡◌, refl, sym, ap, ap₂, ◌∙◌}
use mathlib.Core.List.{List, [], ◌∷◌, ◌++◌, map}
use Prim.Native.Nat.{ℕ, zero, suc, ◌+◌, ◌/◌, ◌%◌, ◌^◌, ◌≤◌, ◌<◌}
use native.Mathlib.Nat.{zero-add, add-zero, suc-add, add-suc, one-mul, pow-suc}
use native.Mathlib.Omega.{arith}
use lib.ListN.{length, get_or, get_or-append}
use lib.Seq.{get_or-append-add}
use lib.Bits.{bit_xor, xor_shifted}
use Rattle.checksum.specs.Crc.{shifts, values_from}
use Rattle.checksum.specs.Lanes.{shifted, lane_entries}
use Rattle.checksum.proofs.Linear.{shifts_xor, shifts-zero, by_word}

-- twice as many entries: those so far, and those so far with the next power's added
unfoldable pub doubled : (ℕ → ℕ) → ℕ → List ℕ
doubled f zero = 0 ∷ []
doubled f (suc n) =
    let t = doubled f n in
    let b = f (2 ^ n) in
    t ++ map (bit_xor b) t

values_append : (f : ℕ → ℕ) (m n i : ℕ) → values_from f (m + n) i ≡ values_from f m i ++ values_from f n (i + m)
unfolding values_from
values_append f zero n i = ap₂ (values_from f) (zero-add n) (sym (add-zero i))
values_append f (suc m) n i =
    ap (λ k. values_from f k i) (suc-add m n)
    ∙ ap (λ t. f i ∷ t) (values_append f m n (suc i) ∙ ap (λ k. values_from f m (suc i) ++ values_from f n k) (suc-add i m ∙ sym (add-suc i m)))

-- above a power of two
value-above : (k j i : ℕ) → i < 2 ^ j → shifts k (2 ^ j + i) ≡ bit_xor (shifts k (2 ^ j)) (shifts k i)
value-above k j i h =
    ap (shifts k) (ap (λ x. x + i) (sym (one-mul (2 ^ j))) ∙ sym (xor_shifted 1 j i h) ∙ ap (λ x. bit_xor x i) (one-mul (2 ^ j)))
    ∙ shifts_xor k (2 ^ j) i

values_above : (k j n i : ℕ) → i + n ≤ 2 ^ j → values_from (shifts k) n (2 ^ j + i) ≡ map (bit_xor (shifts k (2 ^ j))) (values_from (shifts k) n i)
unfolding values_from
values_above k j zero i h = refl
values_above k j (suc n) i h =
    ap₂ (λ x t. x ∷ t) (value-above k j i (omega arith))
    (ap (values_from (shifts k) n) (sym (add-suc (2 ^ j) i)) ∙ values_above k j n (suc i) (omega arith))

pub is_doubled : (k n : ℕ) → doubled (shifts k) n ≡ values_from (shifts k) (2 ^ n) 0
unfolding doubled values_from
is_doubled k zero = ap (λ x. x ∷ []) (sym (shifts-zero k))
is_doubled k (suc n) =
    let f : ℕ → ℕ = shifts k in
    let e : 2 ^ suc n ≡ 2 ^ n + 2 ^ n = pow-suc 2 n ∙ omega arith in
    ap (λ t. t ++ map (bit_xor (f (2 ^ n))) t) (is_doubled k n)
    ∙ ap (λ t. values_from f (2 ^ n) 0 ++ t)
    (sym (values_above k n (2 ^ n) 0 (omega arith)) ∙ ap (values_from f (2 ^ n)) (add-zero (2 ^ n) ∙ sym (zero-add (2 ^ n))))
    ∙ sym (ap (λ m. values_from f m 0) e ∙ values_append f (2 ^ n) (2 ^ n) 0)

unfoldable pub lane_doubled : List ℕ
lane_doubled = doubled (shifts 128) 8 ++ (doubled (shifts 120) 8 ++ (doubled (shifts 112) 8 ++ doubled (shifts 104) 8))

pub lane-doubled : lane_doubled ≡ lane_entries
unfolding lane_doubled lane_entries shifted
lane-doubled = ap₂ (λ s t. s ++ t) (is_doubled 128 8) (ap₂ (λ s t. s ++ t) (is_doubled 120 8) (ap₂ (λ s t. s ++ t) (is_doubled 112 8) (is_doubled 104 8)))

-- ---- what stands in the four tables

length_values : (f : ℕ → ℕ) (n i : ℕ) → length (values_from f n i) ≡ n
unfolding values_from
length_values f zero i = refl
length_values f (suc n) i = ap suc (length_values f n (suc i))

length-shifted : (k : ℕ) → length (shifted k) ≡ 256
unfolding shifted
length-shifted k = length_values (shifts k) 256 0

in_first : (k : ℕ) (t : List ℕ) (i : ℕ) → i < 256 → get_or (shifted k ++ t) i 0 ≡ get_or (shifted k) i 0
in_first k t i h = get_or-append (shifted k) t 0 i (omega (arith, length-shifted k))

past_first : (k : ℕ) (t : List ℕ) (i j : ℕ) → j ≡ i + 256 → get_or (shifted k ++ t) j 0 ≡ get_or t i 0
past_first k t i j e =
    let f : j ≡ length (shifted k) + i = omega (arith, length-shifted k) in
    ap (λ n. get_or (shifted k ++ t) n 0) f ∙ get_or-append-add (shifted k) t i 0

pub by_tables : (x : ℕ)
    → x < 2 ^ 32
    → bit_xor (bit_xor (bit_xor (get_or lane_entries (x % 256) 0) (get_or lane_entries (x / 256 % 256 + 256) 0)) (get_or lane_entries (x / 65536 % 256 + 512) 0)) (get_or lane_entries (x / 16777216 + 768) 0)
    ≡ shifts 128 x
unfolding lane_entries
by_tables x h =
    let i = x % 256 in
    let j = x / 256 % 256 in
    let k = x / 65536 % 256 in
    let l = x / 16777216 in
    let d = shifted 104 in
    let cd = shifted 112 ++ d in
    let bcd = shifted 120 ++ cd in
    ap₂ bit_xor
    (ap₂ bit_xor
    (ap₂ bit_xor
    (in_first 128 bcd i (omega arith))
    (past_first 128 bcd j (j + 256) refl ∙ in_first 120 cd j (omega arith)))
    (past_first 128 bcd (k + 256) (k + 512) (omega arith) ∙ past_first 120 cd k (k + 256) refl ∙ in_first 112 d k (omega arith)))
    (past_first 128 bcd (l + 512) (l + 768) (omega arith) ∙ past_first 120 cd (l + 256) (l + 512) (omega arith) ∙ past_first 112 d l (l + 256) refl)
    ∙ by_word 104 x h
