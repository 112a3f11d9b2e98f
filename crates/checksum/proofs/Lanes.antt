-- Four lanes are one register: where they begin, after sixteen bytes, and where they are joined.
use mathlib.Core.Path.{◌≡◌, refl, sym, ap, ap₂, ◌∙◌}
use mathlib.Core.List.{List, [], ◌∷◌, ◌++◌}
use Prim.Native.Nat.{ℕ, suc, ◌+◌, ◌-◌, ◌*◌, ◌^◌, ◌≤◌, ◌<◌}
use native.Mathlib.Nat.{mul-one}
use native.Mathlib.Omega.{arith}
use lib.ListN.{length, get_or, take, drop, take-append-drop, length-drop}
use lib.Seq.{drop-drop, length-take-le}
use lib.Bits.{bit_xor, xor_shifted}
use Rattle.laws.proofs.Lists.{drop-next}
use Rattle.checksum.specs.Crc.{shifts, crc_from}
use Rattle.checksum.specs.Lanes.{little_endian, above, lanes_from}
use Rattle.checksum.specs.Polynomial.{◌⊕◌}
use Rattle.checksum.proofs.Polynomials.{sum_zero, sum_of_sums, sum_up}
use Rattle.checksum.proofs.Bits.{up_up}
use Rattle.checksum.proofs.Xor.{xor_assoc}
use Rattle.checksum.proofs.Shifts.{shifts-high}
use Rattle.checksum.proofs.Linear.{four_at, comm, shifts_add, crc_number, by_lanes}

-- ---- bytes as numbers

-- four bytes of a list, as a number
abbrev pub lane_word : List ℕ → ℕ → ℕ
lane_word s i = little_endian (take 4 (drop i s))

of_sums : (p q r s : ℕ) → bit_xor (bit_xor p q) (bit_xor r s) ≡ bit_xor (bit_xor p r) (bit_xor q s)
unfolding ◌⊕◌
of_sums p q r s = sum_of_sums p q r s

up : (n p q : ℕ) → bit_xor p q * 2 ^ n ≡ bit_xor (p * 2 ^ n) (q * 2 ^ n)
unfolding ◌⊕◌
up n p q = sum_up n p q

xor_zero : (p : ℕ) → bit_xor p 0 ≡ p
unfolding ◌⊕◌
xor_zero p = sum_zero p

-- a list's number, in two parts
pub number_append : (xs ys : List ℕ) → little_endian (xs ++ ys) ≡ bit_xor (little_endian xs) (little_endian ys * 2 ^ (length xs * 8))
unfolding little_endian
number_append [] ys = sym (mul-one (little_endian ys))
number_append (x ∷ xs) ys =
    let l = length xs * 8 in
    let p = little_endian xs in
    let q = little_endian ys in
    let e : l + 8 ≡ suc (length xs) * 8 = omega arith in
    ap (λ z. bit_xor (z * 2 ^ 8) x) (number_append xs ys)
    ∙ ap (λ z. bit_xor z x) (up 8 p (q * 2 ^ l) ∙ ap (bit_xor (p * 2 ^ 8)) (up_up q l 8 ∙ ap (λ k. q * 2 ^ k) e))
    ∙ xor_assoc (p * 2 ^ 8) (q * 2 ^ (suc (length xs) * 8)) x
    ∙ ap (bit_xor (p * 2 ^ 8)) (comm (q * 2 ^ (suc (length xs) * 8)) x)
    ∙ sym (xor_assoc (p * 2 ^ 8) x (q * 2 ^ (suc (length xs) * 8)))

word-length : (s : List ℕ) (i : ℕ) → i + 4 ≤ length s → length (take 4 (drop i s)) ≡ 4
word-length s i h = length-take-le 4 (drop i s) (simp length-drop (omega arith))

pub number_word : (s : List ℕ) (i j : ℕ) → j ≡ i + 4 → j ≤ length s → little_endian (drop i s) ≡ above (little_endian (drop j s)) (lane_word s i)
number_word s i j e h =
    ap little_endian (sym (take-append-drop 4 (drop i s)))
    ∙ number_append (take 4 (drop i s)) (drop 4 (drop i s))
    ∙ ap₂ (λ l t. bit_xor (lane_word s i) (little_endian t * 2 ^ (l * 8))) (word-length s i (omega arith)) (drop-drop 4 i s ∙ ap (λ k. drop k s) (sym e))

-- sixteen bytes
pub number_block : (s : List ℕ) (i : ℕ)
    → i + 16 ≤ length s
    → little_endian (drop i s) ≡ above (above (above (above (little_endian (drop (i + 16) s)) (lane_word s (i + 12))) (lane_word s (i + 8))) (lane_word s (i + 4))) (lane_word s i)
number_block s i h =
    number_word s i (i + 4) refl (omega arith)
    ∙ ap (λ x. above x (lane_word s i))
    (number_word s (i + 4) (i + 8) (omega arith) (omega arith)
    ∙ ap (λ x. above x (lane_word s (i + 4)))
    (number_word s (i + 8) (i + 12) (omega arith) (omega arith)
    ∙ ap (λ x. above x (lane_word s (i + 8))) (number_word s (i + 12) (i + 16) (omega arith) h)))

-- ---- registers and words are added place by place

above_xor : (h x k y : ℕ) → bit_xor (above h x) (above k y) ≡ above (bit_xor h k) (bit_xor x y)
above_xor h x k y = of_sums x (h * 2 ^ 32) y (k * 2 ^ 32) ∙ ap (bit_xor (bit_xor x y)) (sym (up 32 h k))

four_xor : (a b c d p q r s t : ℕ)
    → bit_xor (above (above (above d c) b) a) (above (above (above (above t s) r) q) p)
    ≡ above (above (above (above t (bit_xor d s)) (bit_xor c r)) (bit_xor b q)) (bit_xor a p)
four_xor a b c d p q r s t =
    above_xor (above (above d c) b) a (above (above (above t s) r) q) p
    ∙ ap (λ x. above x (bit_xor a p))
    (above_xor (above d c) b (above (above t s) r) q
    ∙ ap (λ x. above x (bit_xor b q))
    (above_xor d c (above t s) r ∙ ap (λ x. above x (bit_xor c r)) (sym (xor_assoc d s (t * 2 ^ 32)))))

-- the same places, counted from the lowest bit
above_up : (k h x : ℕ) → above h x * 2 ^ k ≡ bit_xor (x * 2 ^ k) (h * 2 ^ (32 + k))
above_up k h x = up k x (h * 2 ^ 32) ∙ ap (bit_xor (x * 2 ^ k)) (up_up h 32 k)

four : (a b c d : ℕ) → above (above (above d c) b) a ≡ four_at 32 a b c d
four a b c d =
    ap (bit_xor a) (above_up 32 (above d c) b ∙ ap (bit_xor (b * 2 ^ 32)) (above_up 64 d c))
    ∙ sym (xor_assoc a (b * 2 ^ 32) (bit_xor (c * 2 ^ 64) (d * 2 ^ 96)))
    ∙ sym (xor_assoc (bit_xor a (b * 2 ^ 32)) (c * 2 ^ 64) (d * 2 ^ 96))

five : (a b c d r : ℕ) → above (above (above (above r d) c) b) a ≡ bit_xor (four_at 32 a b c d) (r * 2 ^ 128)
five a b c d r =
    four a b c (above r d)
    ∙ ap (bit_xor (bit_xor (bit_xor a (b * 2 ^ 32)) (c * 2 ^ 64))) (above_up 96 r d)
    ∙ sym (xor_assoc (bit_xor (bit_xor a (b * 2 ^ 32)) (c * 2 ^ 64)) (d * 2 ^ 96) (r * 2 ^ 128))

-- ---- the lanes

pub lanes_start : (c : ℕ) (s : List ℕ) → lanes_from c 0 0 0 s ≡ crc_from c s
unfolding lanes_from
lanes_start c s = ap (λ x. shifts (length s * 8) (bit_xor x (little_endian s))) (xor_zero c) ∙ sym (crc_number c s)

-- sixteen bytes more, at least as many left
pub lanes_next : (s : List ℕ) (i a b c d : ℕ)
    → i + 32 ≤ length s
    → lanes_from (shifts 128 (bit_xor a (lane_word s i))) (shifts 128 (bit_xor b (lane_word s (i + 4)))) (shifts 128 (bit_xor c (lane_word s (i + 8)))) (shifts 128 (bit_xor d (lane_word s (i + 12)))) (drop (i + 16) s)
    ≡ lanes_from a b c d (drop i s)
unfolding lanes_from
lanes_next s i a b c d h =
    let m = (length s - (i + 28)) * 8 in
    let t = little_endian (drop (i + 16) s) in
    let p = bit_xor a (lane_word s i) in
    let q = bit_xor b (lane_word s (i + 4)) in
    let r = bit_xor c (lane_word s (i + 8)) in
    let u = bit_xor d (lane_word s (i + 12)) in
    let l : length (drop (i + 16) s) * 8 ≡ 96 + m = simp length-drop (omega arith) in
    let k : length (drop i s) * 8 ≡ 128 + (96 + m) = simp length-drop (omega arith) in
    ap₂ (λ n x. shifts n (bit_xor x t)) l (four (shifts 128 p) (shifts 128 q) (shifts 128 r) (shifts 128 u))
    ∙ sym (by_lanes m p q r u t)
    ∙ sym
    (ap₂ shifts k
    (ap (bit_xor (above (above (above d c) b) a)) (number_block s i (omega arith))
    ∙ four_xor a b c d (lane_word s i) (lane_word s (i + 4)) (lane_word s (i + 8)) (lane_word s (i + 12)) t
    ∙ five p q r u t))

-- ---- the end

-- the lowest 32 bits leave, and go into what is above them
low_word : (m h x : ℕ) → shifts (32 + m) (above h x) ≡ shifts m (bit_xor (shifts 32 x) h)
low_word m h x =
    shifts_add 32 m (above h x)
    ∙ ap (shifts m) (ap (shifts 32) (comm x (h * 2 ^ 32)) ∙ shifts-high 32 h x ∙ comm h (shifts 32 x))

-- with a register that comes in there
low_word_added : (m h c x w : ℕ) → shifts (32 + m) (bit_xor c (above h (bit_xor x w))) ≡ shifts m (bit_xor (shifts 32 (bit_xor (bit_xor c x) w)) h)
low_word_added m h c x w =
    ap (shifts (32 + m)) (sym (xor_assoc c (bit_xor x w) (h * 2 ^ 32)) ∙ ap (λ z. bit_xor z (h * 2 ^ 32)) (sym (xor_assoc c x w)))
    ∙ low_word m h (bit_xor (bit_xor c x) w)

crc_word : (c : ℕ) (s : List ℕ) (i : ℕ) → i + 4 ≤ length s → crc_from c (take 4 (drop i s)) ≡ shifts 32 (bit_xor c (lane_word s i))
crc_word c s i h = crc_number c (take 4 (drop i s)) ∙ ap (λ n. shifts (n * 8) (bit_xor c (lane_word s i))) (word-length s i h)

pub lanes_end : (s : List ℕ) (a b c d p q r u : ℕ)
    → 16 ≤ length s
    → p ≡ crc_from a (take 4 s)
    → q ≡ crc_from (bit_xor p b) (take 4 (drop 4 s))
    → r ≡ crc_from (bit_xor q c) (take 4 (drop 8 s))
    → u ≡ crc_from (bit_xor r d) (take 4 (drop 12 s))
    → crc_from u (drop 16 s) ≡ lanes_from a b c d s
unfolding lanes_from
lanes_end s a b c d p q r u h ep eq er eu =
    let m = length (drop 16 s) * 8 in
    let t = little_endian (drop 16 s) in
    let k : length s * 8 ≡ 32 + (32 + (32 + (32 + m))) = simp length-drop (omega arith) in
    let w0 = lane_word s 0 in
    let w1 = lane_word s 4 in
    let w2 = lane_word s 8 in
    let w3 = lane_word s 12 in
    let p' : shifts 32 (bit_xor a w0) ≡ p = sym (ep ∙ crc_word a s 0 (omega arith)) in
    let q' : shifts 32 (bit_xor (bit_xor p b) w1) ≡ q = sym (eq ∙ crc_word (bit_xor p b) s 4 (omega arith)) in
    let r' : shifts 32 (bit_xor (bit_xor q c) w2) ≡ r = sym (er ∙ crc_word (bit_xor q c) s 8 (omega arith)) in
    let u' : shifts 32 (bit_xor (bit_xor r d) w3) ≡ u = sym (eu ∙ crc_word (bit_xor r d) s 12 (omega arith)) in
    let x3 = above t (bit_xor d w3) in
    let x2 = above x3 (bit_xor c w2) in
    let x1 = above x2 (bit_xor b w1) in
    crc_number u (drop 16 s)
    ∙ sym
    (ap₂ shifts k (ap (bit_xor (above (above (above d c) b) a)) (number_block s 0 h) ∙ four_xor a b c d w0 w1 w2 w3 t)
    ∙ low_word (32 + (32 + (32 + m))) x1 (bit_xor a w0)
    ∙ ap (λ z. shifts (32 + (32 + (32 + m))) (bit_xor z x1)) p'
    ∙ low_word_added (32 + (32 + m)) x2 p b w1
    ∙ ap (λ z. shifts (32 + (32 + m)) (bit_xor z x2)) q'
    ∙ low_word_added (32 + m) x3 q c w2
    ∙ ap (λ z. shifts (32 + m) (bit_xor z x3)) r'
    ∙ low_word_added m t r d w3
    ∙ ap (λ z. shifts m (bit_xor z t)) u')

-- ---- what the code reads

-- four bytes by sums
pub from_bytes : (a b c d w : ℕ) → a < 256 → b < 256 → c < 256 → d < 256 → w ≡ a + 256 * (b + 256 * (c + 256 * d)) → w ≡ little_endian (a ∷ b ∷ c ∷ d ∷ [])
unfolding little_endian
from_bytes a b c d w ha hb hc hd e =
    e
    ∙ sym
    (ap (λ x. bit_xor (bit_xor (bit_xor (x * 2 ^ 8) c * 2 ^ 8) b * 2 ^ 8) a) (xor_shifted 0 8 d hd)
    ∙ ap (λ x. bit_xor (bit_xor (x * 2 ^ 8) b * 2 ^ 8) a) (xor_shifted (0 * 2 ^ 8 + d) 8 c hc)
    ∙ ap (λ x. bit_xor (x * 2 ^ 8) a) (xor_shifted ((0 * 2 ^ 8 + d) * 2 ^ 8 + c) 8 b hb)
    ∙ xor_shifted (((0 * 2 ^ 8 + d) * 2 ^ 8 + c) * 2 ^ 8 + b) 8 a ha
    ∙ omega arith)

pub four_of : (s : List ℕ) (i : ℕ) → i + 4 ≤ length s → take 4 (drop i s) ≡ get_or s i 0 ∷ get_or s (i + 1) 0 ∷ get_or s (i + 2) 0 ∷ get_or s (i + 3) 0 ∷ []
four_of s i h =
    ap (take 4) (drop-next s i (i + 1) refl (omega arith))
    ∙ ap (λ t. get_or s i 0 ∷ take 3 t) (drop-next s (i + 1) (i + 2) (omega arith) (omega arith))
    ∙ ap (λ t. get_or s i 0 ∷ get_or s (i + 1) 0 ∷ take 2 t) (drop-next s (i + 2) (i + 3) (omega arith) (omega arith))
    ∙ ap (λ t. get_or s i 0 ∷ get_or s (i + 1) 0 ∷ get_or s (i + 2) 0 ∷ take 1 t) (drop-next s (i + 3) (i + 4) (omega arith) (omega arith))
