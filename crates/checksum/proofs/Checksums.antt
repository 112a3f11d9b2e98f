-- Laws of crc_from and of the checksum, byte by byte and part by part.
use mathlib.Core.Path.{◌≡◌, refl, sym, ap, ap₂, ◌∙◌}
use mathlib.Core.List.{List, [], ◌∷◌, ◌++◌, append_assoc}
use mathlib.Core.Logic.{◌⊎◌, inl, inr}
use Prim.Native.Nat.{ℕ, zero, suc, ◌+◌, ◌-◌, ◌^◌, ◌≤◌, ◌<◌, min}
use native.Mathlib.Numerals.{add-one}
use native.Mathlib.Omega.{arith}
use lib.ListN.{length, get_or, take, drop, set, drop_of_length-le, length-take, length-drop, length-append}
use lib.Seq.{drop-cons, take-nil, drop-nil, take_at, drop_at, get_or-take, get_or-drop, take-set-le, drop-set-lt, length-take-le, ext_get_or}
use native.Mathlib.Nat.{zero-min, suc-min-suc}
use Rattle.laws.proofs.Lists.{to_end}
use Rattle.checksum.specs.Crc.{ones, byte_step, crc_from, crc32, skip_from, skip_to, checksum_of, crcs}

-- ---- a loop over the bytes

pub crc_next : (c : ℕ) (s : List ℕ) (i : ℕ) → i < length s → crc_from (byte_step c (get_or s i 0)) (drop (i + 1) s) ≡ crc_from c (drop i s)
unfolding crc_from
crc_next c s i h = rw add-one (sym (ap (crc_from c) (drop-cons s i 0 h)))

pub crc_end : (c : ℕ) (s : List ℕ) (i : ℕ) → length s ≤ i → c ≡ crc_from c (drop i s)
unfolding crc_from
crc_end c s i h = sym (ap (crc_from c) (drop_of_length-le s h))

-- ---- parts

pub crc_append : (c : ℕ) (xs ys : List ℕ) → crc_from c (xs ++ ys) ≡ crc_from (crc_from c xs) ys
unfolding crc_from
crc_append c [] ys = refl
crc_append c (x ∷ xs) ys = crc_append (byte_step c x) xs ys

-- ---- the parts of a list that may be shorter than where they end or begin

take_min : (n : ℕ) (s : List ℕ) → take (min n (length s)) s ≡ take n s
take_min zero s = ap (λ m. take m s) (zero-min (length s))
take_min (suc n) [] = take-nil (min (suc n) 0)
take_min (suc n) (x ∷ s) = ap (λ m. take m (x ∷ s)) (suc-min-suc n (length s)) ∙ ap (λ t. x ∷ t) (take_min n s)

drop_min : (n : ℕ) (s : List ℕ) → drop (min n (length s)) s ≡ drop n s
drop_min zero s = ap (λ m. drop m s) (zero-min (length s))
drop_min (suc n) [] = drop-nil (min (suc n) 0)
drop_min (suc n) (x ∷ s) = ap (λ m. drop m (x ∷ s)) (suc-min-suc n (length s)) ∙ drop_min n s

-- ---- the checksum, made of two parts

pub checksum-parts : (s : List ℕ) (end start head all : ℕ)
    → end ≡ min skip_from (length s)
    → start ≡ min skip_to (length s)
    → head ≡ crc_from ones (take end s)
    → all ≡ crc_from head (take (length s - start) (drop start s))
    → ones - all ≡ checksum_of s
unfolding checksum_of crc32
checksum-parts s end start head all e f p q =
    ap (λ x. ones - x)
    (q
    ∙ ap₂ crc_from
    (p ∙ ap (crc_from ones) (ap (λ n. take n s) e ∙ take_min skip_from s))
    (to_end start s ∙ ap (λ n. drop n s) f ∙ drop_min skip_to s)
    ∙ sym (crc_append ones (take skip_from s) (drop skip_to s)))

pub checksum_lt : (s : List ℕ) → checksum_of s < 2 ^ 32
unfolding checksum_of crc32
checksum_lt s = omega arith

-- ---- the checksum does not see its own bytes

pub checksum-agree : (s t : List ℕ) → take skip_from s ≡ take skip_from t → drop skip_to s ≡ drop skip_to t → checksum_of s ≡ checksum_of t
unfolding checksum_of
checksum-agree s t p q = ap₂ (λ x y. crc32 (x ++ y)) p q

-- two lists that agree outside the bytes of the checksum
pub checksum-outside : (s t : List ℕ)
    → length s ≡ length t
    → ((i : ℕ) → (i < skip_from) ⊎ (skip_to ≤ i) → get_or s i 0 ≡ get_or t i 0)
    → checksum_of s ≡ checksum_of t
checksum-outside s t e agree =
    checksum-agree s t
    (ext_get_or 0 (take skip_from s) (take skip_from t) (simp length-take (omega arith))
    (λ i h. let k : i < skip_from = omega (arith, simp length-take at h) in rw (get_or-take, get_or-take) (agree i (inl k))))
    (ext_get_or 0 (drop skip_to s) (drop skip_to t) (simp length-drop (omega arith))
    (λ i h. rw (get_or-drop, get_or-drop) (agree (skip_to + i) (inr (omega arith)))))

-- a byte of the checksum is stored
pub checksum-set : (s : List ℕ) (i v : ℕ) → skip_from ≤ i → i < skip_to → checksum_of (set s i v) ≡ checksum_of s
checksum-set s i v h k = checksum-agree (set s i v) s (take-set-le skip_from s i v h) (drop-set-lt skip_to s i v k)

-- its four bytes are put in their place
pub checksum-filled : (s w : List ℕ) → skip_from ≤ length s → length w ≡ 4 → checksum_of (take skip_from s ++ w ++ drop skip_to s) ≡ checksum_of s
checksum-filled s w h e =
    let l : length (take skip_from s) ≡ skip_from = length-take-le skip_from s h in
    checksum-agree (take skip_from s ++ w ++ drop skip_to s) s
    (ap (take skip_from) (append_assoc (take skip_from s) w (drop skip_to s)) ∙ take_at (take skip_from s) (w ++ drop skip_to s) skip_from l)
    (drop_at (take skip_from s ++ w) (drop skip_to s) skip_to (simp length-append (omega arith)))

-- ---- the published check value: CRC-32 of the digits 1 to 9

pub check_value : crc32 (49 ∷ 50 ∷ 51 ∷ 52 ∷ 53 ∷ 54 ∷ 55 ∷ 56 ∷ 57 ∷ []) ≡ 0xcbf4_3926
unfolding crcs
check_value = refl
