-- Laws of a number in decimal: one digit more, what its bytes are, that it reads as the number; the steps of a loop over its digits.
use Prim.Native.Nat.{ℕ, zero, suc, ◌+◌, ◌-◌, ◌*◌, ◌/◌, ◌%◌, ◌^◌, ◌<◌, ◌≤◌, max}
use mathlib.Core.Path.{◌≡◌, refl, sym, ap, ◌∙◌}
use mathlib.Core.Logic.{⊎_elim}
use mathlib.Core.List.Memᴰ
use mathlib.Core.List.{List, [], ◌∷◌, ◌++◌, append_assoc, Memᴰ}
use mathlib.Core.Bool.{Bool, true, false}
use native.Mathlib.Omega.{arith}
use native.Mathlib.Decide.{dec_lt}
use native.Mathlib.Nat.{le_refl, pow-suc}
use native.Mathlib.Numerals.{add-one}
use lib.Dec.{eqb}
use lib.ListN.{length, get_or, take, drop, set, length-append, get_or-append}
use lib.Seq.{take-suc, take_at, take-append_seam, get_or-append_seam, get_or_at, drop-cons, drop-set-lt, get_or-set_same, lt-length-set, length-take-le}
use borrow.Author.Tests.{lt-ltb, le-ltb, eqb-true, eqb-false}
use Rattle.laws.specs.Lists.{Below}
use Rattle.texts.specs.Text.{same}
use Rattle.texts.specs.Decimal.{digit, digits, decimal}
use Rattle.texts.specs.Dots.{dot, first_dot}
use Rattle.texts.proofs.Text.{same_iff, unlike-same, equal-same, length-same}
use Rattle.texts.proofs.Dots.{dot_none}

-- ---- one digit more

fuel : (k j n : ℕ) → n ≤ k → n ≤ j → digits k n ≡ digits j n
unfolding digits
fuel zero zero n h g = refl
fuel zero (suc j) n h g = rw (lt-ltb n 10 (omega arith))
fuel (suc k) zero n h g = rw (lt-ltb n 10 (omega arith))
fuel (suc k) (suc j) n h g = rw (fuel k j (n / 10) (omega arith) (omega arith))

-- a bound that is large enough makes no difference
pub digits-enough : (k n : ℕ) → n ≤ k → digits k n ≡ decimal n
digits-enough k n h = fuel k n n h (le_refl n)

pub decimal_one : (n : ℕ) → n < 10 → decimal n ≡ digit n ∷ []
unfolding digits
decimal_one zero h = refl
decimal_one (suc n) h = rw (lt-ltb (suc n) 10 h)

pub decimal-more : (n : ℕ) → 10 ≤ n → decimal n ≡ decimal (n / 10) ++ (digit (n % 10) ∷ [])
unfolding digits
decimal-more zero h = absurd (omega arith)
decimal-more (suc n) h = rw (le-ltb (suc n) 10 h, digits-enough n (suc n / 10) (omega arith))

-- from a number's tenth to the number
pub by_tens : (P : ℕ → Type 0) → ((n : ℕ) → n < 10 → P n) → ((n : ℕ) → 10 ≤ n → P (n / 10) → P n) → (n : ℕ) → P n
by_tens P one more n = below n n (le_refl n)
  where
    below : (k n : ℕ) → n ≤ k → P n
    below zero n h = one n (omega arith)
    below (suc k) n h = by (dec_lt n 10) (below k (n / 10) (omega arith))
      where
        by : Dec (n < 10) → P (n / 10) → P n
        by (yes l) p = one n l
        by (no g) p = more n (omega arith) p

-- ---- length

pub decimal-some : (n : ℕ) → 0 < length (decimal n)
decimal-some = by_tens (λ n. 0 < length (decimal n)) (λ n h. rw (decimal_one n h) (omega arith)) (λ n h p. rw (decimal-more n h) (simp length-append (omega arith)))

pub decimal-not-empty : (n : ℕ) → decimal n ≡ [] → ⊥
decimal-not-empty n e = omega (arith, decimal-some n, ap length e)

pub length_one : (n : ℕ) → n < 10 → length (decimal n) ≡ 1
length_one n h = ap length (decimal_one n h)

pub length_more : (n : ℕ) → 10 ≤ n → length (decimal n) ≡ length (decimal (n / 10)) + 1
length_more n h = ap length (decimal-more n h) ∙ length-append (decimal (n / 10)) (digit (n % 10) ∷ [])

-- one digit, or more
pub few_digits : (n : ℕ) → length (decimal n) ≤ 1 → n < 10
few_digits n h = elim (dec_lt n 10) [ yes l ↦ l | no g ↦ absurd (omega (arith, length_more n (omega arith), decimal-some (n / 10))) ]

pub many_digits : (n : ℕ) → 1 < length (decimal n) → 10 ≤ n
many_digits n h = elim (dec_lt n 10) [ yes l ↦ absurd (omega (arith, length_one n l)) | no g ↦ omega arith ]

pub decimal-length : (k n : ℕ) → n < 10 ^ suc k → length (decimal n) ≤ suc k
decimal-length zero n h = omega (arith, length_one n h)
decimal-length (suc k) n h = by (dec_lt n 10) (λ g. decimal-length k (n / 10) (let e = pow-suc 10 (suc k) in omega arith))
  where
    by : Dec (n < 10) → (10 ≤ n → length (decimal (n / 10)) ≤ suc k) → length (decimal n) ≤ suc (suc k)
    by (yes l) p = omega (arith, length_one n l)
    by (no g) p = omega (arith, length_more n (omega arith), p (omega arith))

-- as many digits as the greatest power of ten that is not above the number has
pub length_by_power : (k n : ℕ) → 10 ^ k ≤ n → n < 10 * 10 ^ k → length (decimal n) ≡ k + 1
length_by_power zero n h l = length_one n (omega arith)
length_by_power (suc k) n h l =
    let e = pow-suc 10 k in
    omega (arith, length_more n (let g = le-pow k in omega arith), length_by_power k (n / 10) (omega arith) (omega arith))
  where
    le-pow : (k : ℕ) → 1 ≤ 10 ^ k
    le-pow zero = omega arith
    le-pow (suc k) = let e = pow-suc 10 k in omega (arith, le-pow k)

-- 0 has as many as 1
pub length-max : (n m : ℕ) → m ≡ max n 1 → length (decimal m) ≡ length (decimal n)
length-max n m e =
    elim (dec_lt n 1) [
      | yes h ↦ let one : m ≡ 1 = omega arith in let none : n ≡ 0 = omega arith in rw (one, none) (length_one 1 (omega arith) ∙ sym (length_one 0 (omega arith)))
      | no h ↦ let z : m ≡ n = omega arith in ap (λ x. length (decimal x)) z
    ]

-- a word has ten digits at most
pub word-length : (n : ℕ) → n < 2 ^ 32 → length (decimal n) ≤ 10
word-length n h = decimal-length 9 n (omega arith)

-- ---- bytes

pub decimal-digits : (n x : ℕ) → Memᴰ x (decimal n) → (48 ≤ x) × (x ≤ 57)
decimal-digits =
    by_tens (λ n. (x : ℕ) → Memᴰ x (decimal n) → (48 ≤ x) × (x ≤ 57))
    (λ n h x m. last n x h (rw (decimal_one n h) at m))
    (λ n h p x m. ⊎_elim (p x) (last (n % 10) x (omega arith)) (Memᴰ.append_cases (decimal (n / 10)) (rw (decimal-more n h) at m)))
  where
    last : (d x : ℕ) → d < 10 → Memᴰ x (digit d ∷ []) → (48 ≤ x) × (x ≤ 57)
    last d x h m = let e = Memᴰ.eq_of_singleton m in (omega arith, omega arith)

pub decimal-below : (n : ℕ) → Below 256 (decimal n)
decimal-below n x m = omega (arith, (decimal-digits n x m).1)

pub decimal_no_dot : (n : ℕ) → first_dot (decimal n) ≡ length (decimal n)
decimal_no_dot n = dot_none (decimal n) (λ m. omega (arith, (decimal-digits n dot m).0))

-- no zero in front, but for the number 0
pub decimal-front : (n : ℕ) → 0 < n → 48 < get_or (decimal n) 0 0
decimal-front =
    by_tens (λ n. 0 < n → 48 < get_or (decimal n) 0 0) (λ n h g. rw (decimal_one n h) (omega arith))
    (λ n h p g. rw (decimal-more n h, get_or-append (decimal (n / 10)) (digit (n % 10) ∷ []) 0 0 (decimal-some (n / 10))) (p (omega arith)))

-- ---- reading

-- the number that digits read as, after those that read as n
unfoldable pub read_after : ℕ → List ℕ → ℕ
read_after n [] = n
read_after n (d ∷ ds) = read_after (10 * n + (d - 48)) ds

read-last : (n d : ℕ) (ds : List ℕ) → read_after n (ds ++ (d ∷ [])) ≡ 10 * read_after n ds + (d - 48)
unfolding read_after
read-last n d [] = refl
read-last n d (x ∷ ds) = read-last (10 * n + (x - 48)) d ds

-- a number's decimal reads as the number
pub decimal-reads : (n : ℕ) → read_after 0 (decimal n) ≡ n
unfolding read_after
decimal-reads =
    by_tens (λ n. read_after 0 (decimal n) ≡ n) (λ n h. rw (decimal_one n h) (omega arith))
    (λ n h p. rw (decimal-more n h, read-last 0 (digit (n % 10)) (decimal (n / 10)), p) (omega arith))

pub decimal_injective : (m n : ℕ) → decimal m ≡ decimal n → m ≡ n
decimal_injective m n e = sym (decimal-reads m) ∙ ap (read_after 0) e ∙ decimal-reads n

-- ---- a text against the digits, from the last one on

last-like : (s t : List ℕ) (x y : ℕ) → s ++ (x ∷ []) ≡ t ++ (y ∷ []) → (s ≡ t) × (x ≡ y)
last-like s t x y e =
    let n : length s ≡ length t = omega (arith, ap length e, length-append s (x ∷ []), length-append t (y ∷ [])) in (
      sym (take-append_seam s (x ∷ [])) ∙ ap (take (length s)) e ∙ take_at t (y ∷ []) (length s) (sym n),
      sym (get_or-append_seam s x [] 0) ∙ ap (λ (l : List ℕ). get_or l (length s) 0) e ∙ get_or_at t y [] 0 (length s) (sym n),
    )

module _ (t : List ℕ) (i k n : ℕ) (e : k ≡ i + 1) (within : i < length t) (h : 10 ≤ n) where
  taken : take k t ≡ take i t ++ (get_or t i 0 ∷ [])
  taken = rw (e, add-one) (take-suc t i 0 within)

  pub digit-like : get_or t i 0 ≡ digit (n % 10) → same (take k t) (decimal n) ≡ same (take i t) (decimal (n / 10))
  digit-like q =
      rw (taken, decimal-more n h, q)
      (same_iff (take i t ++ (digit (n % 10) ∷ [])) (decimal (n / 10) ++ (digit (n % 10) ∷ [])) (take i t) (decimal (n / 10))
      (λ p. (last-like (take i t) (decimal (n / 10)) (digit (n % 10)) (digit (n % 10)) p).0)
      (ap (λ (l : List ℕ). l ++ (digit (n % 10) ∷ []))))

  pub digit-unlike : (get_or t i 0 ≡ digit (n % 10) → ⊥) → same (take k t) (decimal n) ≡ false
  digit-unlike d =
      rw (taken, decimal-more n h)
      (unlike-same (take i t ++ (get_or t i 0 ∷ [])) (decimal (n / 10) ++ (digit (n % 10) ∷ []))
      (λ p. d (last-like (take i t) (decimal (n / 10)) (get_or t i 0) (digit (n % 10)) p).1))

-- a text of another length than the digits that are left
pub digits-unlike : (t : List ℕ) (k n : ℕ) → k ≤ length t → (k ≡ length (decimal n) → ⊥) → same (take k t) (decimal n) ≡ false
digits-unlike t k n h d = length-same (take k t) (decimal n) (λ e. d (sym (length-take-le k t h) ∙ e))

-- one byte against one digit
pub digit-alone : (t : List ℕ) (n : ℕ) → 0 < length t → n < 10 → same (take 1 t) (decimal n) ≡ eqb (get_or t 0 0) (digit n)
digit-alone t n h g = rw (decimal_one n g, take-suc t 0 0 h) (by (eqb (get_or t 0 0) (digit n)) refl)
  where
    by : (b : Bool) → eqb (get_or t 0 0) (digit n) ≡ b → same (get_or t 0 0 ∷ []) (digit n ∷ []) ≡ b
    by true p = equal-same (get_or t 0 0 ∷ []) (digit n ∷ []) (ap (λ (x : ℕ). x ∷ []) (eqb-true (get_or t 0 0) (digit n) p))
    by false p = unlike-same (get_or t 0 0 ∷ []) (digit n ∷ []) (λ q. eqb-false (get_or t 0 0) (digit n) p (last-like [] [] (get_or t 0 0) (digit n) q).1)

-- ---- the digits written from the last one on: those of n are left, before the index k

placed : (out : List ℕ) (i a : ℕ) → i < length out → drop i (set out i a) ≡ a ∷ drop (suc i) out
placed out i a h =
    drop-cons (set out i a) i 0 (lt-length-set out i a h)
    ∙ rw (get_or-set_same out i a 0 h, drop-set-lt (suc i) out i a (le_refl (suc i)))

pub digit-written : (out : List ℕ) (i k n : ℕ) → k ≡ i + 1 → i < length out → 10 ≤ n → decimal n ++ drop k out ≡ decimal (n / 10) ++ drop i (set out i (digit (n % 10)))
digit-written out i k n e within h =
    rw (decimal-more n h, append_assoc, e, add-one) (ap (λ (l : List ℕ). decimal (n / 10) ++ l) (sym (placed out i (digit (n % 10)) within)))

pub digit-first : (out : List ℕ) (n : ℕ) → 0 < length out → n < 10 → decimal n ++ drop 1 out ≡ set out 0 (digit n)
digit-first out n within h = rw (decimal_one n h) (sym (placed out 0 (digit n) within))
