-- Places by index, and blocks of them: what a loop over blocks sees.
use Prim.Native.Nat.{ℕ, zero, suc, ◌+◌, ◌-◌, ◌/◌, ◌≤◌, ◌<◌}
use mathlib.Core.Path.{◌≡◌, refl, sym, ap, ◌∙◌}
use mathlib.Core.List.{List, [], ◌∷◌}
use mathlib.Core.Bool.{Bool, true, false, not, ◌&&◌, ◌||◌}
use native.Mathlib.Omega.{arith}
use native.Mathlib.Decide.{dec_lt}
use native.Mathlib.Nat.{zero-add}
use native.Mathlib.Numerals.{add-one}
use borrow.Author.Tests.{lt-ltb, ltb-true}
use lib.Dec.{eqb}
use lib.Bits.{bit_or, bit_and, bit_xor, or_add_and, and_le_l, and_le_r}
use lib.ListN.{length, drop, get_or, drop_of_length-le}
use lib.Seq.{drop-cons}
use Rattle.laws.specs.Counted.{all_of}
use Rattle.laws.proofs.Flags.{both_true, all_at, all_of_lem, or_zero}
use Rattle.utf8.specs.Runs.{Passes}
use Rattle.utf8.specs.Utf8.{rows, size_in, utf8}
use Rattle.utf8.specs.Places.{flag, differ, due, wrong, right_at, starts, ends, Passed, AsciiTo}
use Rattle.utf8.proofs.Ascii.{ascii_at, ascii-passes}
use Rattle.utf8.proofs.Places.{right-ascii, placed, utf8-placed}

-- ---- flags as bytes

two_or : (a b : Bool) → bit_or (flag a) (flag b) ≡ flag (a || b)
unfolding flag differ
two_or true true = refl
two_or true false = refl
two_or false true = refl
two_or false false = refl

pub flag_or : (x y : ℕ) (a b : Bool) → x ≡ flag a → y ≡ flag b → bit_or x y ≡ flag (a || b)
flag_or x y a b p q = rw (p, q) (two_or a b)

two_and : (a b : Bool) → bit_and (flag a) (flag b) ≡ flag (a && b)
unfolding flag differ
two_and true true = refl
two_and true false = refl
two_and false true = refl
two_and false false = refl

pub flag-and : (x y : ℕ) (a b : Bool) → x ≡ flag a → y ≡ flag b → bit_and x y ≡ flag (a && b)
flag-and x y a b p q = rw (p, q) (two_and a b)

two_xor : (a b : Bool) → bit_xor (flag a) (flag b) ≡ flag (differ a b)
unfolding flag differ
two_xor true true = refl
two_xor true false = refl
two_xor false true = refl
two_xor false false = refl

pub flag_xor : (x y : ℕ) (a b : Bool) → x ≡ flag a → y ≡ flag b → bit_xor x y ≡ flag (differ a b)
flag_xor x y a b p q = rw (p, q) (two_xor a b)

pub flag-zero : (x : ℕ) (a : Bool) → x ≡ flag a → eqb x 0 ≡ not a
unfolding flag
flag-zero x true p = rw p
flag-zero x false p = rw p

pub no_fault : (x y z : ℕ) (a b c : Bool) → x ≡ flag a → y ≡ flag b → z ≡ flag c → eqb (bit_or (bit_or x y) z) 0 ≡ ((not a && not b) && not c)
no_fault x y z a b c p q r = rw (or_zero (bit_or x y) z, or_zero x y, flag-zero x a p, flag-zero y b q, flag-zero z c r)

-- ---- places by index

-- the text from the byte at i + 3 on, after the three before it
from : List ℕ → ℕ → Bool
from s i = placed (get_or s i 0) (get_or s (i + 1) 0) (get_or s (i + 2) 0) (drop (i + 3) s)

module _ (s : List ℕ) where
  from_next : (i : ℕ) → i + 3 < length s → from s i ≡ (right_at s i && from s (i + 1))
  unfolding from placed right_at
  from_next i h = rw (drop-cons s (i + 3) 0 h) (ap (λ (x : Bool). right_at s i && x) (same (i + 1 + 1) (i + 1 + 2) (i + 1 + 3) (omega arith) (omega arith) (omega arith)))
    where
      same : (b c d : ℕ) → b ≡ i + 2 → c ≡ i + 3 → d ≡ suc (i + 3) → placed (get_or s (i + 1) 0) (get_or s (i + 2) 0) (get_or s (i + 3) 0) (drop (suc (i + 3)) s) ≡ placed (get_or s (i + 1) 0) (get_or s b 0) (get_or s c 0) (drop d s)
      same b c d p q r = rw (p, q, r)

  from_end : (i : ℕ) → i + 3 ≡ length s → from s i ≡ ends s
  unfolding from placed ends
  from_end i h = rw (drop_of_length-le s {i = i + 3} (omega arith)) (same (length s - 3) (length s - 2) (length s - 1) (omega arith) (omega arith) (omega arith))
    where
      same : (b c d : ℕ) → b ≡ i → c ≡ i + 1 → d ≡ i + 2 → not (due (get_or s i 0) (get_or s (i + 1) 0) (get_or s (i + 2) 0)) ≡ not (due (get_or s b 0) (get_or s c 0) (get_or s d 0))
      same b c d p q r = rw (p, q, r)

  -- all are right from i on
  from_all : (n i : ℕ) → n + i + 3 ≡ length s → ((k : ℕ) → i ≤ k → k + 3 < length s → right_at s k ≡ true) → from s i ≡ ends s
  from_all zero i h e = from_end i (omega arith)
  from_all (suc n) i h e =
      from_next i (omega arith) ∙ rw (e i (omega arith) (omega arith)) (from_all n (i + 1) (omega arith) (λ k l u. e k (omega arith) u))

  from-right : (n i : ℕ) → n + i + 3 ≡ length s → from s i ≡ true → (k : ℕ) → i ≤ k → k + 3 < length s → right_at s k ≡ true
  from-right zero i h e k l u = absurd (omega arith)
  from-right (suc n) i h e k l u =
      let p = both_true (right_at s i) (from s (i + 1)) (sym (from_next i (omega arith)) ∙ e) in
      elim (dec_lt i k) [
        | yes d ↦ from-right n (i + 1) (omega arith) p.1 k (omega arith) u
        | no d ↦ let q : k ≡ i = omega arith in rw q p.0
      ]

and_assoc : (a b c d : Bool) → (a && (b && (c && d))) ≡ (((a && b) && c) && d)
and_assoc true b c d = next b
  where
    next : (b : Bool) → (b && (c && d)) ≡ ((b && c) && d)
    next true = refl
    next false = refl
and_assoc false b c d = refl

start-from : (s : List ℕ) → 3 ≤ length s → utf8 s ≡ (starts s && from s 0)
unfolding from placed starts
start-from [] h = absurd (omega arith)
start-from (a ∷ []) h = absurd (omega arith)
start-from (a ∷ b ∷ []) h = absurd (omega arith)
start-from (a ∷ b ∷ c ∷ t) h =
    utf8-placed (a ∷ b ∷ c ∷ t) ∙ and_assoc (not (wrong 0 0 0 a)) (not (wrong 0 0 a b)) (not (wrong 0 a b c)) (placed a b c t)

-- ---- the text

module _ (s : List ℕ) (long : 3 ≤ length s) where
  -- one of the first three is wrong
  pub starts-wrong : starts s ≡ false → false ≡ utf8 s
  starts-wrong e = sym (start-from s long ∙ rw e)

  pub utf8-right : utf8 s ≡ true → (k : ℕ) → k + 3 < length s → right_at s k ≡ true
  utf8-right e k h =
      let p = both_true (starts s) (from s 0) (sym (start-from s long) ∙ e) in
      from-right s (length s - 3) 0 (omega arith) p.1 k (omega arith) h

  -- the law by index
  pub utf8-ends : starts s ≡ true → ((k : ℕ) → k + 3 < length s → right_at s k ≡ true) → ends s ≡ utf8 s
  utf8-ends e h = sym (start-from s long ∙ rw e (from_all s (length s - 3) 0 (omega arith) (λ k l u. h k u)))

  -- a block with a wrong byte
  pub block_wrong : (i n : ℕ) → i + n + 3 ≤ length s → all_of n (λ j. right_at s (i + j)) ≡ false → false ≡ utf8 s
  block_wrong i n h e = pick (utf8 s) refl
    where
      pick : (u : Bool) → utf8 s ≡ u → false ≡ u
      pick false q = refl
      pick true q = sym e ∙ all_of_lem n (λ j. right_at s (i + j)) (λ k l. utf8-right q (i + k) (omega arith))

-- ---- the loop

pub passed_none : (s : List ℕ) → 3 ≤ length s → starts s ≡ true → Passed s 0
passed_none s h e = record { room = h; start = e; all = λ k l. absurd (omega arith) }

pub passed_block : {s : List ℕ} {i : ℕ} (n : ℕ) → Passed s i → i + n + 3 ≤ length s → all_of n (λ j. right_at s (i + j)) ≡ true → Passed s (i + n)
passed_block {s} {i} n p h e =
    record {
      room = h;
      start = p.start;
      all = λ k l. elim (dec_lt k i) [
        | yes u ↦ p.all k u
        | no u ↦ let d : i + (k - i) ≡ k = omega arith in rw d at (all_at n (λ j. right_at s (i + j)) e (k - i) (omega arith))
      ];
    }

-- the last block may lie over bytes that have passed
passed-last : {s : List ℕ} {i : ℕ} (last n : ℕ) → Passed s i → last + n + 3 ≡ length s → last ≤ i → all_of n (λ j. right_at s (last + j)) ≡ true → ends s ≡ utf8 s
passed-last {s} {i} last n p h l e =
    utf8-ends s (omega arith) p.start
    (λ k u. elim (dec_lt k last) [
      | yes v ↦ p.all k (omega arith)
      | no v ↦ let d : last + (k - last) ≡ k = omega arith in rw d at (all_at n (λ j. right_at s (last + j)) e (k - last) (omega arith))
    ])

pub passed_end : {s : List ℕ} {i : ℕ} (last n : ℕ) → Passed s i → last + n + 3 ≡ length s → last ≤ i → (all_of n (λ j. right_at s (last + j)) && ends s) ≡ utf8 s
passed_end {s} {i} last n p h l = by (all_of n (λ j. right_at s (last + j))) refl
  where
    by : (t : Bool) → all_of n (λ j. right_at s (last + j)) ≡ t → (t && ends s) ≡ utf8 s
    by true e = passed-last last n p h l e
    by false e = block_wrong s (omega (arith, p.room)) last n (omega arith) e

-- ---- blocks

-- one byte more
pub fault_next : (s : List ℕ) (i j e w : ℕ) → eqb e 0 ≡ all_of j (λ j. right_at s (i + j)) → w ≡ flag (wrong (get_or s (i + j) 0) (get_or s (i + j + 1) 0) (get_or s (i + j + 2) 0) (get_or s (i + j + 3) 0)) → eqb (bit_or e w) 0 ≡ all_of (j + 1) (λ j. right_at s (i + j))
unfolding all_of right_at
fault_next s i j e w q f = rw (add-one, or_zero e w, ← q, flag-zero w _ f)

module _ (s : List ℕ) (i : ℕ) where
  -- two blocks
  pub two_right : (m n : ℕ) (a b : Bool) → a ≡ all_of m (λ j. right_at s (i + j)) → a ≡ true → b ≡ all_of n (λ j. right_at s (i + m + j)) → b ≡ all_of (m + n) (λ j. right_at s (i + j))
  two_right m n a b p t q = pick (all_of n (λ j. right_at s (i + m + j))) refl
    where
      pick : (c : Bool) → all_of n (λ j. right_at s (i + m + j)) ≡ c → b ≡ all_of (m + n) (λ j. right_at s (i + j))
      pick true e = q ∙ e ∙ sym (all_of_lem (m + n) (λ j. right_at s (i + j)) (λ k l. elim (dec_lt k m) [
        | yes u ↦ all_at m (λ j. right_at s (i + j)) (sym p ∙ t) k u
        | no u ↦ let d : i + m + (k - m) ≡ i + k = omega arith in rw d at (all_at n (λ j. right_at s (i + m + j)) e (k - m) (omega arith))
      ]))
      pick false e = q ∙ e ∙ not_all (all_of (m + n) (λ j. right_at s (i + j))) refl
        where
          not_all : (c : Bool) → all_of (m + n) (λ j. right_at s (i + j)) ≡ c → false ≡ c
          not_all false z = refl
          not_all true z = sym e ∙ all_of_lem n (λ j. right_at s (i + m + j)) (λ k l. let d : i + (m + k) ≡ i + m + k = omega arith in rw d at (all_at (m + n) (λ j. right_at s (i + j)) z (m + k) (omega arith)))

  pub one_wrong : (m n : ℕ) (a : Bool) → a ≡ all_of m (λ j. right_at s (i + j)) → a ≡ false → m ≤ n → false ≡ all_of n (λ j. right_at s (i + j))
  one_wrong m n a p t h = not_all (all_of n (λ j. right_at s (i + j))) refl
    where
      not_all : (c : Bool) → all_of n (λ j. right_at s (i + j)) ≡ c → false ≡ c
      not_all false z = refl
      not_all true z = sym (sym p ∙ t) ∙ all_of_lem m (λ j. right_at s (i + j)) (λ k l. all_at n (λ j. right_at s (i + j)) z k (omega arith))

-- ---- ASCII

pub ascii-none : (s : List ℕ) → AsciiTo s 0
ascii-none s = record { to = omega arith; low = λ k h. absurd (omega arith) }

-- the bits of two bytes
or_low : (a b : ℕ) → bit_or a b < 0x80 → (a < 0x80) × (b < 0x80)
or_low a b h = (omega (arith, or_add_and a b, and_le_r a b), omega (arith, or_add_and a b, and_le_l a b))

-- the first, the middle and the last of three bytes or fewer
pub ascii-three : (s : List ℕ) → 0 < length s → length s < 4 → bit_or (bit_or (get_or s 0 0) (get_or s (length s / 2) 0)) (get_or s (length s - 1) 0) < 0x80 → AsciiTo s (length s)
ascii-three s p q h =
    let u = or_low (bit_or (get_or s 0 0) (get_or s (length s / 2) 0)) (get_or s (length s - 1) 0) h in
    let v = or_low (get_or s 0 0) (get_or s (length s / 2) 0) u.0 in
    record {
      to = omega arith;
      low = λ k l. elim (dec_lt k 1) [
        | yes a ↦ let d : k ≡ 0 = omega arith in rw d v.0
        | no a ↦ elim (dec_lt k (length s - 1)) [
          | yes b ↦ let d : k ≡ length s / 2 = omega arith in rw d v.1
          | no b ↦ let d : k ≡ length s - 1 = omega arith in rw d u.1
        ]
      ];
    }

-- the bits of four bytes from i on, behind others
four_low : (s : List ℕ) (x i a b c : ℕ) → a ≡ i + 1 → b ≡ i + 2 → c ≡ i + 3 → bit_or (bit_or (bit_or (bit_or x (get_or s i 0)) (get_or s a 0)) (get_or s b 0)) (get_or s c 0) < 0x80
    → (x < 0x80) × ((k : ℕ) → i ≤ k → k < i + 4 → get_or s k 0 < 0x80)
four_low s x i a b c ea eb ec h =
    let p = or_low (bit_or (bit_or (bit_or x (get_or s i 0)) (get_or s a 0)) (get_or s b 0)) (get_or s c 0) h in
    let q = or_low (bit_or (bit_or x (get_or s i 0)) (get_or s a 0)) (get_or s b 0) p.0 in
    let r = or_low (bit_or x (get_or s i 0)) (get_or s a 0) q.0 in
    let t = or_low x (get_or s i 0) r.0 in (
      t.0,
      λ k l u. elim (dec_lt k a) [
        | yes v ↦ let d : k ≡ i = omega arith in rw d t.1
        | no v ↦ elim (dec_lt k b) [
          | yes w ↦ let d : k ≡ a = omega arith in rw d r.1
          | no w ↦ elim (dec_lt k c) [
            | yes z ↦ let d : k ≡ b = omega arith in rw d q.1
            | no z ↦ let d : k ≡ c = omega arith in rw d p.1
          ]
        ]
      ],
    )

-- two fours of seven bytes or fewer
pub ascii_seven : (s : List ℕ) → 4 ≤ length s → length s < 8
    → bit_or (bit_or (bit_or (bit_or (bit_or (bit_or (bit_or (get_or s 0 0) (get_or s 1 0)) (get_or s 2 0)) (get_or s 3 0)) (get_or s (length s - 4) 0)) (get_or s (length s - 3) 0)) (get_or s (length s - 2) 0)) (get_or s (length s - 1) 0) < 0x80
    → AsciiTo s (length s)
ascii_seven s p q h =
    let n = length s in
    let back = four_low s (bit_or (bit_or (bit_or (get_or s 0 0) (get_or s 1 0)) (get_or s 2 0)) (get_or s 3 0)) (n - 4) (n - 3) (n - 2) (n - 1) (omega arith) (omega arith) (omega arith) h in
    let front = four_low s 0 0 1 2 3 refl refl refl back.0 in
    record {
      to = omega arith;
      low = λ k l. elim (dec_lt k 4) [
        | yes a ↦ front.1 k (omega arith) (omega arith)
        | no a ↦ back.1 k (omega arith) (omega arith)
      ];
    }

-- a block that may lie over bytes that are ASCII already
pub ascii-over : {s : List ℕ} {i : ℕ} (m n e : ℕ) → AsciiTo s i → m ≤ i → m + n ≡ e → e ≤ length s → all_of n (ascii_at s m) ≡ true → AsciiTo s e
ascii-over {s} {i} m n e a h d l t =
    record {
      to = l;
      low = λ k u. elim (dec_lt k m) [
        | yes v ↦ a.low k (omega arith)
        | no v ↦ let q : m + (k - m) ≡ k = omega arith in ltb-true (get_or s k 0) 0x80 (rw q at (all_at n (ascii_at s m) t (k - m) (omega arith)))
      ];
    }

pub ascii-next : {s : List ℕ} {i : ℕ} (n : ℕ) → AsciiTo s i → i + n ≤ length s → all_of n (ascii_at s i) ≡ true → AsciiTo s (i + n)
ascii-next {s} {i} n a h t = ascii-over i n (i + n) a (omega arith) refl h t

pub ascii_run : {s : List ℕ} {e : ℕ} → AsciiTo s e → Passes (size_in rows) s 0 e
ascii_run {s} {e} a =
    let p = ascii-passes s 0 e (simp zero-add a.to) (all_of_lem e (ascii_at s 0) (λ k h. lt-ltb (get_or s (0 + k) 0) 0x80 (simp zero-add (a.low k h)))) in
    rw (zero-add e) at p

-- a byte after three, all ASCII
low_right : (s : List ℕ) (k : ℕ) → get_or s k 0 < 0x80 → get_or s (k + 1) 0 < 0x80 → get_or s (k + 2) 0 < 0x80 → get_or s (k + 3) 0 < 0x80 → right_at s k ≡ true
unfolding right_at
low_right s k a b c d =
    rw (right-ascii {p3 = get_or s k 0} {p2 = get_or s (k + 1) 0} {p1 = get_or s (k + 2) 0} (record { near = omega arith; mid = omega arith; far = omega arith }) (get_or s (k + 3) 0) d)

ascii-starts : {s : List ℕ} {e : ℕ} → AsciiTo s e → 3 ≤ e → starts s ≡ true
unfolding starts
ascii-starts {s} {e} a h =
    let x = a.low 0 (omega arith) in
    let y = a.low 1 (omega arith) in
    let z = a.low 2 (omega arith) in
    rw (
      right-ascii {p3 = 0} {p2 = 0} {p1 = 0} (record { near = omega arith; mid = omega arith; far = omega arith }) (get_or s 0 0) x,
      right-ascii {p3 = 0} {p2 = 0} {p1 = get_or s 0 0} (record { near = omega arith; mid = omega arith; far = omega arith }) (get_or s 1 0) y,
      right-ascii {p3 = 0} {p2 = get_or s 0 0} {p1 = get_or s 1 0} (record { near = omega arith; mid = omega arith; far = omega arith }) (get_or s 2 0) z,
    )

pub ascii-passed : {s : List ℕ} {e : ℕ} → AsciiTo s e → 3 ≤ e → Passed s (e - 3)
ascii-passed {s} {e} a h =
    record {
      room = omega (arith, a.to);
      start = ascii-starts a h;
      all = λ k l. low_right s k (a.low k (omega arith)) (a.low (k + 1) (omega arith)) (a.low (k + 2) (omega arith)) (a.low (k + 3) (omega arith));
    }
