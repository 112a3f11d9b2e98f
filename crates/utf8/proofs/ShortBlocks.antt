-- Blocks of sequences of one and two bytes: a byte below 0xe0 after three such is right by the one before it.
use Prim.Native.Nat.{ℕ, ◌+◌, ◌/◌, ◌≤◌, ◌<◌}
use mathlib.Core.Path.{◌≡◌, sym, ap, ◌∙◌}
use mathlib.Core.List.{List}
use mathlib.Core.Bool.{true, false, not, ◌&&◌, ◌||◌}
use native.Mathlib.Omega.{arith}
use native.Mathlib.Decide.{dec_lt}
use borrow.Author.Tests.{lt-leb, leb-false, not-true}
use lib.Dec.{leb, eqb}
use lib.Bits.{bit_or}
use lib.ListN.{get_or}
use Rattle.laws.specs.Counted.{all_of}
use Rattle.laws.proofs.Flags.{both_true, all_of_lem, or_zero}
use Rattle.laws.proofs.Members.{or-false, or_nil}
use Rattle.utf8.specs.Places.{flag, differ, due, continues, never, wrong, short_wrong, right_at}
use Rattle.utf8.proofs.Places.{low_none, high-none}
use Rattle.utf8.proofs.Blocks.{flag-zero, no_fault}

short_due : (p3 p2 p1 : ℕ) → p3 < 0xe0 → p2 < 0xe0 → due p3 p2 p1 ≡ leb 0xc0 p1
unfolding due
short_due p3 p2 p1 h k = rw (lt-leb 0xe0 p2 k, lt-leb 0xf0 p3 (omega arith), or_nil (leb 0xc0 p1), or_nil (leb 0xc0 p1))

-- what a byte is that the short test passes
short-parts : (p1 b : ℕ) → short_wrong p1 b ≡ false → (differ (continues b) (leb 0xc0 p1) ≡ false) × (eqb (b / 2) 96 ≡ false) × (b < 0xe0)
unfolding short_wrong
short-parts p1 b e =
    let p = or-false (differ (continues b) (leb 0xc0 p1) || eqb (b / 2) 96) (leb 0xe0 b) e in
    let q = or-false (differ (continues b) (leb 0xc0 p1)) (eqb (b / 2) 96) p.0 in
    (q.0, q.1, leb-false 0xe0 b p.1)

-- the law: a byte that the short test passes is right after bytes below 0xe0
pub short-right : (p3 p2 p1 b : ℕ) → p3 < 0xe0 → p2 < 0xe0 → p1 < 0xe0 → short_wrong p1 b ≡ false → wrong p3 p2 p1 b ≡ false
unfolding wrong never
short-right p3 p2 p1 b h k l e =
    let p = short-parts p1 b e in
    rw (
      short_due p3 p2 p1 h k,
      p.0,
      p.1,
      lt-leb 0xf5 b (omega arith),
      low_none p1 b (λ q. omega arith) (λ q. omega arith),
      high-none p1 b (λ q. omega arith) (λ q. omega arith),
    )

-- the j + 3 bytes from i on are below 0xe0, and the j behind the first three are right
pub record Short (s : List ℕ) (i j : ℕ) : Type 0 where
  pub low : (k : ℕ) → i ≤ k → k < i + j + 3 → get_or s k 0 < 0xe0
  pub right : (k : ℕ) → k < j → right_at s (i + k) ≡ true

module _ (s : List ℕ) (i : ℕ) where
  pub short-start : (x y z : ℕ) → x ≡ flag (leb 0xe0 (get_or s i 0)) → y ≡ flag (leb 0xe0 (get_or s (i + 1) 0)) → z ≡ flag (leb 0xe0 (get_or s (i + 2) 0)) → eqb (bit_or (bit_or x y) z) 0 ≡ true → Short s i 0
  short-start x y z p q r e =
      let a = leb 0xe0 (get_or s i 0) in
      let b = leb 0xe0 (get_or s (i + 1) 0) in
      let c = leb 0xe0 (get_or s (i + 2) 0) in
      let u = both_true (not a && not b) (not c) (sym (no_fault x y z a b c p q r) ∙ e) in
      let v = both_true (not a) (not b) u.0 in
      record {
        low = λ k l h. elim (dec_lt k (i + 1)) [
          | yes m ↦ let d : k ≡ i = omega arith in rw d (leb-false 0xe0 (get_or s i 0) (not-true a v.0))
          | no m ↦ elim (dec_lt k (i + 2)) [
            | yes n ↦ let d : k ≡ i + 1 = omega arith in rw d (leb-false 0xe0 (get_or s (i + 1) 0) (not-true b v.1))
            | no n ↦ let d : k ≡ i + 2 = omega arith in rw d (leb-false 0xe0 (get_or s (i + 2) 0) (not-true c u.1))
          ]
        ];
        right = λ k l. absurd (omega arith);
      }

  -- one byte more
  pub short-next : (j e w : ℕ) → (eqb e 0 ≡ true → Short s i j) → w ≡ flag (short_wrong (get_or s (i + j + 2) 0) (get_or s (i + j + 3) 0)) → eqb (bit_or e w) 0 ≡ true → Short s i (j + 1)
  unfolding right_at
  short-next j e w f q z =
      let u = both_true (eqb e 0) (eqb w 0) (sym (or_zero e w) ∙ z) in
      let b = f u.0 in
      let t = short_wrong (get_or s (i + j + 2) 0) (get_or s (i + j + 3) 0) in
      let g : t ≡ false = not-true t (sym (flag-zero w t q) ∙ u.1) in
      let here = short-right (get_or s (i + j) 0) (get_or s (i + j + 1) 0) (get_or s (i + j + 2) 0) (get_or s (i + j + 3) 0) (b.low (i + j) (omega arith) (omega arith)) (b.low (i + j + 1) (omega arith) (omega arith)) (b.low (i + j + 2) (omega arith) (omega arith)) g in
      record {
        low = λ k l h. elim (dec_lt k (i + j + 3)) [
          | yes m ↦ b.low k l m
          | no m ↦ let d : k ≡ i + j + 3 = omega arith in rw d (short-parts (get_or s (i + j + 2) 0) (get_or s (i + j + 3) 0) g).2
        ];
        right = λ k l. elim (dec_lt k j) [
          | yes m ↦ b.right k m
          | no m ↦ let d : k ≡ j = omega arith in rw d (ap not here)
        ];
      }

  pub short_all : (j n e : ℕ) → (eqb e 0 ≡ true → Short s i j) → n ≤ j → eqb e 0 ≡ true → all_of n (λ j. right_at s (i + j)) ≡ true
  short_all j n e f h z = all_of_lem n (λ j. right_at s (i + j)) (λ k l. (f z).right k (omega arith))
