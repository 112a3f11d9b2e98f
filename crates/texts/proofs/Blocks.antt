-- Texts compared by blocks and by words: bytes that are alike are passed, and numbers of eight bytes are ordered as the bytes are.
use Prim.Native.Nat.{ℕ, zero, suc, ◌+◌, ◌*◌, ◌≤◌, ◌<◌}
use mathlib.Core.Path.{◌≡◌, refl, sym, ap, ap₂, ◌∙◌}
use mathlib.Core.List.{List, [], ◌∷◌, ◌++◌}
use mathlib.Core.Bool.{Bool, true, false, false≢true}
use native.Mathlib.Omega.{arith}
use native.Mathlib.Decide.{dec_lt}
use native.Mathlib.Nat.{add-zero}
use native.Mathlib.Numerals.{add-one}
use borrow.Author.Tests.{lt-ltb, le-ltb, eq-eqb, ne_eqb, eqb-true}
use lib.Dec.{eqb}
use lib.Bits.{bit_or, bit_xor, xor_add_and, xor_self, and_le_l, and_le_r}
use lib.ListN.{length, get_or, take, drop, take-append-drop, length-take, length-drop, get_or-eq_default}
use lib.Seq.{drop-drop, get_or-take, get_or-drop, length-take-le}
use Rattle.laws.specs.Counted.{all_of}
use Rattle.laws.proofs.Flags.{both_true, or_zero}
use Rattle.laws.proofs.Lists.{drop-next}
use Rattle.std.specs.declared.cmp.Ordering.{Ordering}
use Rattle.std.specs.declared.cmp.Ordering.TheVariants.{Less, Greater}
use Rattle.texts.specs.Text.{order_of}
use Rattle.texts.specs.Blocks.{Alike, number_from, WordAt}
use Rattle.texts.proofs.Text.{order-turned, turned, byte-like}

-- ---- differences, gathered

-- the difference of two bytes is 0 where they are one
xor_zero : (x y : ℕ) → eqb (bit_xor x y) 0 ≡ eqb x y
xor_zero x y = by (eqb x y) refl
  where
    by : (t : Bool) → eqb x y ≡ t → eqb (bit_xor x y) 0 ≡ t
    by true e = let d = eqb-true x y e in rw (d, xor_self y)
    by false e = ne_eqb (bit_xor x y) 0 (λ z. let d : x ≡ y = omega (arith, xor_add_and x y, and_le_l x y, and_le_r x y) in false≢true (sym e ∙ eq-eqb x y d))

-- bytes i + j of both are one
abbrev pub like_at : List ℕ → List ℕ → ℕ → ℕ → Bool
like_at a b i j = eqb (get_or a (i + j) 0) (get_or b (i + j) 0)

pub bits-next : (a b : List ℕ) (i j bits : ℕ) → eqb bits 0 ≡ all_of j (like_at a b i) → eqb (bit_or bits (bit_xor (get_or a (i + j) 0) (get_or b (i + j) 0))) 0 ≡ all_of (j + 1) (like_at a b i)
unfolding all_of
bits-next a b i j bits e = rw (add-one, or_zero bits (bit_xor (get_or a (i + j) 0) (get_or b (i + j) 0)), xor_zero (get_or a (i + j) 0) (get_or b (i + j) 0), ← e)

-- ---- texts that begin alike

pub alike-none : (a b : List ℕ) → Alike a b 0
alike-none a b = record { first = omega arith; second = omega arith; rest = refl }

pub alike_block : {a b : List ℕ} {i : ℕ} (n : ℕ) → Alike a b i → i + n ≤ length a → i + n ≤ length b → all_of n (like_at a b i) ≡ true → Alike a b (i + n)
unfolding all_of
alike_block {a} {b} {i} zero p h k e = rw (add-zero i) p
alike_block {a} {b} {i} (suc n) p h k e =
    let t = both_true (all_of n (like_at a b i)) (like_at a b i n) e in
    let q = alike_block n p (omega arith) (omega arith) t.0 in
    let like = eqb-true (get_or a (i + n) 0) (get_or b (i + n) 0) t.1 in
    let m : i + n + 1 ≡ i + suc n = omega arith in
    record {
      first = h;
      second = k;
      rest = q.rest ∙ byte-like a b (i + n) (omega arith) (omega arith) like ∙ ap (λ (x : ℕ). order_of (drop x a) (drop x b)) m;
    }

-- ---- words

-- all are bytes
abbrev Bytes : List ℕ → Type 0
Bytes s = (k : ℕ) → get_or s k 0 < 256

-- a lower number in front stays lower
number-less : (p q : ℕ) (s t : List ℕ) → p < q → length s ≡ length t → Bytes s → Bytes t → number_from p s < number_from q t
unfolding number_from
number-less p q [] [] h l f g = h
number-less p q [] (y ∷ t) h l f g = absurd (omega arith)
number-less p q (x ∷ s) [] h l f g = absurd (omega arith)
number-less p q (x ∷ s) (y ∷ t) h l f g =
    let fx = f 0 in
    let gy = g 0 in
    number-less (x + 256 * p) (y + 256 * q) s t (omega arith) (omega arith) (λ k. f (suc k)) (λ k. g (suc k))

-- numbers of as many bytes are ordered as the bytes are, whatever follows
pub number-order-less : (p : ℕ) (s t u v : List ℕ) → length s ≡ length t → Bytes s → Bytes t → number_from p s < number_from p t → order_of (s ++ u) (t ++ v) ≡ Less
unfolding number_from order_of
number-order-less p [] [] u v l f g h = absurd (omega arith)
number-order-less p [] (y ∷ t) u v l f g h = absurd (omega arith)
number-order-less p (x ∷ s) [] u v l f g h = absurd (omega arith)
number-order-less p (x ∷ s) (y ∷ t) u v l f g h =
    elim (dec_lt x y) [
      | yes a ↦ rw (lt-ltb x y a)
      | no a ↦
          elim (dec_lt y x) [
            | yes b ↦ absurd (omega (arith, number-less (y + 256 * p) (x + 256 * p) t s (omega arith) (omega arith) (λ k. g (suc k)) (λ k. f (suc k))))
            | no b ↦
                let e : x ≡ y = omega arith in
                let r = number-order-less (y + 256 * p) s t u v (omega arith) (λ k. f (suc k)) (λ k. g (suc k)) (rw e at h) in
                rw (le-ltb x y (omega arith), le-ltb y x (omega arith)) r
          ]
    ]

pub number-order-same : (p : ℕ) (s t u v : List ℕ) → length s ≡ length t → Bytes s → Bytes t → number_from p s ≡ number_from p t → order_of (s ++ u) (t ++ v) ≡ order_of u v
unfolding number_from order_of
number-order-same p [] [] u v l f g h = refl
number-order-same p [] (y ∷ t) u v l f g h = absurd (omega arith)
number-order-same p (x ∷ s) [] u v l f g h = absurd (omega arith)
number-order-same p (x ∷ s) (y ∷ t) u v l f g h =
    elim (dec_lt x y) [
      | yes a ↦ absurd (omega (arith, number-less (x + 256 * p) (y + 256 * p) s t (omega arith) (omega arith) (λ k. f (suc k)) (λ k. g (suc k))))
      | no a ↦
          elim (dec_lt y x) [
            | yes b ↦ absurd (omega (arith, number-less (y + 256 * p) (x + 256 * p) t s (omega arith) (omega arith) (λ k. g (suc k)) (λ k. f (suc k))))
            | no b ↦
                let e : x ≡ y = omega arith in
                let r = number-order-same (y + 256 * p) s t u v (omega arith) (λ k. f (suc k)) (λ k. g (suc k)) (rw e at h) in
                rw (le-ltb x y (omega arith), le-ltb y x (omega arith)) r
          ]
    ]

-- eight bytes from i on, and what follows them
eight : (s : List ℕ) (i : ℕ) → take 8 (drop i s) ++ drop (i + 8) s ≡ drop i s
eight s i = ap (λ (t : List ℕ). take 8 (drop i s) ++ t) (sym (drop-drop 8 i s)) ∙ take-append-drop 8 (drop i s)

eight_of_lem : (s : List ℕ) (i : ℕ)
    → i + 8 ≤ length s
    → take 8 (drop i s)
    ≡ get_or s i 0 ∷ get_or s (i + 1) 0 ∷ get_or s (i + 2) 0 ∷ get_or s (i + 3) 0 ∷ get_or s (i + 4) 0 ∷ get_or s (i + 5) 0 ∷ get_or s (i + 6) 0 ∷ get_or s (i + 7) 0 ∷ []
eight_of_lem s i h =
    rw (
      drop-next s i (i + 1) refl (omega arith),
      drop-next s (i + 1) (i + 2) (omega arith) (omega arith),
      drop-next s (i + 2) (i + 3) (omega arith) (omega arith),
      drop-next s (i + 3) (i + 4) (omega arith) (omega arith),
      drop-next s (i + 4) (i + 5) (omega arith) (omega arith),
      drop-next s (i + 5) (i + 6) (omega arith) (omega arith),
      drop-next s (i + 6) (i + 7) (omega arith) (omega arith),
      drop-next s (i + 7) (i + 8) (omega arith) (omega arith),
    )

-- their number, as a sum
pub eight_bytes : (s : List ℕ) (i n : ℕ) → i + 8 ≤ length s
    → n
    ≡ get_or s (i + 7) 0 + 256 * (get_or s (i + 6) 0 + 256 * (get_or s (i + 5) 0 + 256 * (get_or s (i + 4) 0 + 256 * (get_or s (i + 3) 0 + 256 * (get_or s (i + 2) 0 + 256 * (get_or s (i + 1) 0 + 256 * get_or s i 0))))))
    → n ≡ number_from 0 (take 8 (drop i s))
unfolding number_from
eight_bytes s i n h p = rw (eight_of_lem s i h) (omega arith)

taken-bytes : (s : List ℕ) (n i : ℕ) → Bytes s → Bytes (take n (drop i s))
taken-bytes s n i f k =
    elim (dec_lt k n) [
      | yes h ↦ rw (get_or-take n (drop i s) k 0 h, get_or-drop i s k 0) (f (i + k))
      | no h ↦ let l : length (take n (drop i s)) ≤ k = simp length-take (omega arith) in rw (get_or-eq_default (take n (drop i s)) 0 l) (omega arith)
    ]

module _ {a b : List ℕ} {i x y : ℕ} (p : Alike a b i) (u : WordAt a i x) (v : WordAt b i y) where
  as_long : length (take 8 (drop i a)) ≡ length (take 8 (drop i b))
  as_long =
      length-take-le 8 (drop i a) (simp length-drop (omega (arith, u.room)))
      ∙ sym (length-take-le 8 (drop i b) (simp length-drop (omega (arith, v.room))))

  word-order : (o : Ordering) → order_of (take 8 (drop i a) ++ drop (i + 8) a) (take 8 (drop i b) ++ drop (i + 8) b) ≡ o → order_of a b ≡ o
  word-order o e = p.rest ∙ sym (ap₂ order_of (eight a i) (eight b i)) ∙ e

  pub word-less : x < y → Less ≡ order_of a b
  word-less h =
      sym
      (word-order Less
      (number-order-less 0 (take 8 (drop i a)) (take 8 (drop i b)) (drop (i + 8) a) (drop (i + 8) b) as_long (taken-bytes a 8 i u.bytes) (taken-bytes b 8 i v.bytes) (rw (u.number, v.number) at h)))

  pub word_same : x ≡ y → Alike a b (i + 8)
  word_same e =
      record {
        first = u.room;
        second = v.room;
        rest =
            word-order (order_of (drop (i + 8) a) (drop (i + 8) b))
            (number-order-same 0 (take 8 (drop i a)) (take 8 (drop i b)) (drop (i + 8) a) (drop (i + 8) b) as_long (taken-bytes a 8 i u.bytes) (taken-bytes b 8 i v.bytes) (sym u.number ∙ e ∙ v.number));
      }

alike_turned : {a b : List ℕ} {i : ℕ} → Alike a b i → Alike b a i
alike_turned {a} {b} {i} p =
    record {
      first = p.second;
      second = p.first;
      rest = order-turned a b ∙ ap turned p.rest ∙ sym (order-turned (drop i a) (drop i b));
    }

pub word_more : {a b : List ℕ} {i x y : ℕ} → Alike a b i → WordAt a i x → WordAt b i y → y < x → Greater ≡ order_of a b
word_more {a} {b} p u v h = ap turned (word-less (alike_turned p) v u h) ∙ sym (order-turned b a)
