-- Bits of words; a window of nodes and the bits that are kept for it.
use Rattle.std.specs.Prelude.{None, Option, Some, is_some}
use Prim.Native.Nat.{ℕ, zero, suc, ◌+◌, ◌-◌, ◌*◌, ◌/◌, ◌%◌, ◌^◌, ◌≤◌, ◌<◌, max}
use mathlib.Core.Path.{◌≡◌, refl, sym, ap, ap₂, ◌∙◌}
use mathlib.Core.List.{List, ◌++◌}
use mathlib.Core.Bool.{Bool, true, false, cond, not, ◌&&◌, ◌||◌, true≢false}
use native.Mathlib.Omega.{arith}
use native.Mathlib.Nat.{add-zero, one-mul, zero-mul, zero-add, mod-lt, div-eq_of_lt}
use native.Mathlib.Numerals.{add-one}
use native.Mathlib.Decide.{ℕ_discrete, dec_lt}
use lib.Arith.{digits_div, digits_mod}
use lib.Pow.{pow_pos, pow-lt, pow-add, split, shl-shr, shl_exact}
use lib.Bits.{bit_and, bit_or, or_shr, or_step, and_block, and_mask, and_zero_r, shifted_even}
use lib.Dec.{eqb}
use lib.ListN.{length, get_or, set, replicate, length-replicate, get_or-replicate, get_or-append}
use lib.Seq.{get_or-set_same, get_or-set_other}
use borrow.Author.Tests.{eq-eqb, ne_eqb, not-true}
use Rattle.laws.specs.Counted.{all_of, last_of}
use Rattle.laws.proofs.Flags.{not-true-false, all_at, all_of_lem, or_zero}
use Rattle.draft.specs.PathList.{path_count, path_origin, path_of, new_origin}
use Rattle.draft.specs.PathWindows.{marked, Marks, Windowed, Ready, new_within, once_within, mask_in}
use Rattle.draft.proofs.PathLists.{of_node}

-- ---- one bit of a word

abbrev bit_of : ℕ → ℕ → ℕ
bit_of x j = x / 2 ^ j % 2

-- of a power of two one bit is set
power_same : (j : ℕ) → bit_of (2 ^ j) j ≡ 1
power_same j = ap (λ (x : ℕ). x / 2 ^ j % 2) (sym (one-mul (2 ^ j))) ∙ ap (λ (x : ℕ). x % 2) (shl-shr 1 j)

power_other : (j i : ℕ) → (i ≡ j → ⊥) → bit_of (2 ^ j) i ≡ 0
power_other j i d =
    elim (dec_lt i j) [
      | yes h ↦
          let k = j - i - 1 in
          let e : j ≡ suc k + i = omega arith in
          ap (λ (x : ℕ). 2 ^ x / 2 ^ i % 2) e ∙ ap (λ (x : ℕ). x / 2 ^ i % 2) (pow-add 2 (suc k) i) ∙ ap (λ (x : ℕ). x % 2) (shl-shr (2 ^ suc k) i ∙ sym (one-mul (2 ^ suc k)))
          ∙ shifted_even 1 k
      | no h ↦
          ap (λ (x : ℕ). x / 2 ^ i % 2) (sym (zero-add (2 ^ j)) ∙ ap (λ (x : ℕ). x + 2 ^ j) (sym (zero-mul (2 ^ i))))
          ∙ ap (λ (x : ℕ). x % 2) (digits_div 0 (pow-lt {i = j} {j = i} (omega arith)))
    ]

max_lt : (a b : ℕ) → a < 2 → b < 2 → max a b < 2
max_lt a b h k = omega arith

pub or_bit : (x y i : ℕ) → bit_of (bit_or x y) i ≡ max (bit_of x i) (bit_of y i)
or_bit x y i =
    let a = x / 2 ^ i in
    let b = y / 2 ^ i in
    ap (λ (z : ℕ). z % 2) (or_shr x y i ∙ or_step a b) ∙ digits_mod (bit_or (a / 2) (b / 2)) (max_lt (a % 2) (b % 2) (mod-lt a (omega arith)) (mod-lt b (omega arith)))

pub and_power : (x j : ℕ) → bit_and x (2 ^ j) ≡ bit_of x j * 2 ^ j
and_power x j =
    ap₂ bit_and (sym (split x j)) (sym (add-zero (1 * 2 ^ j) ∙ one-mul (2 ^ j)))
    ∙ and_block j (x / 2 ^ j) 1 (x % 2 ^ j) 0 (mod-lt x (pow_pos j)) (pow_pos j)
    ∙ ap₂ (λ (y z : ℕ). y * 2 ^ j + z) (and_mask (x / 2 ^ j) 1) (and_zero_r (x % 2 ^ j))
    ∙ add-zero (bit_of x j * 2 ^ j)

-- ---- the bits of a window

-- an answer of 0 tells that the bit was not set
bit_clear : (b p : ℕ) → b < 2 → 0 < p → eqb (b * p) 0 ≡ not (eqb b 1)
bit_clear zero p h q = rw (zero-mul p) refl
bit_clear (suc zero) p h q = rw (one-mul p) (ne_eqb p 0 (λ e. omega arith))
bit_clear (suc (suc b)) p h q = absurd (omega arith)

either_bit : (a b : ℕ) → a < 2 → b < 2 → eqb (max a b) 1 ≡ (eqb a 1 || eqb b 1)
either_bit zero zero h k = refl
either_bit zero (suc zero) h k = refl
either_bit zero (suc (suc b)) h k = absurd (omega arith)
either_bit (suc zero) zero h k = refl
either_bit (suc zero) (suc zero) h k = refl
either_bit (suc zero) (suc (suc b)) h k = absurd (omega arith)
either_bit (suc (suc a)) b h k = absurd (omega arith)

or-false : (b : Bool) → b ≡ (b || false)
or-false true = refl
or-false false = refl

module _ (number n : ℕ) where
  mask_here : n / 32768 ≡ number → mask_in number n ≡ 2 ^ (n % 32)
  unfolding mask_in
  mask_here e = rw (eq-eqb (n / 32768) number e)

  mask_none : (n / 32768 ≡ number → ⊥) → mask_in number n ≡ 0
  unfolding mask_in
  mask_none d = rw (ne_eqb (n / 32768) number d)

  pub mask_shifted : n / 32768 ≡ number → 1 * 2 ^ (n % 32) % 2 ^ 32 ≡ mask_in number n
  mask_shifted e = shl_exact 1 (n % 32) 32 (omega arith) (omega arith) ∙ one-mul (2 ^ (n % 32)) ∙ sym (mask_here e)

  pub mask_zero : (n / 32768 ≡ number → ⊥) → 0 ≡ mask_in number n
  mask_zero d = sym (mask_none d)

  module _ (window : List ℕ) where
    abbrev word : ℕ
    word = get_or window (n % 32768 / 32) 0

    pub mark-tells : eqb (bit_and word (mask_in number n)) 0 ≡ not (eqb (n / 32768) number && marked window n)
    unfolding marked
    mark-tells =
        elim (ℕ_discrete (n / 32768) number) [
          | yes e ↦
              rw (mask_here e, and_power word (n % 32), eq-eqb (n / 32768) number e)
              (bit_clear (bit_of word (n % 32)) (2 ^ (n % 32)) (mod-lt (word / 2 ^ (n % 32)) (omega arith)) (pow_pos (n % 32)))
          | no d ↦ rw (mask_none d, and_zero_r word, ne_eqb (n / 32768) number d)
        ]

    -- the bit of node i in the mask of node n
    mask_bit : (i : ℕ) → i / 32768 ≡ number → i % 32768 / 32 ≡ n % 32768 / 32 → eqb (bit_of (mask_in number n) (i % 32)) 1 ≡ eqb n i
    mask_bit i e w =
        elim (ℕ_discrete n i) [
          | yes q ↦
              rw (mask_here (omega arith), eq-eqb n i q)
              (ap (λ (x : ℕ). eqb (bit_of (2 ^ (n % 32)) x) 1) (ap (λ (x : ℕ). x % 32) (sym q)) ∙ ap (λ (x : ℕ). eqb x 1) (power_same (n % 32)))
          | no q ↦
              elim (ℕ_discrete (n / 32768) number) [
                | yes h ↦ rw (mask_here h, ne_eqb n i q) (ap (λ (x : ℕ). eqb x 1) (power_other (n % 32) (i % 32) (λ z. q (omega arith))))
                | no h ↦ rw (mask_none h, ne_eqb n i q) (ap (λ (x : ℕ). eqb (x % 2) 1) (div-eq_of_lt (pow_pos (i % 32))))
              ]
        ]

    pub mark-sets : 1024 ≤ length window → (i : ℕ) → i / 32768 ≡ number
        → marked (set window (n % 32768 / 32) (bit_or word (mask_in number n))) i ≡ (marked window i || eqb n i)
    unfolding marked
    mark-sets long i e =
        elim (ℕ_discrete (i % 32768 / 32) (n % 32768 / 32)) [
          | yes w ↦
              rw (w, get_or-set_same window (n % 32768 / 32) (bit_or word (mask_in number n)) 0 (omega arith), or_bit word (mask_in number n) (i % 32))
              (either_bit (bit_of word (i % 32)) (bit_of (mask_in number n) (i % 32)) (mod-lt (word / 2 ^ (i % 32)) (omega arith)) (mod-lt (mask_in number n / 2 ^ (i % 32)) (omega arith))
              ∙ ap (λ (b : Bool). eqb (bit_of word (i % 32)) 1 || b) (mask_bit i e w))
          | no w ↦
              rw (get_or-set_other window (n % 32768 / 32) (i % 32768 / 32) (bit_or word (mask_in number n)) 0 w, ne_eqb n i (λ q. w (omega arith)))
              (or-false (eqb (bit_of (get_or window (i % 32768 / 32) 0) (i % 32)) 1))
        ]

-- ---- a window that is filled

-- no number below n passes the test
none_of : (n : ℕ) (t : ℕ → Bool) → not (is_some (last_of n t)) ≡ all_of n (λ k. not (t k))
unfolding last_of all_of
none_of zero t = refl
none_of (suc n) t = go (t n) (last_of n t) ∙ ap (λ (b : Bool). b && not (t n)) (none_of n t)
  where
    go : (b : Bool) (x : Option ℕ) → not (is_some (cond b (Some n) x)) ≡ (not (is_some x) && not b)
    go true None = refl
    go true (Some k) = refl
    go false None = refl
    go false (Some k) = refl

module _ (entries : List ℕ) (number : ℕ) where
  -- by the first k entries
  abbrev pub Filled : ℕ → List ℕ → Type 0
  Filled k window = (i : ℕ) → i / 32768 ≡ number → marked window i ≡ is_some (last_of k (of_node entries i))

  pub filled-starts : (window rest : List ℕ) → window ≡ replicate 1024 0 ++ rest → Filled 0 window
  unfolding marked last_of
  filled-starts window rest e i h =
      let p = i % 32768 / 32 in
      let z : get_or window p 0 ≡ 0 =
      ap (λ (w : List ℕ). get_or w p 0) e ∙ get_or-append (replicate 1024 0) rest 0 p (rw (length-replicate {A = ℕ} 1024 0) (omega arith))
      ∙ get_or-replicate 1024 p 0 0 (omega arith) in
      ap (λ (x : ℕ). eqb (x / 2 ^ (i % 32) % 2) 1) z ∙ ap (λ (x : ℕ). eqb (x % 2) 1) (div-eq_of_lt (pow_pos (i % 32)))

  -- one more entry
  module _ (k n : ℕ) (read : n ≡ path_origin entries k) (window : List ℕ) (f : Filled k window) where
    some_or : (x : Option ℕ) (b : Bool) → (is_some x || b) ≡ is_some (cond b (Some k) x)
    some_or None true = refl
    some_or None false = refl
    some_or (Some j) true = refl
    some_or (Some j) false = refl

    pub filled_goes : (next : List ℕ) → ((i : ℕ) → i / 32768 ≡ number → marked next i ≡ (marked window i || eqb n i)) → Filled (k + 1) next
    unfolding last_of
    filled_goes next h i e =
        h i e ∙ ap (λ (b : Bool). b || eqb n i) (f i e) ∙ some_or (last_of k (of_node entries i)) (eqb n i)
        ∙ rw (add-one k) (ap (λ (m : ℕ). is_some (cond (eqb m i) (Some k) (last_of k (of_node entries i)))) read)

    -- whether it is the first of its node
    new_marked : n / 32768 ≡ number → not (marked window n) ≡ new_origin entries k
    unfolding new_origin
    new_marked e = ap not (f n e) ∙ ap (λ (m : ℕ). not (is_some (last_of k (of_node entries m)))) read ∙ none_of k (of_node entries (path_origin entries k))

    new_here : not (eqb (n / 32768) number && marked window n) ≡ new_within number entries k
    unfolding new_within
    new_here =
        elim (ℕ_discrete (n / 32768) number) [
          | yes e ↦ rw (← read, eq-eqb (n / 32768) number e) (new_marked e)
          | no d ↦ rw (← read, ne_eqb (n / 32768) number d) refl
        ]

    pub once_goes : (twice a : ℕ) → eqb a 0 ≡ not (eqb (n / 32768) number && marked window n) → eqb twice 0 ≡ all_of k (new_within number entries)
        → eqb (bit_or twice a) 0 ≡ all_of (k + 1) (new_within number entries)
    unfolding all_of
    once_goes twice a e h = or_zero twice a ∙ ap₂ (λ (x y : Bool). x && y) h (e ∙ new_here) ∙ sym (rw (add-one k) refl)

  pub once-starts : eqb 0 0 ≡ all_of 0 (new_within number entries)
  unfolding all_of
  once-starts = refl

  module _ (k count : ℕ) (counted : count ≡ path_count entries) (h : k ≤ count) (l : count ≤ k) where
    all_read : k ≡ path_count entries
    all_read = let e : k ≡ count = omega arith in e ∙ counted

    pub filled-ends : (window : List ℕ) → Filled k window → Marks entries number window
    unfolding path_of
    filled-ends window f i e = f i e ∙ ap (λ (m : ℕ). is_some (last_of m (of_node entries i))) all_read

    pub once-ends : (twice : ℕ) → eqb twice 0 ≡ all_of k (new_within number entries) → eqb twice 0 ≡ once_within number entries
    unfolding once_within
    once-ends twice p = p ∙ ap (λ (m : ℕ). all_of m (new_within number entries)) all_read

-- ---- all windows

module _ (entries : List ℕ) where
  abbrev new : Bool
  new = all_of (path_count entries) (new_origin entries)

  or-true : (a : Bool) → (a || true) ≡ true
  or-true true = refl
  or-true false = refl

  all_once : (number : ℕ) → new ≡ true → once_within number entries ≡ true
  unfolding once_within new_within
  all_once number p =
      all_of_lem (path_count entries) (new_within number entries)
      (λ k l. ap (λ (b : Bool). not (eqb (path_origin entries k / 32768) number) || b) (all_at (path_count entries) (new_origin entries) p k l) ∙ or-true (not (eqb (path_origin entries k / 32768) number)))

  pub twice_found : (number : ℕ) (b : Bool) → b ≡ once_within number entries → not b ≡ true → false ≡ new
  twice_found number b e h = sym (not-true-false new (λ p. true≢false (sym (all_once number p) ∙ sym e ∙ not-true b h)))

  -- each node lies in one of the windows
  pub none_found : (nodes windows number : ℕ) → ((k : ℕ) → k < path_count entries → path_origin entries k < nodes) → windows ≡ nodes / 32768 + 1 → windows ≤ number
      → all_of number (λ n. once_within n entries) ≡ true → true ≡ new
  unfolding once_within new_within
  none_found nodes windows number inside w h p = sym (all_of_lem (path_count entries) (new_origin entries) each)
    where
      each : (k : ℕ) → k < path_count entries → new_origin entries k ≡ true
      each k l =
          let o = path_origin entries k in
          let q = inside k l in
          let once = all_at number (λ n. once_within n entries) p (o / 32768) (omega arith) in
          let here = all_at (path_count entries) (new_within (o / 32768) entries) once k l in
          rw (eq-eqb (o / 32768) (o / 32768) refl) at here

-- ---- the window of the next node

pub ready-starts : (entries : List ℕ) (rises : Bool) (window : List ℕ) → Ready entries 0 rises window
ready-starts entries rises window d = absurd (d refl)

-- it is the same but where a window begins
pub ready_goes : (entries : List ℕ) (i : ℕ) (rises : Bool) (window : List ℕ) → Windowed entries i rises window → Ready entries (i + 1) rises window
ready_goes entries i rises window w d y j e = w y j (omega arith)
