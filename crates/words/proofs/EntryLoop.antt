-- A section of n entries that is written entry by entry, from a base on: the invariant of its loop.
use Prim.Native.Nat.{ℕ, zero, suc, ◌+◌, ◌*◌, ◌≤◌, ◌<◌}
use mathlib.Core.Path.{◌≡◌, refl, ap}
use mathlib.Core.List.{List, [], ◌∷◌, ◌++◌}
use native.Mathlib.Omega.{arith}
use native.Mathlib.Nat.{not-suc-le-zero}
use native.Mathlib.Numerals.{add-one}
use native.Mathlib.Decide.{ℕ_discrete}
use lib.ListN.{length, take, drop, length-append}
use Rattle.laws.specs.Counted.{join_of}
use Rattle.words.specs.Words.{bytes4, bytes_of}
use Rattle.words.specs.Output.{put_at, over}
use Rattle.words.proofs.FilledOutput.{FilledWords, start, more-entries, put_is, front_is}

pub join_longer : (j : ℕ) (g : ℕ → List ℕ) → length (join_of (j + 1) g) ≡ length (join_of j g) + length (g j)
unfolding join_of
join_longer j g = rw add-one (length-append (join_of j g) (g j))

-- entry j of those that are joined ends inside
pub join_within : (n j : ℕ) (g : ℕ → List ℕ) → j < n → length (join_of j g) + length (g j) ≤ length (join_of n g)
unfolding join_of
join_within zero j g h = absurd (not-suc-le-zero h)
join_within (suc n) j g h =
    elim (ℕ_discrete j n) [
      | yes e ↦ rw e (omega (arith, length-append (join_of n g) (g n)))
      | no d ↦ omega (arith, length-append (join_of n g) (g n), join_within n j g (omega arith))
    ]

-- entries before j are written, and the next one goes to `at`
pub record Running (base n : ℕ) (g : ℕ → List ℕ) (out₀ out : List ℕ) (j at : ℕ) : Type 0 where
  pub within : j ≤ n
  pub room : base + 4 * length (join_of n g) ≤ length out₀
  pub place : at ≡ base + 4 * length (join_of j g)
  pub long : length out ≡ length out₀
  pub filled : FilledWords base (join_of j g) out₀ out

module _ (base n : ℕ) (g : ℕ → List ℕ) (out₀ : List ℕ) where
  pub run_start : base + 4 * length (join_of n g) ≤ length out₀ → (at : ℕ) → at ≡ base → Running base n g out₀ out₀ 0 at
  unfolding join_of bytes_of
  run_start h at e =
      record { within = omega arith; room = h; place = omega arith; long = refl; filled = start base out₀ (omega arith) }

  module _ (out : List ℕ) (j at : ℕ) (r : Running base n g out₀ out j at) where
    -- the next entry fits
    pub run_room : j < n → at + 4 * length (g j) ≤ length out
    run_room h = omega (arith, join_within n j g h)

    pub run_next : (next out' : List ℕ) (at' : ℕ) → j < n → next ≡ g j → out' ≡ put_at out at next → at' ≡ at + 4 * length next
        → Running base n g out₀ out' (j + 1) at'
    run_next next out' at' h e q p =
        let size : length next ≡ length (g j) = ap length e in
        let f : FilledWords base (join_of (j + 1) g) out₀ out' =
        more-entries base j g out₀ out r.filled next at (at + 4 * length next) out' e r.place refl (omega (arith, join_within n j g h)) q in
        record {
          within = omega arith;
          room = r.room;
          place = omega (arith, join_longer j g);
          long = f.long;
          filled = f;
        }

    -- all are written
    pub run_put : n ≤ j → out ≡ put_at out₀ base (join_of n g)
    run_put h = let e : j ≡ n = omega arith in put_is base (join_of n g) out₀ out (rw e at r.filled)

    pub run_last : n ≤ j → at ≡ base + 4 * length (join_of n g)
    run_last h = let e : j ≡ n = omega arith in rw e at r.place

-- a section that begins where the output does
pub run_front : (n : ℕ) (g : ℕ → List ℕ) (out₀ out : List ℕ) (j at : ℕ) → Running 0 n g out₀ out j at → n ≤ j
    → out ≡ over (bytes_of (join_of n g)) out₀
run_front n g out₀ out j at r h = let e : j ≡ n = omega arith in front_is (bytes_of (join_of n g)) out₀ out (rw e at r.filled)

-- ---- entries of one word

module _ (base n : ℕ) (x : ℕ → ℕ) (out₀ out : List ℕ) (j at : ℕ) (r : Running base n (λ m. x m ∷ []) out₀ out j at) where
  pub word_room : j < n → at + 4 ≤ length out
  word_room h = run_room base n (λ m. x m ∷ []) out₀ out j at r h

  pub word_next : (v : ℕ) (out' : List ℕ) → j < n → v ≡ x j → out' ≡ take at out ++ bytes4 v ++ drop (at + 4) out
      → Running base n (λ m. x m ∷ []) out₀ out' (j + 1) (at + 4)
  unfolding bytes_of
  word_next v out' h e q = run_next base n (λ m. x m ∷ []) out₀ out j at r (v ∷ []) out' (at + 4) h (ap (λ (y : ℕ). y ∷ []) e) q refl

-- ---- entries of three words

module _ (base n : ℕ) (x y z : ℕ → ℕ) (out₀ out : List ℕ) (j at : ℕ) (r : Running base n (λ m. x m ∷ y m ∷ z m ∷ []) out₀ out j at) where
  pub three-room : j < n → at + 12 ≤ length out
  three-room h = run_room base n (λ m. x m ∷ y m ∷ z m ∷ []) out₀ out j at r h

  pub three-next : (a b c : ℕ) (out' : List ℕ) → j < n → a ≡ x j → b ≡ y j → c ≡ z j → out' ≡ put_at out at (a ∷ b ∷ c ∷ [])
      → Running base n (λ m. x m ∷ y m ∷ z m ∷ []) out₀ out' (j + 1) (at + 12)
  three-next a b c out' h e d f q =
      run_next base n (λ m. x m ∷ y m ∷ z m ∷ []) out₀ out j at r (a ∷ b ∷ c ∷ []) out' (at + 12) h (λ t. e t ∷ d t ∷ f t ∷ []) q refl
