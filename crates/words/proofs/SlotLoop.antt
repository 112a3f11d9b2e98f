-- Lent words that are filled slot by slot, w words a slot: the invariant of a loop that answers many questions in one call.
use Prim.Native.Nat.{ℕ, ◌+◌, ◌*◌, ◌-◌, ◌≤◌, ◌<◌}
use mathlib.Core.Path.{◌≡◌, refl, sym, ap, ◌∙◌}
use mathlib.Core.List.{List, ◌++◌, append_assoc}
use native.Mathlib.Omega.{arith}
use native.Mathlib.Nat.{mul-suc, mul-le-mul_left}
use native.Mathlib.Numerals.{add-one}
use lib.ListN.{length, take, drop}
use lib.Seq.{drop-drop}
use Rattle.laws.specs.Counted.{join_of}
use borrow.Rule.Slice.PartMut.{put_mid}
use Rattle.laws.proofs.Lists.{to_end, part-back}
use Rattle.laws.proofs.Slots.{join_length}
use Rattle.words.specs.Output.{over}
use Rattle.words.proofs.FilledOutput.{Filled, start, more-joined, front_is}

-- slots before j of n are written
pub record SlotsSoFar (w n : ℕ) (g : ℕ → List ℕ) (out₀ out : List ℕ) (j : ℕ) : Type 0 where
  pub within : j ≤ n
  pub room : w * n ≤ length out₀
  pub long : length out ≡ length out₀
  pub filled : Filled 0 (join_of j g) out₀ out

module _ (w n : ℕ) (g : ℕ → List ℕ) (each : (j : ℕ) → length (g j) ≡ w) (out₀ : List ℕ) where
  pub slots-start : w * n ≤ length out₀ → SlotsSoFar w n g out₀ out₀ 0
  unfolding join_of
  slots-start h = record { within = omega arith; room = h; long = refl; filled = start 0 out₀ (omega arith) }

  module _ (out : List ℕ) (j : ℕ) (s : SlotsSoFar w n g out₀ out j) where
    -- the next slot is inside
    pub slot-room : j < n → w * j + w ≤ length out₀
    slot-room h =
        let m : w * (j + 1) ≤ w * n = mul-le-mul_left w (omega arith) in
        omega (arith, mul-suc w j, ap (λ (x : ℕ). w * x) (add-one j))

    pub slots_next : (next out' : List ℕ) → j < n → next ≡ g j → out' ≡ take (w * j) out ++ next ++ drop (w * j + w) out
        → SlotsSoFar w n g out₀ out' (j + 1)
    slots_next next out' h e q =
        let size : length next ≡ w = ap length e ∙ each j in
        let f : Filled 0 (join_of (j + 1) g) out₀ out' =
        more-joined 0 j g out₀ out s.filled next (w * j) (w * j + w) out' e (omega (arith, join_length w g each j)) (omega arith) (slot-room h) q in
        record { within = omega arith; room = s.room; long = f.long; filled = f }

    -- the same, where the output was lent from the slot on
    pub slots-next-part : (next part : List ℕ) → j < n → next ≡ g j → part ≡ next ++ drop w (take (length out - w * j) (drop (w * j) out))
        → SlotsSoFar w n g out₀ (put_mid (w * j) (length out - w * j) out part) (j + 1)
    slots-next-part next part h e q =
        slots_next next (put_mid (w * j) (length out - w * j) out part) h e
        (part-back (w * j) out part
        ∙ ap (λ (l : List ℕ). take (w * j) out ++ l) (q ∙ ap (λ (l : List ℕ). next ++ drop w l) (to_end (w * j) out))
        ∙ rw (drop-drop w (w * j) out) (sym (append_assoc (take (w * j) out) next (drop (w * j + w) out))))

    -- all are written, and what follows is as it was
    pub slots_end : n ≤ j → out ≡ over (join_of n g) out₀
    slots_end h = let e : j ≡ n = omega arith in front_is (join_of n g) out₀ out (rw e at s.filled)
