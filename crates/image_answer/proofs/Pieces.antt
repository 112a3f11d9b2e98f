-- Texts and numbers written one behind the other make the line.
use Prim.Native.Nat.{ℕ, ◌+◌, ◌≤◌}
use mathlib.Core.Path.{◌≡◌, refl}
use mathlib.Core.List.{List, [], ◌++◌}
use native.Mathlib.Omega.{arith}
use lib.ListN.{length, length-append}
use Rattle.words.specs.Output.{over}
use Rattle.words.proofs.FilledOutput.{Filled, start, more, front_is}
use Rattle.image_answer.specs.Answer.{put_bytes}

-- the output begins with these bytes, of which there are r, and is otherwise as it was
pub record Begun (bs out₀ out : List ℕ) (r : ℕ) : Type 0 where
  pub count : r ≡ length bs
  pub filled : Filled 0 bs out₀ out

-- the first text; the next text or number
module _ (out₀ : List ℕ) where
  pub begin : (out bs : List ℕ) (r : ℕ) → length bs ≤ 25 → 25 ≤ length out₀ → r ≡ 0 + length bs → out ≡ put_bytes out₀ 0 bs → Begun bs out₀ out r
  begin out bs r h k p e =
      record {
        count = omega arith;
        filled = more 0 [] out₀ out₀ (start 0 out₀ (omega arith)) bs 0 (0 + length bs) out refl refl (omega arith) e;
      }

  pub onward : (out out' done bs : List ℕ) (at r : ℕ) → Begun done out₀ out at → at + length bs ≤ length out → r ≡ at + length bs
      → out' ≡ put_bytes out at bs → Begun (done ++ bs) out₀ out' r
  onward out out' done bs at r b h p e =
      let size = b.filled.long in
      let both = length-append done bs in
      let place = b.count in
      record { count = omega arith; filled = more 0 done out₀ out b.filled bs at (at + length bs) out' (omega arith) refl (omega arith) e }

  pub line_is : (out bs : List ℕ) (r : ℕ) → Begun bs out₀ out r → (r ≡ length bs) × (out ≡ over bs out₀)
  line_is out bs r b = (b.count, front_is bs out₀ out b.filled)
