-- What inner functions of a comparison are told and answer. It need not be believed: `proofs/Blocks.antt` ties it to text order.
use Rattle.std.specs.Prelude.{ℕ, ◌+◌, ◌*◌, ◌≤◌, ◌<◌, ◌≡◌, List, [], ◌∷◌, length, get_or, take, drop}
use Rattle.texts.specs.Text.{order_of}

-- two texts are ordered as what is left of them from i on
pub record Alike (a b : List ℕ) (i : ℕ) : Type 0 where
  pub first : i ≤ length a
  pub second : i ≤ length b
  pub rest : order_of a b ≡ order_of (drop i a) (drop i b)

-- the number that bytes are, the first one highest, behind the number p
unfoldable pub number_from : ℕ → List ℕ → ℕ
number_from p [] = p
number_from p (b ∷ bs) = number_from (b + 256 * p) bs

-- w is the number of the eight bytes from i on
pub record WordAt (s : List ℕ) (i w : ℕ) : Type 0 where
  pub room : i + 8 ≤ length s
  pub number : w ≡ number_from 0 (take 8 (drop i s))
  pub bytes : (k : ℕ) → get_or s k 0 < 256
