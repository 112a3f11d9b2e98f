-- A refusal is its number in FORMAT.md's table; 0 says that nothing was refused.
use Rattle.std.specs.Prelude.{ℕ, zero, suc, Bool, true, false, eqb}

-- refusal k unless the test passes
unfoldable pub unless : Bool → ℕ → ℕ
unless true k = 0
unless false k = k

-- nothing was refused
abbrev pub passes : ℕ → Bool
passes r = eqb r 0

-- the first rule's refusal, else the second's
infixr 20 ◌▸◌
unfoldable pub ◌▸◌ : ℕ → ℕ → ℕ
zero ▸ b = b
suc a ▸ b = suc a

-- the first refusal among f 0, f 1, .., f (n - 1): a loop that has passed i of them is at first_of i f
unfoldable pub first_of : ℕ → (ℕ → ℕ) → ℕ
first_of zero f = 0
first_of (suc n) f = let r = f n in first_of n f ▸ r

-- whatever is refused, it is refused with number k
unfoldable pub counts_as : ℕ → ℕ → ℕ
counts_as k zero = 0
counts_as k (suc r) = k

-- names on an `unfolding` line what a computation with this module needs
unfoldable pub refusals : Unit {0}
unfolding unless ◌▸◌ first_of counts_as
refusals = tt
