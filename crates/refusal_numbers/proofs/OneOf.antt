-- The number of a rule is one of a list, if each that a part of it gives is.
use Prim.Native.Nat.{ℕ, zero, suc}
use mathlib.Core.Path.{◌≡◌}
use mathlib.Core.List.{List, [], ◌∷◌, ◌++◌}
use mathlib.Core.Bool.{Bool, true, false, cond}
use Rattle.laws.specs.Refusal.{unless, ◌▸◌, first_of, counts_as}
use Rattle.laws.specs.Lists.{has}
use Rattle.tree.specs.Tree.{Walked, walk, stop}

-- a type of its own, so that proofs of long rules do not compute the test
pub data In (numbers : List ℕ) (r : ℕ) : Type 0 where
  there : has r numbers ≡ true → In numbers r

pub among : (numbers : List ℕ) (r : ℕ) → In numbers r → has r numbers ≡ true
among numbers r (there h) = h

module _ (xs : List ℕ) (o : In xs 0) where
  pub both : (a b : ℕ) → In xs a → In xs b → In xs (a ▸ b)
  unfolding ◌▸◌
  both zero b p q = q
  both (suc a) b p q = p

  pub test : (k : ℕ) (b : Bool) → In xs k → In xs (unless b k)
  unfolding unless
  test k true p = o
  test k false p = p

  pub each : (n : ℕ) (f : ℕ → ℕ) → ((i : ℕ) → In xs (f i)) → In xs (first_of n f)
  unfolding first_of
  each zero f p = o
  each (suc n) f p = both (first_of n f) (f n) (each n f p) (p n)

  pub counted : (k r : ℕ) → In xs k → In xs (counts_as k r)
  unfolding counts_as
  counted k zero p = o
  counted k (suc r) p = p

  pub chosen : (b : Bool) (x y : ℕ) → In xs x → In xs y → In xs (cond b x y)
  chosen true x y p q = p
  chosen false x y p q = q

  -- ---- a walk that tests each node

  module _ (t : ℕ → ℕ) (push : ℕ → List ℕ) (p : (i : ℕ) → In xs (t i)) where
    stopped : (r : ℕ) (seen : List ℕ) (w : Walked) → In xs r → In xs w.refusal → In xs (stop t push r seen w).refusal
    stopped zero seen w a b = b
    stopped (suc r) seen w a b = a

    which : (b : Bool) (v w : Walked) → In xs v.refusal → In xs w.refusal → In xs (cond b v w).refusal
    which true v w a b = a
    which false v w a b = b

    pub walked : (n : ℕ) (seen pending : List ℕ) → In xs (walk t push n seen pending).refusal
    unfolding walk
    walked zero seen pending = o
    walked (suc n) seen [] = o
    walked (suc n) seen (i ∷ pending) =
        which (has i seen) _ _ (walked n seen pending) (stopped (t i) (i ∷ seen) _ (p i) (walked n (i ∷ seen) (push i ++ pending)))

-- the number of a rule by those of its parts; each part that is a rule of its own is named beside it
pub ruleset numbers = (both, test, each, counted, chosen, there)
