-- Sorting a list of numbers by a test `lt a b`, that a's key comes before b's: `isort` of `laws` is its meaning, and `merge` is what a merge of two lists gives, the left first where keys are equal.
use Rattle.std.specs.Prelude.{ℕ, zero, suc, ◌+◌, ◌-◌, ◌<◌, ◌≡◌, List, [], ◌∷◌, Bool, true, false, cond, ltb, length, get_or, take, drop}

-- the numbers from k on, n of them
unfoldable pub up_from : ℕ → ℕ → List ℕ
up_from k zero = []
up_from k (suc n) = k ∷ up_from (suc k) n

-- a merge of x ∷ xs and a list, given the merge of xs and any list
unfoldable pub merge_with : (ℕ → ℕ → Bool) → ℕ → (List ℕ → List ℕ) → List ℕ → List ℕ
merge_with lt x rest [] = x ∷ rest []
merge_with lt x rest (y ∷ ys) = let r = merge_with lt x rest ys in cond (lt y x) (y ∷ r) (x ∷ rest (y ∷ ys))

unfoldable pub merge : (ℕ → ℕ → Bool) → List ℕ → List ℕ → List ℕ
merge lt [] ys = ys
merge lt (x ∷ xs) ys = merge_with lt x (merge lt xs) ys

-- what a test must be for a sort by it
pub record Strict (lt : ℕ → ℕ → Bool) : Type 0 where
  pub self : (a : ℕ) → lt a a ≡ false
  pub trans : (a b c : ℕ) → lt a b ≡ true → lt b c ≡ true → lt a c ≡ true
  pub apart : (a b c : ℕ) → lt a b ≡ true → lt c b ≡ false → lt a c ≡ true

-- no element is above a later one
abbrev pub Ordered : (ℕ → ℕ → Bool) → List ℕ → Type 0
Ordered lt l = (i j : ℕ) → i < j → j < length l → lt (get_or l j 0) (get_or l i 0) ≡ false

-- each element is below the next
abbrev pub Rises : (ℕ → ℕ → Bool) → List ℕ → Type 0
Rises lt l = (i : ℕ) → suc i < length l → lt (get_or l i 0) (get_or l (suc i) 0) ≡ true

-- no two elements have one key
abbrev pub Unlike : (ℕ → List ℕ) → List ℕ → Type 0
Unlike key l = (i j : ℕ) → i < j → j < length l → key (get_or l i 0) ≡ key (get_or l j 0) → ⊥

-- two elements have one key
pub record Twice (key : ℕ → List ℕ) (l : List ℕ) : Type 0 where
  pub first : ℕ
  pub second : ℕ
  pub later : first < second
  pub within : second < length l
  pub alike : key (get_or l first 0) ≡ key (get_or l second 0)

-- ---- merging in one list

-- the elements from a up to, not including, e
abbrev pub part : ℕ → ℕ → List ℕ → List ℕ
part a e l = take (e - a) (drop a l)

-- whether a merge of two lists takes the right one's first element
unfoldable pub right_first : (ℕ → ℕ → Bool) → List ℕ → List ℕ → Bool
right_first lt xs [] = false
right_first lt [] (y ∷ ys) = true
right_first lt (x ∷ xs) (y ∷ ys) = lt y x

-- whether a merge of a list's parts from n + i on and from j up to n takes the second one's first element
unfoldable pub takes_right : (ℕ → ℕ → Bool) → List ℕ → ℕ → ℕ → ℕ → Bool
takes_right lt w n i j = cond (ltb j n) (lt (get_or w j 0) (get_or w (n + i) 0)) false

-- names on an `unfolding` line what a computation with this module needs
unfoldable pub sorts : Unit {0}
unfolding merge_with merge
sorts = tt
