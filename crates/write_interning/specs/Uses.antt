-- Uses of texts, numbered from 0 in their order, each text stored once, at its first use; `key` gives a use's text.
use Rattle.std.specs.Prelude.{ℕ, suc, ◌+◌, ◌-◌, ◌^◌, ◌≤◌, ◌<◌, ◌≡◌, List, [], ◌∷◌, Bool, true, cond, eqb, ltb, get_or, None, Option, Some}
use Rattle.laws.specs.Counted.{join_of}
use Rattle.laws.specs.Lists.{flat_map}
use Rattle.draft_image.specs.Strings.{distinct, offset_of}

-- the texts of the uses 0 to n - 1, and those stored of them
abbrev pub texts_of : (ℕ → List ℕ) → ℕ → List (List ℕ)
texts_of key n = join_of n (λ k. key k ∷ [])

unfoldable pub stored_of : (ℕ → List ℕ) → ℕ → List (List ℕ)
stored_of key n = distinct [] (texts_of key n)

-- the stored texts one after the other
abbrev pub texts_joined : List (List ℕ) → List ℕ
texts_joined kept = flat_map (λ t. t) kept

-- the answer by the length of the stored texts: a word can say where each begins, or not
unfoldable pub stored_answer : ℕ → Option ℕ
stored_answer n = cond (ltb n (2 ^ 32)) (Some n) None

-- the words after the first n say where each use's text is stored
abbrev pub Offsets : (ℕ → List ℕ) → ℕ → List ℕ → Type 0
Offsets key n w = (k : ℕ) → k < n → get_or w (n + k) 0 ≡ offset_of (stored_of key n) (key k)

-- the texts of the uses from p to n - 1 rise
abbrev pub RisesFrom : (ℕ → ℕ → Bool) → ℕ → ℕ → Type 0
RisesFrom lt p n = (a : ℕ) → p ≤ a → suc a < n → lt a (suc a) ≡ true

-- ---- the first use of each text

-- r is the first use of k's text
pub record First (key : ℕ → List ℕ) (k r : ℕ) : Type 0 where
  pub early : r ≤ k
  pub alike : key r ≡ key k
  pub least : (j : ℕ) → j < r → key j ≡ key k → ⊥

-- the words after the first n say each use's first use
abbrev pub Firsts : (ℕ → List ℕ) → ℕ → List ℕ → Type 0
Firsts key n w = (k : ℕ) → k < n → First key k (get_or w (n + k) 0)

-- the first use of the i-th use of a sorted order: that of the one before it where their texts are one, else itself. The order is in the list's first n words, the first uses of those before i in the n words after them
unfoldable pub head_of : (ℕ → ℕ → Bool) → List ℕ → ℕ → ℕ → ℕ
head_of lt w n i =
    cond (eqb i 0) (get_or w i 0)
    (cond (lt (get_or w (i - 1) 0) (get_or w i 0)) (get_or w i 0) (get_or w (n + get_or w (i - 1) 0) 0))
