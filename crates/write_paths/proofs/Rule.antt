-- Rule 22 over the containers in the image's order: each is placed, and no two have one path.
use Prim.Native.Nat.{ℕ, zero, suc, ◌<◌}
use mathlib.Core.Path.{◌≡◌, refl, sym, ap, ◌∙◌}
use mathlib.Core.Logic.{◌⊎◌, inl, inr}
use mathlib.Core.List.{List, [], ◌∷◌, ◌++◌, append-nil}
use mathlib.Core.Bool.{Bool, true, false, cond, not, ◌&&◌, ◌||◌, false≢true}
use native.Mathlib.Omega.{arith}
use native.Mathlib.Nat.{le_of_suc-le-suc, not-suc-le-zero}
use native.Mathlib.Decide.{dec_lt}
use lib.ListN.{length, get_or, length-append, get_or-append}
use Rattle.laws.specs.Counted.{all_of, those}
use Rattle.laws.specs.Lists.{place_in}
use Rattle.laws.specs.Refusal.{unless, ◌▸◌, first_of}
use Rattle.laws.proofs.First.{pass, then, first_of_lem}
use Rattle.laws.proofs.Flags.{all_fails}
use Rattle.laws.proofs.Flags.{all_at, all_of_lem}
use Rattle.texts.specs.Text.{same}
use Rattle.texts.proofs.Text.{same_self, unlike-same}
use Rattle.image.specs.Sections.{Sections, node_count, is_container}
use Rattle.index.specs.Paths.{canonical_path}
use Rattle.draft.specs.Draft.{placed, new_path, path_rule, paths_rule}
use Rattle.draft.specs.Numbering.{old_of}
use Rattle.draft_image.specs.Strings.{path_of}
use Rattle.write_paths.specs.Listed.{containers, Permutation}

-- ---- the numbers below n that pass a test, by their places

-- what holds of a list's elements and of one more holds at each place
last_or : (P : ℕ → Type 0) (xs : List ℕ) (n k : ℕ) → k < length (xs ++ (n ∷ [])) → (k < length xs → P (get_or xs k 0)) → P n
    → P (get_or (xs ++ (n ∷ [])) k 0)
last_or P [] n zero h a p = p
last_or P [] n (suc k) h a p = absurd (not-suc-le-zero (le_of_suc-le-suc h))
last_or P (x ∷ xs) n zero h a p = a (omega arith)
last_or P (x ∷ xs) n (suc k) h a p = last_or P xs n k (le_of_suc-le-suc h) (λ q. a (omega arith)) p

last_at : (xs : List ℕ) (n : ℕ) → get_or (xs ++ (n ∷ [])) (length xs) 0 ≡ n
last_at [] n = refl
last_at (x ∷ xs) n = last_at xs n

module _ (t : ℕ → Bool) where
  -- what stands at a place is below n and passes
  pub those_at : (n k : ℕ) → k < length (those n t) → (get_or (those n t) k 0 < n) × (t (get_or (those n t) k 0) ≡ true)
  unfolding those
  those_at zero k h = absurd (not-suc-le-zero h)
  those_at (suc n) k h = go (t n) refl h (those_at n k)
    where
      wider : (x : ℕ) → (x < n) × (t x ≡ true) → (x < suc n) × (t x ≡ true)
      wider x p = (omega (arith, p.0), p.1)

      go : (b : Bool) → t n ≡ b → k < length (those n t ++ cond b (n ∷ []) [])
          → (k < length (those n t) → (get_or (those n t) k 0 < n) × (t (get_or (those n t) k 0) ≡ true))
          → (get_or (those n t ++ cond b (n ∷ []) []) k 0 < suc n) × (t (get_or (those n t ++ cond b (n ∷ []) []) k 0) ≡ true)
      go true e q r = last_or (λ x. (x < suc n) × (t x ≡ true)) (those n t) n k q (λ l. wider (get_or (those n t) k 0) (r l)) (omega arith, e)
      go false e q r = rw append-nil (wider (get_or (those n t) k 0) (r (rw append-nil at q)))

  -- they rise
  pub those-rise : (n a b : ℕ) → a < b → b < length (those n t) → get_or (those n t) a 0 < get_or (those n t) b 0
  unfolding those
  those-rise zero a b l h = absurd (not-suc-le-zero h)
  those-rise (suc n) a b l h = go (t n) h (λ k. those-rise n a b l k)
    where
      go : (c : Bool) → b < length (those n t ++ cond c (n ∷ []) []) → (b < length (those n t) → get_or (those n t) a 0 < get_or (those n t) b 0)
          → get_or (those n t ++ cond c (n ∷ []) []) a 0 < get_or (those n t ++ cond c (n ∷ []) []) b 0
      go true q r =
          let short : a < length (those n t) = omega (arith, length-append (those n t) (n ∷ [])) in
          rw (get_or-append (those n t) (n ∷ []) 0 a short)
          (last_or (λ y. get_or (those n t) a 0 < y) (those n t) n b q r (those_at n a short).0)
      go false q r = rw append-nil (r (rw append-nil at q))

  -- each that passes has a place
  pub those-place : (n x : ℕ) → x < n → t x ≡ true → (k : ℕ) × ((k < length (those n t)) × (get_or (those n t) k 0 ≡ x))
  unfolding those
  those-place zero x h e = absurd (not-suc-le-zero h)
  those-place (suc n) x h e = go (dec_lt x n) (λ l. those-place n x l e)
    where
      more : List ℕ
      more = cond (t n) (n ∷ []) []

      go : Dec (x < n) → (x < n → (k : ℕ) × ((k < length (those n t)) × (get_or (those n t) k 0 ≡ x)))
          → (k : ℕ) × ((k < length (those n t ++ more)) × (get_or (those n t ++ more) k 0 ≡ x))
      go (yes l) r =
          let p = r l in
          (p.0, (omega (arith, p.1.0, length-append (those n t) more), get_or-append (those n t) more 0 p.0 p.1.0 ∙ p.1.1))
      go (no l) r =
          let same_number : x ≡ n = omega arith in
          let here : t n ≡ true = ap t (sym same_number) ∙ e in
          (length (those n t), rw here (omega (arith, length-append (those n t) (n ∷ [])), last_at (those n t) n ∙ sym same_number))

-- ---- rules that refuse with 22 alone

-- a rule passes, or refuses with k
abbrev Refuses : ℕ → ℕ → Type 0
Refuses k r = (r ≡ 0) ⊎ (r ≡ suc k)

refuses-then : (k a b : ℕ) → Refuses k a → Refuses k b → Refuses k (a ▸ b)
unfolding ◌▸◌
refuses-then k a b (inl e) q = rw e q
refuses-then k a b (inr e) q = inr (rw e refl)

refuses-unless : (k : ℕ) (t : Bool) → Refuses k (unless t (suc k))
unfolding unless
refuses-unless k true = inl refl
refuses-unless k false = inr refl

first_some : (k n i : ℕ) (g : ℕ → ℕ) → ((j : ℕ) → Refuses k (g j)) → i < n → g i ≡ suc k → first_of n g ≡ suc k
unfolding first_of
first_some k zero i g all h e = absurd (not-suc-le-zero h)
first_some k (suc n) i g all h e = go (dec_lt i n) (λ l. first_some k n i g all l e)
  where
    any : (m : ℕ) → Refuses k (first_of m g)
    any zero = inl refl
    any (suc m) = refuses-then k (first_of m g) (g m) (any m) (all m)

    last : (r : ℕ) → Refuses k r → g n ≡ suc k → (r ▸ g n) ≡ suc k
    last r (inl z) q = unfold ◌▸◌ in rw (z, q) refl
    last r (inr z) q = unfold ◌▸◌ in rw z refl

    go : Dec (i < n) → (i < n → first_of n g ≡ suc k) → (first_of n g ▸ g n) ≡ suc k
    go (yes l) r = unfold ◌▸◌ in rw (r l) refl
    go (no l) r = last (first_of n g) (any n) (ap g (sym same_number) ∙ e)
      where
        same_number : i ≡ n
        same_number = omega arith

-- a test that fails somewhere
pub all_not : (n : ℕ) (g : ℕ → Bool) → all_of n g ≡ false → (i : ℕ) × ((i < n) × (g i ≡ false))
unfolding all_of
all_not zero g e = absurd (false≢true (sym e))
all_not (suc n) g e = go (all_of n g) refl (g n) refl e (all_not n g)
  where
    go : (a : Bool) → all_of n g ≡ a → (b : Bool) → g n ≡ b → (a && b) ≡ false → (all_of n g ≡ false → (i : ℕ) × ((i < n) × (g i ≡ false)))
        → (i : ℕ) × ((i < suc n) × (g i ≡ false))
    go false p b q h r = let x = r p in (x.0, (omega (arith, x.1.0), x.1.1))
    go true p false q h r = (n, (omega arith, q))
    go true p true q h r = absurd (false≢true (sym h))

-- ---- the paths of a draft

module _ (s : Sections) where
  each : (i : ℕ) → Refuses 21 (path_rule s i)
  unfolding path_rule
  each i = refuses-then 21 _ _ (refuses-unless 21 (placed s i)) (refuses-unless 21 (new_path s i))

  refused-placed : (i : ℕ) → placed s i ≡ false → path_rule s i ≡ 22
  unfolding path_rule unless ◌▸◌
  refused-placed i e = rw e refl

  refused-path : (i : ℕ) → new_path s i ≡ false → path_rule s i ≡ 22
  unfolding path_rule
  refused-path i e = go (placed s i)
    where
      go : (b : Bool) → (unless b 22 ▸ unless (new_path s i) 22) ≡ 22
      go true = unfold unless ◌▸◌ in rw e refl
      go false = unfold unless ◌▸◌ in refl

  -- a container without a name and a place
  pub unplaced : all_of (node_count s) (placed s) ≡ false → paths_rule s ≡ 22
  unfolding paths_rule
  unplaced e =
      let x = all_not (node_count s) (placed s) e in
      first_some 21 (node_count s) x.0 (path_rule s) each x.1.0 (refused-placed x.0 x.1.1)

  -- two containers with one path
  alike : (i j : ℕ) → i < j → j < node_count s → is_container s i ≡ true → is_container s j ≡ true → canonical_path s i ≡ canonical_path s j → paths_rule s ≡ 22
  unfolding paths_rule new_path
  alike i j l h p q e =
      let here : (not (is_container s i) || not (same (canonical_path s i) (canonical_path s j))) ≡ false =
      rw (p, e, same_self (canonical_path s j)) refl in
      let n : new_path s j ≡ false = rw (q, all_fails j (λ k. not (is_container s k) || not (same (canonical_path s k) (canonical_path s j))) i l here) refl in
      first_some 21 (node_count s) j (path_rule s) each h (refused-path j n)

  module _ (order : List ℕ) (r : Permutation (node_count s) order) where
    abbrev old : ℕ → ℕ
    old a = old_of order (get_or (containers s order) a 0)

    place_at : (a : ℕ) → a < length (containers s order) → (get_or (containers s order) a 0 < node_count s) × (is_container s (old a) ≡ true)
    place_at a h = those_at (λ j. is_container s (old_of order j)) (node_count s) a h

    -- two places of the list
    pub twice : (a b : ℕ) → a < b → b < length (containers s order)
        → path_of s order (get_or (containers s order) a 0) ≡ path_of s order (get_or (containers s order) b 0) → paths_rule s ≡ 22
    twice a b l h e = go (dec_lt (old a) (old b))
      where
        x : ℕ
        x = get_or (containers s order) a 0

        y : ℕ
        y = get_or (containers s order) b 0

        first : (x < node_count s) × (is_container s (old a) ≡ true)
        first = place_at a (omega arith)

        second : (y < node_count s) × (is_container s (old b) ≡ true)
        second = place_at b h

        rise : x < y
        rise = those-rise (λ j. is_container s (old_of order j)) (node_count s) a b l h

        unlike : old a ≡ old b → ⊥
        unlike q = omega (arith, rise, sym (r.new_old x first.0) ∙ ap (place_in order) q ∙ r.new_old y second.0)

        go : Dec (old a < old b) → paths_rule s ≡ 22
        go (yes k) = alike (old a) (old b) k (r.old_inside y second.0) first.1 second.1 e
        go (no k) = alike (old b) (old a) (omega (arith, unlike)) (r.old_inside x first.0) second.1 first.1 (sym e)

    -- every one is placed, and no two places have one path
    module _ (all : all_of (node_count s) (placed s) ≡ true)
        (unlike : (a b : ℕ) → a < b → b < length (containers s order)
        → path_of s order (get_or (containers s order) a 0) ≡ path_of s order (get_or (containers s order) b 0) → ⊥) where
      -- the place of a container in the list
      found : (i : ℕ) → i < node_count s → is_container s i ≡ true
          → (k : ℕ) × ((k < length (containers s order)) × (get_or (containers s order) k 0 ≡ place_in order i))
      found i h p =
          those-place (λ j. is_container s (old_of order j)) (node_count s) (place_in order i) (r.new_inside i h)
          (ap (λ (x : ℕ). is_container s x) (r.old_new i h) ∙ p)

      path_at : (i k : ℕ) → i < node_count s → get_or (containers s order) k 0 ≡ place_in order i → path_of s order (get_or (containers s order) k 0) ≡ canonical_path s i
      path_at i k h e = ap (λ (x : ℕ). canonical_path s (old_of order x)) e ∙ ap (canonical_path s) (r.old_new i h)

      differ : (i j : ℕ) → i < j → j < node_count s → is_container s i ≡ true → is_container s j ≡ true → canonical_path s i ≡ canonical_path s j → ⊥
      differ i j l h p q e = go (dec_lt a b)
        where
          below : i < node_count s
          below = omega arith

          a : ℕ
          a = (found i below p).0

          b : ℕ
          b = (found j h q).0

          alike-paths : path_of s order (get_or (containers s order) a 0) ≡ path_of s order (get_or (containers s order) b 0)
          alike-paths = path_at i a below (found i below p).1.1 ∙ e ∙ sym (path_at j b h (found j h q).1.1)

          apart : a ≡ b → ⊥
          apart z =
              let same_new : place_in order i ≡ place_in order j =
              sym (found i below p).1.1 ∙ ap (λ (k : ℕ). get_or (containers s order) k 0) z ∙ (found j h q).1.1 in
              omega (arith, sym (r.old_new i below) ∙ ap (old_of order) same_new ∙ r.old_new j h)

          go : Dec (a < b) → ⊥
          go (yes k) = unlike a b k (found j h q).1.0 alike-paths
          go (no k) = unlike b a (omega (arith, apart)) (found i below p).1.0 (sym alike-paths)

      fresh : (i : ℕ) → i < node_count s → new_path s i ≡ true
      unfolding new_path
      fresh i h = go (is_container s i) refl
        where
          earlier : is_container s i ≡ true → (j : ℕ) → j < i → (b : Bool) → is_container s j ≡ b → (not b || not (same (canonical_path s j) (canonical_path s i))) ≡ true
          earlier p j l true q = rw (unlike-same (canonical_path s j) (canonical_path s i) (differ j i l h q p)) refl
          earlier p j l false q = refl

          go : (b : Bool) → is_container s i ≡ b → (not b || all_of i (λ j. not (is_container s j) || not (same (canonical_path s j) (canonical_path s i)))) ≡ true
          go true p = all_of_lem i _ (λ j l. earlier p j l (is_container s j) refl)
          go false p = refl

      pub once : paths_rule s ≡ 0
      unfolding paths_rule path_rule
      once = first_of_lem (node_count s) (path_rule s) (λ i h. then _ _ (pass _ 22 (all_at (node_count s) (placed s) all i h)) (pass _ 22 (fresh i h)))
