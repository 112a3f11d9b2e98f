-- Laws of the halving search: its turns, its bounds, and the plain reading on texts that rise.
use Rattle.std.specs.Prelude.{None, Option, Some}
use Prim.Native.Nat.{ℕ, zero, suc, ◌+◌, ◌-◌, ◌/◌, ◌≤◌, ◌<◌}
use mathlib.Core.Path.{◌≡◌, refl, sym, ap, ◌∙◌, subst}
use mathlib.Core.List.{List}
use mathlib.Core.Bool.{true}
use native.Mathlib.Omega.{arith}
use native.Mathlib.Decide.{dec_lt}
use borrow.Author.Tests.{lt-ltb, le-ltb}
use Rattle.std.specs.declared.cmp.Ordering.{Ordering}
use Rattle.std.specs.declared.cmp.Ordering.TheVariants.{Less, Equal, Greater}
use Rattle.texts.specs.Text.{order_of, before}
use Rattle.texts.proofs.Text.{order-self, order-equal, before-less, before_greater}
use Rattle.lookups.specs.Lookup.{towards, halving}

module _ (t : ℕ → List ℕ) (name : List ℕ) where
  abbrev middle_of : ℕ → ℕ → ℕ
  middle_of lo hi = lo + (hi - lo) / 2

  -- a turn, where there is one
  turn : (n lo hi : ℕ) → lo < hi
      → halving t name (suc n) lo hi
      ≡ towards t name (order_of (t (middle_of lo hi)) name) (middle_of lo hi) (halving t name n (middle_of lo hi + 1) hi) (halving t name n lo (middle_of lo hi))
  unfolding halving
  turn n lo hi h = rw (lt-ltb lo hi h)

  over : (n lo hi : ℕ) → hi ≤ lo → halving t name n lo hi ≡ None
  unfolding halving
  over zero lo hi h = refl
  over (suc n) lo hi h = rw (le-ltb lo hi h)

  more : (n m lo hi : ℕ) → ((a b : ℕ) → b ≤ a + n → b ≤ a + m → halving t name n a b ≡ halving t name m a b)
      → hi ≤ lo + suc n → hi ≤ lo + suc m → Dec (lo < hi) → halving t name (suc n) lo hi ≡ halving t name (suc m) lo hi
  more n m lo hi same h k (no l) = over (suc n) lo hi (omega arith) ∙ sym (over (suc m) lo hi (omega arith))
  more n m lo hi same h k (yes l) =
      turn n lo hi l
      ∙ ap (λ (x : Option ℕ). towards t name (order_of (t (middle_of lo hi)) name) (middle_of lo hi) x (halving t name n lo (middle_of lo hi)))
      (same (middle_of lo hi + 1) hi (omega arith) (omega arith))
      ∙ ap (λ (x : Option ℕ). towards t name (order_of (t (middle_of lo hi)) name) (middle_of lo hi) (halving t name m (middle_of lo hi + 1) hi) x)
      (same lo (middle_of lo hi) (omega arith) (omega arith))
      ∙ sym (turn m lo hi l)

  -- any number of turns does that is enough
  pub enough : (n m lo hi : ℕ) → hi ≤ lo + n → hi ≤ lo + m → halving t name n lo hi ≡ halving t name m lo hi
  enough zero m lo hi h k = over zero lo hi (omega arith) ∙ sym (over m lo hi (omega arith))
  enough (suc n) zero lo hi h k = over (suc n) lo hi (omega arith) ∙ sym (over zero lo hi (omega arith))
  enough (suc n) (suc m) lo hi h k = more n m lo hi (λ a b. enough n m a b) h k (dec_lt lo hi)

  -- ---- a loop whose range is lo to hi

  abbrev pub Searching : ℕ → ℕ → ℕ → Type 0
  Searching count lo hi = halving t name count 0 count ≡ halving t name (hi - lo) lo hi

  pub search_start : (count : ℕ) → Searching count 0 count
  search_start count = enough count (count - 0) 0 count (omega arith) (omega arith)

  step : (count lo hi : ℕ) → lo < hi → Searching count lo hi
      → halving t name count 0 count
      ≡ towards t name (order_of (t (middle_of lo hi)) name) (middle_of lo hi) (halving t name (hi - lo) (middle_of lo hi + 1) hi) (halving t name (hi - lo) lo (middle_of lo hi))
  step count lo hi h e = e ∙ enough (hi - lo) (suc (hi - lo)) lo hi (omega arith) (omega arith) ∙ turn (hi - lo) lo hi h

  module _ (count lo hi m : ℕ) (at : m ≡ middle_of lo hi) (h : lo < hi) (e : Searching count lo hi) where
    pub search_above : order_of (t m) name ≡ Less → Searching count (m + 1) hi
    search_above o =
        rw at
        (step count lo hi h e ∙ rw (← at, o) (rw at (enough (hi - lo) (hi - (middle_of lo hi + 1)) (middle_of lo hi + 1) hi (omega arith) (omega arith))))

    pub search_below : order_of (t m) name ≡ Greater → Searching count lo m
    search_below o =
        rw at
        (step count lo hi h e ∙ rw (← at, o) (rw at (enough (hi - lo) (middle_of lo hi - lo) lo (middle_of lo hi) (omega arith) (omega arith))))

    pub search_here : order_of (t m) name ≡ Equal → halving t name count 0 count ≡ Some m
    search_here o = step count lo hi h e ∙ rw (← at, o)

  pub search_end : (count lo hi : ℕ) → hi ≤ lo → Searching count lo hi → halving t name count 0 count ≡ None
  search_end count lo hi h e = e ∙ over (hi - lo) lo hi h

  -- ---- what is found is there

  pub record There (lo hi j : ℕ) : Type 0 where
    pub from : lo ≤ j
    pub below : j < hi
    pub same : t j ≡ name

  some_same : (i j : ℕ) → ◌≡◌ {A = Option ℕ} (Some i) (Some j) → i ≡ j
  some_same i j e = cc

  none-some : (j : ℕ) → ◌≡◌ {A = Option ℕ} None (Some j) → ⊥
  none-some j e = let z : ◌≡◌ {A = ℕ} 0 1 = cc in omega arith

  there_by : (n lo hi j : ℕ) → lo < hi → ((a b : ℕ) → halving t name n a b ≡ Some j → There a b j)
      → (o : Ordering) → order_of (t (middle_of lo hi)) name ≡ o
      → towards t name o (middle_of lo hi) (halving t name n (middle_of lo hi + 1) hi) (halving t name n lo (middle_of lo hi)) ≡ Some j → There lo hi j
  there_by n lo hi j l next Less q e =
      let r = next (middle_of lo hi + 1) hi e in
      record { from = omega arith; below = r.below; same = r.same }
  there_by n lo hi j l next Equal q e =
      let z = some_same (middle_of lo hi) j e in
      record { from = omega arith; below = omega arith; same = subst (λ (x : ℕ). t x ≡ name) z (order-equal (t (middle_of lo hi)) name q) }
  there_by n lo hi j l next Greater q e =
      let r = next lo (middle_of lo hi) e in
      record { from = r.from; below = omega arith; same = r.same }

  there_in : (n lo hi j : ℕ) → ((a b : ℕ) → halving t name n a b ≡ Some j → There a b j) → Dec (lo < hi) → halving t name (suc n) lo hi ≡ Some j → There lo hi j
  there_in n lo hi j next (yes l) e = there_by n lo hi j l next (order_of (t (middle_of lo hi)) name) refl (sym (turn n lo hi l) ∙ e)
  there_in n lo hi j next (no l) e = absurd (none-some j (sym (over (suc n) lo hi (omega arith)) ∙ e))

  pub found-there : (n lo hi j : ℕ) → halving t name n lo hi ≡ Some j → There lo hi j
  found-there zero lo hi j e = absurd (none-some j (unfold halving in e))
  found-there (suc n) lo hi j e = there_in n lo hi j (λ a b. found-there n a b j) (dec_lt lo hi) e

  -- ---- what is there is found, where the texts rise

  pub record Rising (lo hi : ℕ) : Type 0 where
    pub rises : (i j : ℕ) → lo ≤ i → i < j → j < hi → before (t i) (t j) ≡ true

  module _ (lo hi j : ℕ) (up : Rising lo hi) (th : There lo hi j) (m : ℕ) (a : lo ≤ m) (b : m < hi) where
    -- on which side of the middle it lies
    lies-below : j < m → order_of (t m) name ≡ Greater
    lies-below l = rw (sym th.same) (before_greater (t m) (t j) (up.rises j m th.from l b))

    lies-above : m < j → order_of (t m) name ≡ Less
    lies-above l = rw (sym th.same) (before-less (t m) (t j) (up.rises m j a l th.below))

    lies-here : m ≡ j → order_of (t m) name ≡ Equal
    lies-here e = rw (e, th.same) (order-self name)

  lies : (n lo hi j : ℕ) → lo < hi → hi ≤ lo + suc n → Rising lo hi → There lo hi j
      → ((a b : ℕ) → b ≤ a + n → Rising a b → There a b j → halving t name n a b ≡ Some j)
      → Dec (j < middle_of lo hi) → Dec (middle_of lo hi < j) → halving t name (suc n) lo hi ≡ Some j
  lies n lo hi j l h up th next (yes p) q =
      turn n lo hi l
      ∙ rw (lies-below lo hi j up th (middle_of lo hi) (omega arith) (omega arith) p)
      (next lo (middle_of lo hi) (omega arith) (record { rises = λ x y u v w. up.rises x y u v (omega arith) })
      (record { from = th.from; below = p; same = th.same }))
  lies n lo hi j l h up th next (no p) (yes q) =
      turn n lo hi l
      ∙ rw (lies-above lo hi j up th (middle_of lo hi) (omega arith) (omega arith) q)
      (next (middle_of lo hi + 1) hi (omega arith) (record { rises = λ x y u v w. up.rises x y (omega arith) v w })
      (record { from = omega arith; below = th.below; same = th.same }))
  lies n lo hi j l h up th next (no p) (no q) =
      let e : middle_of lo hi ≡ j = omega arith in
      turn n lo hi l ∙ rw (lies-here lo hi j up th (middle_of lo hi) (omega arith) (omega arith) e) (ap Some e)

  pub there-found : (n lo hi j : ℕ) → hi ≤ lo + n → Rising lo hi → There lo hi j → halving t name n lo hi ≡ Some j
  there-found zero lo hi j h up th = absurd (omega arith)
  there-found (suc n) lo hi j h up th =
      lies n lo hi j (omega arith) h up th (λ a b. there-found n a b j) (dec_lt j (middle_of lo hi)) (dec_lt (middle_of lo hi) j)
