-- Words written one run behind the other: what a call and a loop of such calls keep.
use Prim.Native.Nat.{ℕ, ◌+◌, ◌-◌, ◌≤◌, ◌<◌}
use mathlib.Core.Path.{◌≡◌, refl, sym, ap, ◌∙◌}
use mathlib.Core.List.{List, [], ◌∷◌, ◌++◌, append-nil}
use mathlib.Core.Bool.{Bool, true, false}
use native.Mathlib.Omega.{arith}
use native.Mathlib.Numerals.{add-one}
use lib.ListN.{length, get_or, set, take, drop, length-append, take-append-drop}
use lib.Seq.{sets-eq, get_or-append-add, get_or-take, get_or-drop, length-take-le, drop-append-add, drop-drop}
use Rattle.laws.specs.Counted.{join_of}
use Rattle.words.proofs.FilledOutput.{Filled, start, more, more-joined}
use Rattle.words.proofs.EntryLoop.{join_within}
use Rattle.image.specs.Sections.{absent}
use Rattle.draft.specs.Numbering.{old_of}
use Rattle.write_text_uses.specs.Uses.{Room, Put, use_if, words_from}

-- ---- one run

pub put_none : (w : List ℕ) (at : ℕ) → Put [] w at w at
put_none w at =
    let z : at + 0 ≡ at = omega arith in
    record { end = omega arith; is = sym (rw (append-nil, z) (take-append-drop at w)) }

-- two words
pub put_two : (w : List ℕ) (at x y : ℕ) → Room (x ∷ y ∷ []) w at → Put (x ∷ y ∷ []) w at (set (set w at x) (at + 1) y) (at + 2)
put_two w at x y h = record { end = refl; is = rw add-one (sets-eq (x ∷ y ∷ []) w at h.fits) }

pub put_filled : (ws w₀ : List ℕ) (at : ℕ) (w : List ℕ) (r : ℕ) → at + length ws ≤ length w₀ → Put ws w₀ at w r → Filled at ws w₀ w
put_filled ws w₀ at w r h p = more at [] w₀ w₀ (start at w₀ (omega arith)) ws at (at + length ws) w (omega arith) refl h p.is

pub filled_put : (ws w₀ : List ℕ) (at : ℕ) (w : List ℕ) (r : ℕ) → Filled at ws w₀ w → r ≡ at + length ws → Put ws w₀ at w r
filled_put ws w₀ at w r f e = record { end = e; is = f.is }

-- a run behind another
pub put_both : (xs ys w₀ : List ℕ) (at : ℕ) (w₁ : List ℕ) (k : ℕ) (w₂ : List ℕ) (r : ℕ) → at + length (xs ++ ys) ≤ length w₀
    → Put xs w₀ at w₁ k → Put ys w₁ k w₂ r → Put (xs ++ ys) w₀ at w₂ r
put_both xs ys w₀ at w₁ k w₂ r h p q =
    let both = length-append xs ys in
    let f = put_filled xs w₀ at w₁ k (omega arith) p in
    filled_put (xs ++ ys) w₀ at w₂ r
    (more at xs w₀ w₁ f ys k (k + length ys) w₂ p.end refl (omega (arith, p.end)) q.is) (omega (arith, p.end, q.end))

-- words keep their number
pub put_long : (ws w₀ : List ℕ) (at : ℕ) (w : List ℕ) (r : ℕ) → at + length ws ≤ length w₀ → Put ws w₀ at w r → length w ≡ length w₀
put_long ws w₀ at w r h p = (put_filled ws w₀ at w r h p).long

-- and those behind stay
pub filled-behind : (at : ℕ) (ws w₀ w : List ℕ) → Filled at ws w₀ w → (k : ℕ) → at + length ws ≤ k → get_or w k 0 ≡ get_or w₀ k 0
filled-behind at ws w₀ w f k h =
    let head = take at w₀ ++ ws in
    let size : length head ≡ at + length ws = omega (arith, length-append (take at w₀) ws, length-take-le at w₀ (omega (arith, f.room))) in
    let m : ℕ = k - (at + length ws) in
    let e : k ≡ length head + m = omega arith in
    let d : at + length ws + m ≡ k = omega arith in
    ap (λ (l : List ℕ). get_or l k 0) f.is
    ∙ ap (λ (x : ℕ). get_or (head ++ drop (at + length ws) w₀) x 0) e
    ∙ get_or-append-add head (drop (at + length ws) w₀) m 0
    ∙ get_or-drop (at + length ws) w₀ m 0
    ∙ ap (λ (x : ℕ). get_or w₀ x 0) d

-- ---- a loop of runs

-- j of n runs are written, and the next one goes to k
pub record RunsSoFar (n : ℕ) (g : ℕ → List ℕ) (w₀ : List ℕ) (at : ℕ) (w : List ℕ) (k j : ℕ) : Type 0 where
  pub within : j ≤ n
  pub room : at + length (join_of n g) ≤ length w₀
  pub end : k ≡ at + length (join_of j g)
  pub long : length w ≡ length w₀
  pub filled : Filled at (join_of j g) w₀ w

module _ (n : ℕ) (g : ℕ → List ℕ) (w₀ : List ℕ) (at : ℕ) where
  pub going_start : Room (join_of n g) w₀ at → RunsSoFar n g w₀ at w₀ at 0
  unfolding join_of
  going_start h = record { within = omega arith; room = h.fits; end = omega arith; long = refl; filled = start at w₀ (omega (arith, h.fits)) }

  module _ (w : List ℕ) (k j : ℕ) (p : RunsSoFar n g w₀ at w k j) where
    pub going-room : j < n → Room (g j) w k
    going-room h = record { fits = omega (arith, p.room, p.end, p.long, join_within n j g h) }

    -- the next run is these words
    pub going-words : (next : List ℕ) → j < n → next ≡ g j → Room next w k
    going-words next h e = rw e (going-room h)

    pub going-behind : (m : ℕ) → at + length (join_of n g) ≤ m → j < n → get_or w m 0 ≡ get_or w₀ m 0
    going-behind m h q = filled-behind at (join_of j g) w₀ w p.filled m (omega (arith, join_within n j g q))

    pub going_next : (next w' : List ℕ) (k' : ℕ) → j < n → next ≡ g j → Put next w k w' k' → RunsSoFar n g w₀ at w' k' (j + 1)
    unfolding join_of
    going_next next w' k' h e q =
        let both = length-append (join_of j g) (g j) in
        let size : length next ≡ length (g j) = ap length e in
        let last : at + length (join_of j g ++ g j) ≡ k' = omega (arith, p.end, q.end) in
        let f : Filled at (join_of (j + 1) g) w₀ w' =
        more-joined at j g w₀ w p.filled next k (k + length next) w' e p.end refl (omega (arith, p.room, p.end, join_within n j g h)) q.is in
        record { within = omega arith; room = p.room; end = rw add-one (sym last); long = f.long; filled = f }

    pub going_end : n ≤ j → Put (join_of n g) w₀ at w k
    going_end h =
        let e : j ≡ n = omega (arith, p.within) in
        filled_put (join_of n g) w₀ at w k (rw e at p.filled) (rw e at p.end)

-- ---- two runs

-- words are a run and the one behind it
pub record Split (whole xs ys : List ℕ) : Type 0 where
  pub is : whole ≡ xs ++ ys

pub both_are : (xs ys : List ℕ) → Split (xs ++ ys) xs ys
both_are xs ys = record { is = refl }

module _ (whole xs ys w₀ : List ℕ) (at : ℕ) (e : Split whole xs ys) (room : Room whole w₀ at) where
  size : length whole ≡ length xs + length ys
  size = ap length e.is ∙ length-append xs ys

  pub first-room : Room xs w₀ at
  first-room = record { fits = omega (arith, size, room.fits) }

  module _ (w₁ : List ℕ) (k : ℕ) (p : Put xs w₀ at w₁ k) where
    pub second-room : Room ys w₁ k
    second-room = record { fits = omega (arith, size, room.fits, p.end, put_long xs w₀ at w₁ k first-room.fits p) }

    pub two_put : (w₂ : List ℕ) (r : ℕ) → Put ys w₁ k w₂ r → Put whole w₀ at w₂ r
    two_put w₂ r q = rw e.is (put_both xs ys w₀ at w₁ k w₂ r (omega (arith, length-append xs ys, size, room.fits)) p q)

-- words that are the same
pub put_same : (xs ys w₀ : List ℕ) (at : ℕ) (w : List ℕ) (r : ℕ) → ys ≡ xs → Put xs w₀ at w r → Put ys w₀ at w r
put_same xs ys w₀ at w r e p = rw e p

pub room-same : (xs ys w : List ℕ) (at : ℕ) → ys ≡ xs → Room ys w at → Room xs w at
room-same xs ys w at e h = rw (sym e) h

-- ---- numbers of nodes behind the words that are written

module _ (w₀ : List ℕ) (order n : ℕ) (room : order + n ≤ length w₀) where
  old_is : (j : ℕ) → j < n → get_or w₀ (order + j) 0 ≡ old_of (words_from w₀ order n) j
  old_is j h = sym (get_or-take n (drop order w₀) j 0 h ∙ get_or-drop order w₀ j 0)

  -- words written below them leave them
  pub order-kept : (ws : List ℕ) (at : ℕ) (w : List ℕ) (r : ℕ) → at + length ws ≤ order → Put ws w₀ at w r → words_from w order n ≡ words_from w₀ order n
  order-kept ws at w r h p =
      let front = take at w₀ ++ ws in
      let size : length front ≡ at + length ws = omega (arith, length-append (take at w₀) ws, length-take-le at w₀ (omega arith)) in
      let m : ℕ = order - (at + length ws) in
      let e : order ≡ length front + m = omega arith in
      let d : at + length ws + m ≡ order = omega arith in
      ap (take n)
      (ap (drop order) p.is ∙ ap (λ (x : ℕ). drop x (front ++ drop (at + length ws) w₀)) e ∙ drop-append-add front (drop (at + length ws) w₀) m
      ∙ drop-drop m (at + length ws) w₀ ∙ ap (λ (x : ℕ). drop x w₀) d)

-- j of the runs of n nodes are written, below the nodes' numbers, which lie from `order` on
pub record RunsPut (n : ℕ) (g : ℕ → List ℕ) (w₀ : List ℕ) (order at : ℕ) (w : List ℕ) (k j : ℕ) : Type 0 where
  pub numbers : order + n ≤ length w₀
  pub below : at + length (join_of n (λ m. g (old_of (words_from w₀ order n) m))) ≤ order
  pub long : length w ≡ length w₀
  pub going : RunsSoFar n (λ m. g (old_of (words_from w₀ order n) m)) w₀ at w k j

module _ (n : ℕ) (g : ℕ → List ℕ) (w₀ : List ℕ) (order at : ℕ) where
  abbrev runs : ℕ → List ℕ
  runs m = g (old_of (words_from w₀ order n) m)

  pub ordered-start : order + n ≤ length w₀ → at + length (join_of n (λ m. g (old_of (words_from w₀ order n) m))) ≤ order → RunsPut n g w₀ order at w₀ at 0
  ordered-start h q =
      record { numbers = h; below = q; long = refl; going = going_start n runs w₀ at (record { fits = omega arith }) }

  module _ (w : List ℕ) (k j : ℕ) (p : RunsPut n g w₀ order at w k j) (h : j < n) where
    -- the number that is read
    pub old_read : get_or w (order + j) 0 ≡ old_of (words_from w₀ order n) j
    old_read =
        going-behind n runs w₀ at w k j p.going (order + j) (omega (arith, p.below)) h ∙ old_is w₀ order n p.numbers j h

    pub ordered-room : Room (g (get_or w (order + j) 0)) w k
    ordered-room = rw old_read (going-room n runs w₀ at w k j p.going h)

    pub ordered-next : (w' : List ℕ) (k' : ℕ) → Put (g (get_or w (order + j) 0)) w k w' k' → RunsPut n g w₀ order at w' k' (j + 1)
    ordered-next w' k' q =
        let next = going_next n runs w₀ at w k j p.going (g (get_or w (order + j) 0)) w' k' h (ap g old_read) q in
        record { numbers = p.numbers; below = p.below; long = next.long; going = next }

-- ---- a text that may be absent

module _ (a b : ℕ) (t : Bool) (e : t ≡ absent a b) where
  pub if_none : t ≡ true → use_if a b ≡ []
  unfolding use_if
  if_none h = rw (← e, h) refl

  pub if_some : t ≡ false → use_if a b ≡ a ∷ b ∷ []
  unfolding use_if
  if_some h = rw (← e, h) refl
