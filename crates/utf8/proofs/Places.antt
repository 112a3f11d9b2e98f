-- UTF-8 by places is UTF-8: every byte is right after the three before it, and the last sequence is whole.
use Prim.Native.Nat.{ℕ, zero, suc, ◌≤◌, ◌<◌, ◌/◌}
use mathlib.Core.Path.{◌≡◌, refl, sym, ap, ◌∙◌}
use mathlib.Core.List.{List, [], ◌∷◌}
use mathlib.Core.Bool.{Bool, true, false, not, cond, ◌&&◌, ◌||◌, or-true}
use native.Mathlib.Omega.{arith}
use native.Mathlib.Decide.{dec_lt}
use borrow.Author.Tests.{lt-ltb, le-ltb, le-leb, lt-leb, eq-eqb, ne_eqb}
use lib.Dec.{eqb}
use lib.ListN.{length, drop, get_or}
use Rattle.utf8.specs.Runs.{is_run}
use Rattle.utf8.specs.Utf8.{Range, ◌··◌, within, rows, fits_row, size_in, utf8}
use Rattle.utf8.specs.Places.{differ, due, continues, never, too_low, too_high, wrong}
use Rattle.utf8.proofs.Runs.{run_nil, run_cons, run_none}
use Rattle.utf8.proofs.Table.{table, inside, under, over, bounds, fits-length, at_row, no_row, apart, without}

-- ---- a byte after three

-- no sequence is open after the three
pub record Whole (p3 p2 p1 : ℕ) : Type 0 where
  pub near : p1 < 0xc0
  pub mid : p2 < 0xe0
  pub far : p3 < 0xf0

whole_due : {p3 p2 p1 : ℕ} → Whole p3 p2 p1 → due p3 p2 p1 ≡ false
unfolding due
whole_due {p3} {p2} {p1} w = rw (lt-leb 0xc0 p1 w.near, lt-leb 0xe0 p2 w.mid, lt-leb 0xf0 p3 w.far)

due_near : (p3 p2 p1 : ℕ) → 0xc0 ≤ p1 → due p3 p2 p1 ≡ true
unfolding due
due_near p3 p2 p1 h = rw (le-leb 0xc0 p1 h)

due_mid : (p3 p2 p1 : ℕ) → p1 < 0xc0 → 0xe0 ≤ p2 → due p3 p2 p1 ≡ true
unfolding due
due_mid p3 p2 p1 l h = rw (lt-leb 0xc0 p1 l, le-leb 0xe0 p2 h)

due_far : (p3 p2 p1 : ℕ) → p1 < 0xc0 → p2 < 0xe0 → 0xf0 ≤ p3 → due p3 p2 p1 ≡ true
unfolding due
due_far p3 p2 p1 l k h = rw (lt-leb 0xc0 p1 l, lt-leb 0xe0 p2 k, le-leb 0xf0 p3 h)

on_yes : (b : ℕ) → 0x80 ≤ b → b < 0xc0 → continues b ≡ true
unfolding continues
on_yes b h l = eq-eqb (b / 64) 2 (omega arith)

on_under : (b : ℕ) → b < 0x80 → continues b ≡ false
unfolding continues
on_under b h = ne_eqb (b / 64) 2 (λ e. omega arith)

on_over : (b : ℕ) → 0xc0 ≤ b → continues b ≡ false
unfolding continues
on_over b h = ne_eqb (b / 64) 2 (λ e. omega arith)

never-under : (b : ℕ) → b < 0xc0 → never b ≡ false
unfolding never
never-under b h = rw (ne_eqb (b / 2) 96 (λ e. omega arith), lt-leb 0xf5 b (omega arith))

never_lead : (b : ℕ) → 0xc2 ≤ b → b < 0xf5 → never b ≡ false
unfolding never
never_lead b h l = rw (ne_eqb (b / 2) 96 (λ e. omega arith), lt-leb 0xf5 b (omega arith))

never_low : (b : ℕ) → 0xc0 ≤ b → b < 0xc2 → never b ≡ true
unfolding never
never_low b h l = rw (eq-eqb (b / 2) 96 (omega arith))

never-over : (b : ℕ) → 0xf5 ≤ b → never b ≡ true
unfolding never
never-over b h = rw (le-leb 0xf5 b h) (or-true (eqb (b / 2) 96))

not-not : (a : Bool) → not (not a) ≡ a
not-not true = refl
not-not false = refl

-- a second byte after a first with no range of its own
pub low_none : (p b : ℕ) → (p ≡ 0xe0 → ⊥) → (p ≡ 0xf0 → ⊥) → too_low p b ≡ false
unfolding too_low
low_none p b h k = rw (ne_eqb p 0xe0 h, ne_eqb p 0xf0 k)

pub high-none : (p b : ℕ) → (p ≡ 0xed → ⊥) → (p ≡ 0xf4 → ⊥) → too_high p b ≡ false
unfolding too_high
high-none p b h k = rw (ne_eqb p 0xed h, ne_eqb p 0xf4 k)

-- ---- where no sequence is open

module _ {p3 p2 p1 : ℕ} (w : Whole p3 p2 p1) (b : ℕ) where
  pub right-ascii : b < 0x80 → wrong p3 p2 p1 b ≡ false
  unfolding wrong differ
  right-ascii h =
      rw (whole_due w, on_under b h, never-under b (omega arith), low_none p1 b (λ e. omega arith) (λ e. omega arith), high-none p1 b (λ e. omega arith) (λ e. omega arith))

  right_lead : 0xc2 ≤ b → b < 0xf5 → wrong p3 p2 p1 b ≡ false
  unfolding wrong differ
  right_lead h l =
      rw (whole_due w, on_over b (omega arith), never_lead b h l, low_none p1 b (λ e. omega arith) (λ e. omega arith), high-none p1 b (λ e. omega arith) (λ e. omega arith))

  wrong_on : 0x80 ≤ b → b < 0xc0 → wrong p3 p2 p1 b ≡ true
  unfolding wrong differ
  wrong_on h l = rw (whole_due w, on_yes b h l)

  wrong-never : never b ≡ true → wrong p3 p2 p1 b ≡ true
  unfolding wrong
  wrong-never e = rw (e, or-true (differ (continues b) (due p3 p2 p1)))

-- ---- where one is

module _ (p3 p2 p1 b : ℕ) (d : due p3 p2 p1 ≡ true) where
  wrong-under : b < 0x80 → wrong p3 p2 p1 b ≡ true
  unfolding wrong differ
  wrong-under h = rw (d, on_under b h)

  wrong-over : 0xc0 ≤ b → wrong p3 p2 p1 b ≡ true
  unfolding wrong differ
  wrong-over h = rw (d, on_over b h)

  due_wrong : 0x80 ≤ b → b < 0xc0 → wrong p3 p2 p1 b ≡ (too_low p1 b || too_high p1 b)
  unfolding wrong differ
  due_wrong h l = rw (d, on_yes b h l, never-under b l)

  -- the range of the byte after p1, by the tests of the second byte
  by_range :
      (r : Range) → 0x80 ≤ r.low → r.high < 0xc0 → (0x80 ≤ b → b < 0xc0 → (too_low p1 b || too_high p1 b) ≡ not (within r b)) →
      not (wrong p3 p2 p1 b) ≡ within r b
  by_range r h l e =
      elim (dec_lt b 0x80) [
        | yes u ↦ rw (wrong-under u) (sym (under r b (omega arith)))
        | no u ↦
            elim (dec_lt b 0xc0) [
              | no o ↦ rw (wrong-over (omega arith)) (sym (over r b (omega arith)))
              | yes o ↦ ap not (due_wrong (omega arith) o ∙ e (omega arith) o) ∙ not-not (within r b)
            ]
      ]

  after-plain : (p1 ≡ 0xe0 → ⊥) → (p1 ≡ 0xed → ⊥) → (p1 ≡ 0xf0 → ⊥) → (p1 ≡ 0xf4 → ⊥) → not (wrong p3 p2 p1 b) ≡ within (0x80 ·· 0xbf) b
  after-plain e0 ed f0 f4 =
      by_range (0x80 ·· 0xbf) (omega arith) (omega arith)
      (λ h l. rw (low_none p1 b e0 f0, high-none p1 b ed f4) (sym (ap not (inside (0x80 ·· 0xbf) b h (omega arith)))))

  after_e0 : p1 ≡ 0xe0 → not (wrong p3 p2 p1 b) ≡ within (0xa0 ·· 0xbf) b
  unfolding too_low too_high
  after_e0 e =
      by_range (0xa0 ·· 0xbf) (omega arith) (omega arith)
      (λ h l. elim (dec_lt b 0xa0) [
        | yes u ↦ rw (e, lt-ltb b 0xa0 u) (sym (ap not (under (0xa0 ·· 0xbf) b u)))
        | no u ↦ rw (e, le-ltb b 0xa0 (omega arith)) (sym (ap not (inside (0xa0 ·· 0xbf) b (omega arith) (omega arith))))
      ])

  after_ed : p1 ≡ 0xed → not (wrong p3 p2 p1 b) ≡ within (0x80 ·· 0x9f) b
  unfolding too_low too_high
  after_ed e =
      by_range (0x80 ·· 0x9f) (omega arith) (omega arith)
      (λ h l. elim (dec_lt b 0xa0) [
        | yes u ↦ rw (e, lt-leb 0xa0 b u) (sym (ap not (inside (0x80 ·· 0x9f) b (omega arith) (omega arith))))
        | no u ↦ rw (e, le-leb 0xa0 b (omega arith)) (sym (ap not (over (0x80 ·· 0x9f) b (omega arith))))
      ])

  after_f0 : p1 ≡ 0xf0 → not (wrong p3 p2 p1 b) ≡ within (0x90 ·· 0xbf) b
  unfolding too_low too_high
  after_f0 e =
      by_range (0x90 ·· 0xbf) (omega arith) (omega arith)
      (λ h l. elim (dec_lt b 0x90) [
        | yes u ↦ rw (e, lt-ltb b 0x90 u) (sym (ap not (under (0x90 ·· 0xbf) b u)))
        | no u ↦ rw (e, le-ltb b 0x90 (omega arith)) (sym (ap not (inside (0x90 ·· 0xbf) b (omega arith) (omega arith))))
      ])

  after_f4 : p1 ≡ 0xf4 → not (wrong p3 p2 p1 b) ≡ within (0x80 ·· 0x8f) b
  unfolding too_low too_high
  after_f4 e =
      by_range (0x80 ·· 0x8f) (omega arith) (omega arith)
      (λ h l. elim (dec_lt b 0x90) [
        | yes u ↦ rw (e, lt-leb 0x90 b u) (sym (ap not (inside (0x80 ·· 0x8f) b (omega arith) (omega arith))))
        | no u ↦ rw (e, le-leb 0x90 b (omega arith)) (sym (ap not (over (0x80 ·· 0x8f) b (omega arith))))
      ])

-- ---- the bytes that a first byte asks for

-- after the three, bytes of the ranges complete the sequence, and nothing else is right
unfoldable Owes : List Range → ℕ → ℕ → ℕ → Type 0
Owes [] p3 p2 p1 = Whole p3 p2 p1
Owes (r ∷ rs) p3 p2 p1 = (due p3 p2 p1 ≡ true) × ((b : ℕ) → (not (wrong p3 p2 p1 b) ≡ within r b) × (within r b ≡ true → Owes rs p2 p1 b))

abbrev on : Range
on = 0x80 ·· 0xbf

module _ (p3 p2 p1 : ℕ) where
  -- the last byte
  owes_one : due p3 p2 p1 ≡ true → p1 < 0xe0 → p2 < 0xf0 → Owes (on ∷ []) p3 p2 p1
  unfolding Owes
  owes_one d h k = (d, λ b. (after-plain p3 p2 p1 b d (λ e. omega arith) (λ e. omega arith) (λ e. omega arith) (λ e. omega arith), λ w. let v = bounds on b w in record { near = omega arith; mid = h; far = k }))

module _ (p2 p1 : ℕ) (r : Range) (low : 0x80 ≤ r.low) (high : r.high < 0xc0) where
  -- the second byte of three
  owes_two : (p3 : ℕ) → 0xe0 ≤ p1 → p1 < 0xf0 → ((b : ℕ) → not (wrong p3 p2 p1 b) ≡ within r b) → Owes (r ∷ on ∷ []) p3 p2 p1
  unfolding Owes
  owes_two p3 h k e =
      (due_near p3 p2 p1 (omega arith), λ b. (e b, λ w. let v = bounds r b w in owes_one p2 p1 b (due_mid p2 p1 b (omega arith) h) (omega arith) k))

  -- the second byte of four
  owes_three : (p3 : ℕ) → 0xf0 ≤ p1 → ((b : ℕ) → not (wrong p3 p2 p1 b) ≡ within r b) → Owes (r ∷ on ∷ on ∷ []) p3 p2 p1
  unfolding Owes
  owes_three p3 h e = (
    due_near p3 p2 p1 (omega arith),
    λ b. (
      e b,
      λ w. let v = bounds r b w in (
        due_mid p2 p1 b (omega arith) (omega arith),
        λ c. (
          after-plain p2 p1 b c (due_mid p2 p1 b (omega arith) (omega arith)) (λ e. omega arith) (λ e. omega arith) (λ e. omega arith) (λ e. omega arith),
          λ x. let y = bounds on c x in owes_one p1 b c (due_far p1 b c (omega arith) (omega arith) h) (omega arith) (omega arith),
        ),
      ),
    ),
  )

-- ---- a text, from its start

-- every byte is right, and no sequence is open at the end
unfoldable pub placed : ℕ → ℕ → ℕ → List ℕ → Bool
placed p3 p2 p1 [] = not (due p3 p2 p1)
placed p3 p2 p1 (b ∷ t) = let rest = placed p2 p1 b t in not (wrong p3 p2 p1 b) && rest

-- what the law says of texts that are no longer than n
Upto : ℕ → Type 0
Upto n = (p3 p2 p1 : ℕ) (t : List ℕ) → length t ≤ n → Whole p3 p2 p1 → placed p3 p2 p1 t ≡ is_run (size_in rows) t

module _ (n : ℕ) (more : Upto n) where
  owes_placed : (rs : List Range) (p3 p2 p1 : ℕ) (t : List ℕ) → length t ≤ n → Owes rs p3 p2 p1 → placed p3 p2 p1 t ≡ cond (fits_row rs t) (is_run (size_in rows) (drop (length rs) t)) false
  unfolding Owes placed fits_row Upto
  owes_placed [] p3 p2 p1 t h o = more p3 p2 p1 t h o
  owes_placed (r ∷ rs) p3 p2 p1 [] h o = rw o.0
  owes_placed (r ∷ rs) p3 p2 p1 (b ∷ t) h o =
      rw (o.1 b).0 (step (within r b) refl (λ q. owes_placed rs p2 p1 b t (omega arith) q))
    where
      step : (f : Bool) → within r b ≡ f → (Owes rs p2 p1 b → placed p2 p1 b t ≡ cond (fits_row rs t) (is_run (size_in rows) (drop (length rs) t)) false) →
          (f && placed p2 p1 b t) ≡ cond (f && fits_row rs t) (is_run (size_in rows) (drop (length rs) t)) false
      step true e go = go ((o.1 b).1 e)
      step false e go = refl

  -- a sequence of a row, or none
  module _ {p3 p2 p1 : ℕ} (w : Whole p3 p2 p1) (b : ℕ) (t : List ℕ) (h : length t ≤ n) where
    row_placed : (rs : List Range) → size_in rows (b ∷ t) ≡ cond (fits_row rs t) (suc (length rs)) 0 → wrong p3 p2 p1 b ≡ false → Owes rs p2 p1 b →
        placed p3 p2 p1 (b ∷ t) ≡ is_run (size_in rows) (b ∷ t)
    unfolding placed
    row_placed rs z e o = rw (e, owes_placed rs p2 p1 b t h o) (pick (fits_row rs t) refl z)
      where
        pick : (f : Bool) → fits_row rs t ≡ f → size_in rows (b ∷ t) ≡ cond f (suc (length rs)) 0 → cond f (is_run (size_in rows) (drop (length rs) t)) false ≡ is_run (size_in rows) (b ∷ t)
        pick true e z = sym (run_cons (size_in rows) (length rs) b t z (fits-length rs t e))
        pick false e z = sym (run_none (size_in rows) b t z)

    none-placed : size_in rows (b ∷ t) ≡ 0 → wrong p3 p2 p1 b ≡ true → placed p3 p2 p1 (b ∷ t) ≡ is_run (size_in rows) (b ∷ t)
    unfolding placed
    none-placed z e = rw e (sym (run_none (size_in rows) b t z))

    -- the n-th row
    by_row : (k : ℕ) (r : Range) (rs : List Range) → get_or rows k [] ≡ r ∷ rs → apart r (without k rows) ≡ true → r.low ≤ b → b ≤ r.high → wrong p3 p2 p1 b ≡ false → Owes rs p2 p1 b →
        placed p3 p2 p1 (b ∷ t) ≡ is_run (size_in rows) (b ∷ t)
    by_row k r rs g d l u e o = row_placed rs (at_row r b t (inside r b l u) rows k rs g d) e o

    over-size : 0xf5 ≤ b → size_in rows (b ∷ t) ≡ 0
    unfolding rows size_in fits_row
    over-size l =
        rw (
          over (0x00 ·· 0x7f) b (omega arith),
          over (0xc2 ·· 0xdf) b (omega arith),
          over (0xe0 ·· 0xe0) b (omega arith),
          over (0xe1 ·· 0xec) b (omega arith),
          over (0xed ·· 0xed) b (omega arith),
          over (0xee ·· 0xef) b (omega arith),
          over (0xf0 ·· 0xf0) b (omega arith),
          over (0xf1 ·· 0xf3) b (omega arith),
          over (0xf4 ·· 0xf4) b (omega arith),
        )

    three-placed : 0xe0 ≤ b → b < 0xf0 → placed p3 p2 p1 (b ∷ t) ≡ is_run (size_in rows) (b ∷ t)
    unfolding table
    three-placed l u =
        let d : due p2 p1 b ≡ true = due_near p2 p1 b (omega arith) in
        let f : wrong p3 p2 p1 b ≡ false = right_lead w b (omega arith) (omega arith) in
        elim (dec_lt b 0xe1) [
          | yes a ↦ by_row 2 (0xe0 ·· 0xe0) (0xa0 ·· 0xbf ∷ on ∷ []) refl refl l (omega arith) f (owes_two p1 b (0xa0 ·· 0xbf) (omega arith) (omega arith) p2 l u (λ c. after_e0 p2 p1 b c d (omega arith)))
          | no a ↦ elim (dec_lt b 0xed) [
            | yes e ↦ by_row 3 (0xe1 ·· 0xec) (on ∷ on ∷ []) refl refl (omega arith) (omega arith) f (owes_two p1 b on (omega arith) (omega arith) p2 l u (λ c. after-plain p2 p1 b c d (λ q. omega arith) (λ q. omega arith) (λ q. omega arith) (λ q. omega arith)))
            | no e ↦ elim (dec_lt b 0xee) [
              | yes g ↦ by_row 4 (0xed ·· 0xed) (0x80 ·· 0x9f ∷ on ∷ []) refl refl (omega arith) (omega arith) f (owes_two p1 b (0x80 ·· 0x9f) (omega arith) (omega arith) p2 l u (λ c. after_ed p2 p1 b c d (omega arith)))
              | no g ↦ by_row 5 (0xee ·· 0xef) (on ∷ on ∷ []) refl refl (omega arith) (omega arith) f (owes_two p1 b on (omega arith) (omega arith) p2 l u (λ c. after-plain p2 p1 b c d (λ q. omega arith) (λ q. omega arith) (λ q. omega arith) (λ q. omega arith)))
            ]
          ]
        ]

    four-placed : 0xf0 ≤ b → b < 0xf5 → placed p3 p2 p1 (b ∷ t) ≡ is_run (size_in rows) (b ∷ t)
    unfolding table
    four-placed l u =
        let d : due p2 p1 b ≡ true = due_near p2 p1 b (omega arith) in
        let f : wrong p3 p2 p1 b ≡ false = right_lead w b (omega arith) u in
        elim (dec_lt b 0xf1) [
          | yes a ↦ by_row 6 (0xf0 ·· 0xf0) (0x90 ·· 0xbf ∷ on ∷ on ∷ []) refl refl l (omega arith) f (owes_three p1 b (0x90 ·· 0xbf) (omega arith) (omega arith) p2 l (λ c. after_f0 p2 p1 b c d (omega arith)))
          | no a ↦ elim (dec_lt b 0xf4) [
            | yes e ↦ by_row 7 (0xf1 ·· 0xf3) (on ∷ on ∷ on ∷ []) refl refl (omega arith) (omega arith) f (owes_three p1 b on (omega arith) (omega arith) p2 l (λ c. after-plain p2 p1 b c d (λ q. omega arith) (λ q. omega arith) (λ q. omega arith) (λ q. omega arith)))
            | no e ↦ by_row 8 (0xf4 ·· 0xf4) (0x80 ·· 0x8f ∷ on ∷ on ∷ []) refl refl (omega arith) (omega arith) f (owes_three p1 b (0x80 ·· 0x8f) (omega arith) (omega arith) p2 l (λ c. after_f4 p2 p1 b c d (omega arith)))
          ]
        ]

    first-placed : placed p3 p2 p1 (b ∷ t) ≡ is_run (size_in rows) (b ∷ t)
    unfolding table Owes
    first-placed =
        let d : 0xc0 ≤ b → due p2 p1 b ≡ true = λ l. due_near p2 p1 b l in
        elim (dec_lt b 0x80) [
          | yes a ↦ by_row 0 (0x00 ·· 0x7f) [] refl refl (omega arith) (omega arith) (right-ascii w b a) (record { near = omega arith; mid = omega arith; far = omega arith })
          | no a ↦ elim (dec_lt b 0xc0) [
            | yes c ↦ none-placed (no_row (0x80 ·· 0xc1) b t (inside (0x80 ·· 0xc1) b (omega arith) (omega arith)) rows refl) (wrong_on w b (omega arith) c)
            | no c ↦ elim (dec_lt b 0xc2) [
              | yes e ↦ none-placed (no_row (0x80 ·· 0xc1) b t (inside (0x80 ·· 0xc1) b (omega arith) (omega arith)) rows refl) (wrong-never w b (never_low b (omega arith) e))
              | no e ↦ elim (dec_lt b 0xe0) [
                | yes f ↦ by_row 1 (0xc2 ·· 0xdf) (on ∷ []) refl refl (omega arith) (omega arith) (right_lead w b (omega arith) (omega arith)) (owes_one p2 p1 b (d (omega arith)) f (omega arith))
                | no f ↦ elim (dec_lt b 0xf0) [
                  | yes g ↦ three-placed (omega arith) g
                  | no g ↦ elim (dec_lt b 0xf5) [
                    | yes i ↦ four-placed (omega arith) i
                    | no i ↦ none-placed (over-size (omega arith)) (wrong-never w b (never-over b (omega arith)))
                  ]
                ]
              ]
            ]
          ]
        ]

nil_placed : {p3 p2 p1 : ℕ} → Whole p3 p2 p1 → placed p3 p2 p1 [] ≡ is_run (size_in rows) []
unfolding placed
nil_placed w = rw (whole_due w) (sym (run_nil (size_in rows)))

upto : (n : ℕ) (p3 p2 p1 : ℕ) (t : List ℕ) → length t ≤ n → Whole p3 p2 p1 → placed p3 p2 p1 t ≡ is_run (size_in rows) t
unfolding Upto
upto zero p3 p2 p1 [] h w = nil_placed w
upto zero p3 p2 p1 (b ∷ t) h w = absurd (omega arith)
upto (suc n) p3 p2 p1 [] h w = nil_placed w
upto (suc n) p3 p2 p1 (b ∷ t) h w = first-placed n (λ q3 q2 q1 u k v. upto n q3 q2 q1 u k v) w b t (omega arith)

pub whole-placed : (p3 p2 p1 : ℕ) (t : List ℕ) → Whole p3 p2 p1 → placed p3 p2 p1 t ≡ utf8 t
unfolding utf8
whole-placed p3 p2 p1 t w = upto (length t) p3 p2 p1 t (omega arith) w

-- the law
pub utf8-placed : (bs : List ℕ) → utf8 bs ≡ placed 0 0 0 bs
utf8-placed bs = sym (whole-placed 0 0 0 bs (record { near = omega arith; mid = omega arith; far = omega arith }))
