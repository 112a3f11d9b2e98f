-- A part of a text is UTF-8 where the text is, if it cuts no sequence: the bytes at its start and behind its end continue none.
use Prim.Native.Nat.{ℕ, zero, suc, ◌+◌}
use mathlib.Core.Path.{◌≡◌, refl, sym, ap, ◌∙◌}
use mathlib.Core.List.{List, [], ◌∷◌}
use mathlib.Core.Bool.{Bool, true, false, not, ◌||◌, true≢false}
use borrow.Author.Tests.{leb-false}
use lib.Dec.{leb}
use lib.ListN.{take, drop, get_or}
use lib.Seq.{get_or-drop}
use Rattle.laws.proofs.Flags.{both_true}
use Rattle.utf8.specs.Utf8.{utf8}
use Rattle.utf8.specs.Places.{differ, due, continues, never, too_low, too_high, wrong}
use Rattle.utf8.proofs.Places.{Whole, placed, utf8-placed, whole-placed}
use Rattle.utf8.proofs.Laws.{utf8_nil}

-- ---- a byte that is right and continues no sequence comes after a whole one

first-false : (a b c d : Bool) → not (((a || b) || c) || d) ≡ true → a ≡ false
first-false true b c d h = absurd (true≢false (sym h))
first-false false b c d h = refl

none_due : (p3 p2 p1 b : ℕ) → not (wrong p3 p2 p1 b) ≡ true → continues b ≡ false → due p3 p2 p1 ≡ false
unfolding wrong differ
none_due p3 p2 p1 b h e = go (continues b) e h
  where
    go : (a : Bool) → a ≡ false → not (((differ a (due p3 p2 p1) || never b) || too_low p1 b) || too_high p1 b) ≡ true → due p3 p2 p1 ≡ false
    go true f x = absurd (true≢false f)
    go false f x = first-false (due p3 p2 p1) (never b) (too_low p1 b) (too_high p1 b) x

three-false : (a b c : Bool) → ((a || b) || c) ≡ false → (a ≡ false) × ((b ≡ false) × (c ≡ false))
three-false true b c h = absurd (true≢false h)
three-false false true c h = absurd (true≢false h)
three-false false false true h = absurd (true≢false h)
three-false false false false h = (refl, (refl, refl))

due_none : (p3 p2 p1 : ℕ) → due p3 p2 p1 ≡ false → Whole p3 p2 p1
unfolding due
due_none p3 p2 p1 h =
    let all = three-false (leb 0xc0 p1) (leb 0xe0 p2) (leb 0xf0 p3) h in
    record { near = leb-false 0xc0 p1 all.0; mid = leb-false 0xe0 p2 all.1.0; far = leb-false 0xf0 p3 all.1.1 }

-- ---- the start of a part, and its end

placed-drop : (o : ℕ) (p3 p2 p1 : ℕ) (t : List ℕ) → placed p3 p2 p1 t ≡ true → continues (get_or t o 0) ≡ false → utf8 (drop o t) ≡ true
unfolding placed
placed-drop zero p3 p2 p1 [] h e = utf8_nil
placed-drop zero p3 p2 p1 (b ∷ t) h e =
    let w = due_none p3 p2 p1 (none_due p3 p2 p1 b (both_true (not (wrong p3 p2 p1 b)) (placed p2 p1 b t) h).0 e) in sym (whole-placed p3 p2 p1 (b ∷ t) w) ∙ h
placed-drop (suc o) p3 p2 p1 [] h e = utf8_nil
placed-drop (suc o) p3 p2 p1 (b ∷ t) h e = placed-drop o p2 p1 b t (both_true (not (wrong p3 p2 p1 b)) (placed p2 p1 b t) h).1 e

placed-take : (n : ℕ) (p3 p2 p1 : ℕ) (t : List ℕ) → placed p3 p2 p1 t ≡ true → continues (get_or t n 0) ≡ false → placed p3 p2 p1 (take n t) ≡ true
unfolding placed
placed-take zero p3 p2 p1 [] h e = h
placed-take zero p3 p2 p1 (b ∷ t) h e = ap not (none_due p3 p2 p1 b (both_true (not (wrong p3 p2 p1 b)) (placed p2 p1 b t) h).0 e)
placed-take (suc n) p3 p2 p1 [] h e = h
placed-take (suc n) p3 p2 p1 (b ∷ t) h e =
    let both = both_true (not (wrong p3 p2 p1 b)) (placed p2 p1 b t) h in rw both.0 (placed-take n p2 p1 b t both.1 e)

pub utf8-within : (s : List ℕ) (o n : ℕ) → utf8 s ≡ true → continues (get_or s o 0) ≡ false → continues (get_or s (o + n) 0) ≡ false → utf8 (take n (drop o s)) ≡ true
utf8-within s o n h e f =
    let rest = placed-drop o 0 0 0 s (sym (utf8-placed s) ∙ h) e in
    utf8-placed (take n (drop o s)) ∙ placed-take n 0 0 0 (drop o s) (sym (utf8-placed (drop o s)) ∙ rest) (rw get_or-drop f)
