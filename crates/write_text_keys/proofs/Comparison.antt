-- Two texts of one length compared from their ends, and what that says of their order.
use Prim.Native.Nat.{ℕ, ◌≤◌, ◌<◌}
use mathlib.Core.Path.{◌≡◌, refl, sym, ap, ◌∙◌}
use mathlib.Core.List.{List, [], ◌∷◌, ◌++◌, append-nil}
use mathlib.Core.Bool.{Bool, true, false, cond}
use native.Mathlib.Omega.{arith}
use lib.Dec.{ltb}
use lib.ListN.{length, take, drop, take-append-drop}
use lib.Seq.{drop-cons, length-take-le}
use borrow.Author.Tests.{le-ltb}
use Rattle.std.specs.declared.cmp.Ordering.{Ordering}
use Rattle.std.specs.declared.cmp.Ordering.TheVariants.{Less, Equal, Greater}
use Rattle.texts.specs.Text.{by_head, order_of, is_less, before}
use Rattle.write_text_keys.specs.Keys.{decided}

-- more behind: what is in front decides first
pub decided_append : (xs ys s t : List ℕ) (later : Bool) → length xs ≡ length ys → decided (xs ++ s) (ys ++ t) later ≡ decided xs ys (decided s t later)
unfolding decided
decided_append [] [] s t later e = refl
decided_append [] (v ∷ ys) s t later e = absurd (omega arith)
decided_append (u ∷ xs) [] s t later e = absurd (omega arith)
decided_append (u ∷ xs) (v ∷ ys) s t later e = ap (λ (r : Bool). cond (ltb u v) true (cond (ltb v u) false r)) (decided_append xs ys s t later (omega arith))

-- one byte more
pub decided-last : (xs ys : List ℕ) (x y : ℕ) (later : Bool) → length xs ≡ length ys
    → decided (xs ++ (x ∷ [])) (ys ++ (y ∷ [])) later ≡ decided xs ys (cond (ltb x y) true (cond (ltb y x) false later))
unfolding decided
decided-last xs ys x y later e = decided_append xs ys (x ∷ []) (y ∷ []) later e

-- what the order of two texts decides, where nothing is behind the shorter one
abbrev pub by_order : Ordering → Bool → Bool
by_order Less later = true
by_order Equal later = later
by_order Greater later = false

pub decided-order : (xs ys : List ℕ) (later : Bool) → length xs ≡ length ys → decided xs ys later ≡ by_order (order_of xs ys) later
unfolding decided order_of
decided-order [] [] later e = refl
decided-order [] (y ∷ ys) later e = absurd (omega arith)
decided-order (x ∷ xs) [] later e = absurd (omega arith)
decided-order (x ∷ xs) (y ∷ ys) later e = by (ltb x y) (ltb y x) (decided-order xs ys later (omega arith))
  where
    by : (p q : Bool) → decided xs ys later ≡ by_order (order_of xs ys) later → cond p true (cond q false (decided xs ys later)) ≡ by_order (by_head p q (order_of xs ys)) later
    by true q r = refl
    by false true r = refl
    by false false r = r

-- one text against itself
pub decided-self : (xs : List ℕ) (later : Bool) → decided xs xs later ≡ later
unfolding decided
decided-self [] later = refl
decided-self (x ∷ xs) later = rw (le-ltb x x (omega arith)) (decided-self xs later)

-- the order of texts that go on behind two of one length
before_split : (xs ys s t : List ℕ) → length xs ≡ length ys → before (xs ++ s) (ys ++ t) ≡ decided xs ys (before s t)
unfolding before order_of decided
before_split [] [] s t e = refl
before_split [] (y ∷ ys) s t e = absurd (omega arith)
before_split (x ∷ xs) [] s t e = absurd (omega arith)
before_split (x ∷ xs) (y ∷ ys) s t e = by (ltb x y) (ltb y x) ∙ ap (λ (r : Bool). cond (ltb x y) true (cond (ltb y x) false r)) (before_split xs ys s t (omega arith))
  where
    by : (p q : Bool) → is_less (by_head p q (order_of (xs ++ s) (ys ++ t))) ≡ cond p true (cond q false (is_less (order_of (xs ++ s) (ys ++ t))))
    by true q = refl
    by false true = refl
    by false false = refl

-- the first text is shorter
pub before-shorter : (s t : List ℕ) → length s < length t → before s t ≡ decided s (take (length s) t) true
unfolding before order_of
before-shorter s t h =
    let e : length (take (length s) t) ≡ length s = length-take-le (length s) t (omega arith) in
    ap (λ (l : List ℕ). before l t) (sym (append-nil s))
    ∙ ap (before (s ++ [])) (sym (take-append-drop (length s) t))
    ∙ before_split s (take (length s) t) [] (drop (length s) t) (sym e)
    ∙ rw (drop-cons t (length s) 0 h)

-- it is not
pub before-longer : (s t : List ℕ) → length t ≤ length s → before s t ≡ decided (take (length t) s) t false
unfolding before order_of
before-longer s t h =
    let e : length (take (length t) s) ≡ length t = length-take-le (length t) s h in
    ap (before s) (sym (append-nil t))
    ∙ ap (λ (l : List ℕ). before l (t ++ [])) (sym (take-append-drop (length t) s))
    ∙ before_split (take (length t) s) t (drop (length t) s) [] e
    ∙ ap (decided (take (length t) s) t) (none (drop (length t) s))
  where
    none : (l : List ℕ) → before l [] ≡ false
    none [] = refl
    none (x ∷ l) = refl
