-- A merge sort of the first n words of a list, with words after them to work in and tables behind those: what its merge keeps, and why its parts add up.
use Prim.Native.Nat.{ℕ, ◌+◌, ◌-◌, suc, ◌≤◌, ◌<◌}
use mathlib.Core.Path.{◌≡◌, refl, sym, ap, ◌∙◌}
use mathlib.Core.List.{List, [], ◌∷◌, ◌++◌, append_assoc}
use mathlib.Core.Bool.{Bool, true, false}
use native.Mathlib.Nat.{add-zero, zero-add}
use native.Mathlib.Omega.{arith}
use native.Mathlib.Numerals.{add-one}
use borrow.Author.Tests.{ltb-true, ltb-false}
use lib.Dec.{ltb}
use lib.ListN.{length, take, drop, set, get_or, length-set, length-append, length-drop}
use lib.Seq.{drop-cons, take-suc-set, take-add, drop-drop, get_or-drop, drop-set-lt, length-take-le, take_at, drop_at, paste, length-paste, get_or-take}
use Rattle.std.specs.List.{copy_within}
use Rattle.laws.specs.Sorted.{isort}
use Rattle.laws.proofs.Lists.{drop_more, to_end, part-back}
use Rattle.write_sorting.specs.Sorted.{merge, right_first, takes_right, Strict, part, Ordered}
use Rattle.write_sorting.proofs.Laws.{cases, differ, merge_nil, sort_append, first-left, first-right}
use Rattle.write_sorting.proofs.OrderedLists.{ordered-isort, merge-ordered}

-- ---- parts

pub part_cons : (j n : ℕ) (w : List ℕ) → j < n → n ≤ length w → part j n w ≡ get_or w j 0 ∷ part (suc j) n w
part_cons j n w h k =
    let e : n - j ≡ suc (n - suc j) = omega arith in
    let l : j < length w = omega arith in
    rw (drop-cons w j 0 l, e)

pub part_none : (j n : ℕ) (w : List ℕ) → n ≤ j → part j n w ≡ []
part_none j n w h = let e : n - j ≡ 0 = omega arith in rw e

pub length_part : (a e : ℕ) (w : List ℕ) → a ≤ e → e ≤ length w → length (part a e w) ≡ e - a
length_part a e w h k = length-take-le (e - a) (drop a w) (omega (arith, length-drop a w))

pub get_d_part : (a e i : ℕ) (w : List ℕ) → a + i < e → get_or (part a e w) i 0 ≡ get_or w (a + i) 0
get_d_part a e i w h = get_or-take (e - a) (drop a w) i 0 (omega arith) ∙ get_or-drop a w i 0

pub part-take : (m n : ℕ) (x : List ℕ) → m ≤ n → n ≤ length x → drop m (take n x) ≡ part m n x
part-take m n x h k =
    let q : n ≡ m + (n - m) = omega arith in
    ap (λ (p : ℕ). drop m (take p x)) q ∙ ap (drop m) (take-add m (n - m) x) ∙ drop_at (take m x) (part m n x) m (length-take-le m x (omega arith))

pub take-parts : (m n : ℕ) (x : List ℕ) → m ≤ n → take m x ++ part m n x ≡ take n x
take-parts m n x h = let q : m + (n - m) ≡ n = omega arith in sym (take-add m (n - m) x) ∙ ap (λ (p : ℕ). take p x) q

-- two lists that are the same from j on are so at each later place
pub get_d-later : (j p : ℕ) (x w : List ℕ) → drop j x ≡ drop j w → j ≤ p → get_or x p 0 ≡ get_or w p 0
get_d-later j p x w e h =
    let q : p ≡ j + (p - j) = omega arith in
    ap (λ (n : ℕ). get_or x n 0) q
    ∙ sym (get_or-drop j x (p - j) 0)
    ∙ ap (λ (l : List ℕ). get_or l (p - j) 0) e
    ∙ get_or-drop j w (p - j) 0
    ∙ ap (λ (n : ℕ). get_or w n 0) (sym q)

-- ---- a merge in progress: w is the list where it began, x the list now; i words are taken of the part from n on, those up to j of the part from m, and k are written

pub record Placing (lt : ℕ → ℕ → Bool) (w : List ℕ) (m n : ℕ) (x : List ℕ) (i j k : ℕ) : Type 0 where
  pub left : i ≤ m
  pub right : m ≤ j
  pub within : j ≤ n
  pub count : k + m ≡ i + j
  pub room : length x ≡ length w
  pub kept : drop j x ≡ drop j w
  pub rest : merge lt (part n (n + m) w) (part m n w) ≡ take k x ++ merge lt (part (n + i) (n + m) w) (part j n w)

module _ (lt : ℕ → ℕ → Bool) (w : List ℕ) (m n : ℕ) (hm : m ≤ n) (hn : n + m ≤ length w) where
  pub placing_none : Placing lt w m n w 0 m 0
  placing_none =
      record { left = omega arith; right = omega arith; within = hm; count = omega arith; room = refl; kept = refl; rest = rw add-zero }

  pub placing_done : (x : List ℕ) (i j k : ℕ) → Placing lt w m n x i j k → m ≤ i → take n x ≡ merge lt (part n (n + m) w) (part m n w)
  unfolding merge
  placing_done x i j k P h =
      let e : k ≡ j = omega arith in
      let s : part (n + i) (n + m) w ≡ [] = part_none (n + i) (n + m) w (omega arith) in
      let q : n ≡ j + (n - j) = omega arith in
      sym (P.rest ∙ rw (s, e, ← P.kept) (sym (take-add j (n - j) x) ∙ ap (λ (p : ℕ). take p x) (sym q)))

  -- what lies behind stays
  pub placing_behind : (x : List ℕ) (i j k : ℕ) → Placing lt w m n x i j k → (p : ℕ) → n ≤ p → drop p x ≡ drop p w
  placing_behind x i j k P p h = drop_more j p x w (omega arith) P.kept

  takes_in : (x : List ℕ) (i j : ℕ) → takes_right lt x n i j ≡ true → j < n
  unfolding takes_right
  takes_in x i j e = cases (ltb j n) (ltb-true j n) (λ f. differ (sym (rw f at e)))

  takes_is : (x : List ℕ) (i j k : ℕ) → Placing lt w m n x i j k → i < m → takes_right lt x n i j ≡ right_first lt (part (n + i) (n + m) w) (part j n w)
  unfolding takes_right right_first
  takes_is x i j k P h =
      let s = part_cons (n + i) (n + m) w (omega arith) hn in
      let u : get_or x (n + i) 0 ≡ get_or w (n + i) 0 = get_d-later j (n + i) x w P.kept (omega arith) in
      cases (ltb j n)
      (λ f.
      let t = part_cons j n w (ltb-true j n f) (omega arith) in
      let v : get_or x j 0 ≡ get_or w j 0 = get_d-later j j x w P.kept (omega arith) in
      rw (f, s, t, u, v))
      (λ f. let t = part_none j n w (ltb-false j n f) in rw (f, t))

  pub placing_right : (x : List ℕ) (i j k : ℕ) → Placing lt w m n x i j k → i < m → takes_right lt x n i j ≡ true
      → Placing lt w m n (set x k (get_or x j 0)) i (j + 1) (k + 1)
  placing_right x i j k P h e =
      let q : j < n = takes_in x i j e in
      let b : k < length x = omega arith in
      let t : part j n w ≡ get_or w j 0 ∷ part (suc j) n w = part_cons j n w q (omega arith) in
      let v : get_or x j 0 ≡ get_or w j 0 = get_d-later j j x w P.kept (omega arith) in
      let f : right_first lt (part (n + i) (n + m) w) (get_or w j 0 ∷ part (suc j) n w) ≡ true = ap (right_first lt (part (n + i) (n + m) w)) (sym t) ∙ sym (takes_is x i j k P h) ∙ e in
      record {
        left = P.left;
        right = omega arith;
        within = omega arith;
        count = omega arith;
        room = length-set x k (get_or x j 0) ∙ P.room;
        kept = rw add-one (drop-set-lt (suc j) x k (get_or x j 0) (omega arith) ∙ drop_more j (suc j) x w (omega arith) P.kept);
        rest = P.rest
            ∙ rw (add-one k, add-one j, take-suc-set x k (get_or x j 0) b, append_assoc)
            (ap (λ (l : List ℕ). take k x ++ l) (rw (t, v) (first-right lt (part (n + i) (n + m) w) (get_or w j 0) (part (suc j) n w) f)));
      }

  pub placing_left : (x : List ℕ) (i j k : ℕ) → Placing lt w m n x i j k → i < m → takes_right lt x n i j ≡ false
      → Placing lt w m n (set x k (get_or x (n + i) 0)) (i + 1) j (k + 1)
  placing_left x i j k P h e =
      let b : k < length x = omega arith in
      let a : suc (n + i) ≡ n + (i + 1) = omega arith in
      let t : part (n + i) (n + m) w ≡ get_or w (n + i) 0 ∷ part (n + (i + 1)) (n + m) w = part_cons (n + i) (n + m) w (omega arith) hn ∙ ap (λ (p : ℕ). get_or w (n + i) 0 ∷ part p (n + m) w) a in
      let v : get_or x (n + i) 0 ≡ get_or w (n + i) 0 = get_d-later j (n + i) x w P.kept (omega arith) in
      let f : right_first lt (get_or w (n + i) 0 ∷ part (n + (i + 1)) (n + m) w) (part j n w) ≡ false = ap (λ (l : List ℕ). right_first lt l (part j n w)) (sym t) ∙ sym (takes_is x i j k P h) ∙ e in
      record {
        left = omega arith;
        right = P.right;
        within = P.within;
        count = omega arith;
        room = length-set x k (get_or x (n + i) 0) ∙ P.room;
        kept = drop-set-lt j x k (get_or x (n + i) 0) (omega arith) ∙ P.kept;
        rest = P.rest
            ∙ rw (add-one k, take-suc-set x k (get_or x (n + i) 0) b, append_assoc)
            (ap (λ (l : List ℕ). take k x ++ l) (rw (t, v) (first-left lt (get_or w (n + i) 0) (part (n + (i + 1)) (n + m) w) (part j n w) f)));
      }

-- ---- copies of m words within a list

-- a copy leaves what lies behind it
pub paste-behind : (w v : List ℕ) (n m p : ℕ) → n + m ≤ length w → m ≤ length v → n + m ≤ p → drop p (paste w n v m) ≡ drop p w
paste-behind w v n m p h k l =
    let e : length (take n w ++ take m v) ≡ n + m = omega (arith, length-append (take n w) (take m v), length-take-le n w (omega arith), length-take-le m v k) in
    let q : p ≡ (n + m) + (p - (n + m)) = omega arith in
    ap (λ (r : ℕ). drop r (paste w n v m)) q
    ∙ sym (drop-drop (p - (n + m)) (n + m) (paste w n v m))
    ∙ ap (drop (p - (n + m))) (drop_at (take n w ++ take m v) (drop (n + m) w) (n + m) e)
    ∙ drop-drop (p - (n + m)) (n + m) w
    ∙ ap (λ (r : ℕ). drop r w) (sym q)

-- ---- a slice whose part from m on was lent and came back as y

abbrev pub lent : ℕ → List ℕ → List ℕ
lent m w = take (length w - m) (drop m w)

abbrev pub back : ℕ → List ℕ → List ℕ → List ℕ
back m w y = take m w ++ (y ++ drop (length w - m) (drop m w))

pub lent-part : (w : List ℕ) (m : ℕ) → m ≤ length w → lent m w ≡ drop m w
lent-part w m h = to_end m w

pub lent_back : (w y : List ℕ) (m : ℕ) → m ≤ length w → back m w y ≡ take m w ++ y
lent_back w y m h = part-back m w y

-- the tables from `at` on, seen from the lent part
pub lent-behind : (w : List ℕ) (m at : ℕ) → m ≤ at → at ≤ length w → drop (at - m) (lent m w) ≡ drop at w
lent-behind w m at h k =
    let q : m + (at - m) ≡ at = omega arith in
    ap (drop (at - m)) (lent-part w m (omega arith)) ∙ drop-drop (at - m) m w ∙ ap (λ (r : ℕ). drop r w) q

module _ (L : List ℕ → ℕ → ℕ → Bool) (w : List ℕ) (m at : ℕ) (hm : m ≤ at) (hat : at ≤ length w) where
  -- what is known of a part that was lent to be sorted
  pub record Came (n : ℕ) (y : List ℕ) : Type 0 where
    pub room : length (take m w ++ y) ≡ length w
    pub whole : back m w y ≡ take m w ++ y
    pub first : take m (take m w ++ y) ≡ take m w
    pub sorted : part m (m + n) (take m w ++ y) ≡ isort (L (drop at w)) (part m (m + n) w)
    pub behind : drop at (take m w ++ y) ≡ drop at w

  pub came : (n : ℕ) (y : List ℕ) → length y ≡ length (lent m w) → take n y ≡ isort (L (drop (at - m) (lent m w))) (take n (lent m w))
      → drop (at - m) y ≡ drop (at - m) (lent m w) → Came n y
  came n y ly ey dy =
      let lm : length (take m w) ≡ m = length-take-le m w (omega arith) in
      let le : lent m w ≡ drop m w = lent-part w m (omega arith) in
      let tb : drop (at - m) (lent m w) ≡ drop at w = lent-behind w m at hm hat in
      let n0 : m + n - m ≡ n = omega arith in
      let q : at ≡ m + (at - m) = omega arith in
      record {
        room = omega (arith, length-append (take m w) y, ap length le, length-drop m w);
        whole = lent_back w y m (omega arith);
        first = take_at (take m w) y m lm;
        sorted = ap (λ (p : ℕ). take p (drop m (take m w ++ y))) n0
            ∙ ap (take n) (drop_at (take m w) y m lm)
            ∙ ey
            ∙ ap (λ (t : List ℕ). isort (L t) (take n (lent m w))) tb
            ∙ ap (λ (l : List ℕ). isort (L (drop at w)) (take n l)) le
            ∙ ap (λ (p : ℕ). isort (L (drop at w)) (take p (drop m w))) (sym n0);
        behind = ap (λ (p : ℕ). drop p (take m w ++ y)) q
            ∙ sym (drop-drop (at - m) m (take m w ++ y))
            ∙ ap (drop (at - m)) (drop_at (take m w) y m lm)
            ∙ dy
            ∙ tb;
      }

-- ---- two parts that stand in order, put one after the other

pub down-joined : (lt : ℕ → ℕ → Bool) (w x : List ℕ) (m n : ℕ) → Strict lt → 0 < m → m < n → n + m ≤ length w → Ordered lt (part n (n + m) w)
    → lt (get_or w m 0) (get_or w (n + m - 1) 0) ≡ false → x ≡ paste w 0 (drop n w) m → take n x ≡ merge lt (part n (n + m) w) (part m n w)
down-joined lt w x m n S hm hn hw o f e =
    let p : n + m - n ≡ m = omega arith in
    let lp : length (part n (n + m) w) ≡ n + m - n = length_part n (n + m) w (omega arith) hw in
    let a : take m (drop n w) ≡ part n (n + m) w = ap (λ (k : ℕ). take k (drop n w)) (sym p) in
    let x1 : x ≡ part n (n + m) w ++ drop m w = e ∙ rw (zero-add m, a) in
    let q : n + (m - 1) ≡ n + m - 1 = omega arith in
    let last : get_or (part n (n + m) w) (m - 1) 0 ≡ get_or w (n + m - 1) 0 = get_d_part n (n + m) (m - 1) w (omega arith) ∙ ap (λ (k : ℕ). get_or w k 0) q in
    let first : get_or (part m n w) 0 0 ≡ get_or w m 0 = get_d_part m n 0 w (omega arith) ∙ ap (λ (k : ℕ). get_or w k 0) (add-zero m) in
    let g : lt (get_or (part m n w) 0 0) (get_or (part n (n + m) w) (m - 1) 0) ≡ false = rw (first, last) f in
    let done : merge lt (part n (n + m) w) (part m n w) ≡ part n (n + m) w ++ part m n w = merge-ordered lt S (part n (n + m) w) (part m n w) (m - 1) (omega arith) o g in
    let t1 : take m x ≡ part n (n + m) w = ap (take m) x1 ∙ take_at (part n (n + m) w) (drop m w) m (lp ∙ p) in
    let d1 : drop m x ≡ drop m w = ap (drop m) x1 ∙ drop_at (part n (n + m) w) (drop m w) m (lp ∙ p) in
    sym (take-parts m n x (omega arith)) ∙ rw (t1, d1) (sym done)

-- ---- the three steps of a sort: the part from m on is sorted up to n; the first m words are copied to n and on, and sorted there; the two are merged

pub record Halves (lt : ℕ → ℕ → Bool) (w : List ℕ) (m n at : ℕ) (u : List ℕ) : Type 0 where
  pub room : length u ≡ length w
  pub left : part n (n + m) u ≡ isort lt (take m w)
  pub right : part m n u ≡ isort lt (part m n w)
  pub behind : drop at u ≡ drop at w

-- the first m words are copied to n and on
pub record Copied (w : List ℕ) (m n at : ℕ) (x : List ℕ) : Type 0 where
  pub room : length x ≡ length w
  pub left : part n (n + m) x ≡ take m w
  pub right : part m n x ≡ part m n w
  pub behind : drop at x ≡ drop at w

pub copied : (w x : List ℕ) (m n at : ℕ) → m ≤ n → n + m ≤ at → at ≤ length w → x ≡ copy_within w 0 m n → Copied w m n at x
copied w x m n at hm hn hat came =
    let e : x ≡ paste w n w m = came ∙ ap (paste w n w) (omega arith) in
    let lx : length x ≡ length w = ap length e ∙ length-paste w n w m (omega arith) (omega arith) in
    let ln : length (take n w) ≡ n = length-take-le n w (omega arith) in
    let e2 : x ≡ take n w ++ (take m w ++ drop (n + m) w) = e ∙ append_assoc (take n w) (take m w) (drop (n + m) w) in
    let p : n + m - n ≡ m = omega arith in
    let tx : take n x ≡ take n w = ap (take n) e2 ∙ take_at (take n w) (take m w ++ drop (n + m) w) n ln in
    let dx : drop n x ≡ take m w ++ drop (n + m) w = ap (drop n) e2 ∙ drop_at (take n w) (take m w ++ drop (n + m) w) n ln in
    record {
      room = lx;
      left = ap (λ (k : ℕ). take k (drop n x)) p ∙ ap (take m) dx ∙ take_at (take m w) (drop (n + m) w) m (length-take-le m w (omega arith));
      right = sym (part-take m n x hm (omega arith)) ∙ ap (drop m) tx ∙ part-take m n w hm (omega arith);
      behind = ap (drop at) e ∙ paste-behind w w n m at (omega arith) (omega arith) hn;
    }

module _ (L : List ℕ → ℕ → ℕ → Bool) (w : List ℕ) (m n at : ℕ) (hm : m ≤ n) (hn : n + m ≤ at) (hat : at ≤ length w) where
  -- y is what came back of the first call, x the list after the copy, z what came back of the second
  pub halves : (y x z : List ℕ) → length y ≡ length (lent m w) → take (n - m) y ≡ isort (L (drop (at - m) (lent m w))) (take (n - m) (lent m w))
      → drop (at - m) y ≡ drop (at - m) (lent m w) → x ≡ copy_within (back m w y) 0 m n → length z ≡ length (lent n x)
      → take m z ≡ isort (L (drop (at - n) (lent n x))) (take m (lent n x)) → drop (at - n) z ≡ drop (at - n) (lent n x) → Halves (L (drop at w)) w m n at (back n x z)
  halves y x z ly ey dy ex lz ez dz =
      let A = came L w m at (omega arith) hat (n - m) y ly ey dy in
      let v : List ℕ = take m w ++ y in
      let C = copied v x m n at hm hn (omega arith) (ex ∙ ap (λ (l : List ℕ). copy_within l 0 m n) A.whole) in
      let lx : length x ≡ length w = C.room ∙ A.room in
      let B = came L x n at (omega arith) (omega arith) m z lz ez dz in
      let u : List ℕ = take n x ++ z in
      let q : m + (n - m) ≡ n = omega arith in
      let tab : drop at x ≡ drop at w = C.behind ∙ A.behind in
      rw B.whole
      (record {
        room = B.room ∙ lx;
        left = B.sorted ∙ ap (λ (d : List ℕ). isort (L d) (part n (n + m) x)) tab ∙ ap (isort (L (drop at w))) (C.left ∙ A.first);
        right = sym (part-take m n u hm (omega (arith, B.room)))
            ∙ ap (drop m) B.first
            ∙ part-take m n x hm (omega arith)
            ∙ C.right
            ∙ (rw q at A.sorted);
        behind = B.behind ∙ tab;
      })

module _ (L : List ℕ → ℕ → ℕ → Bool) (S : (d : List ℕ) → Strict (L d)) (w : List ℕ) (m n at : ℕ) (u : List ℕ) (H : Halves (L (drop at w)) w m n at u) where
  pub halves-ordered : Ordered (L (drop at u)) (part n (n + m) u)
  halves-ordered = rw (H.behind, H.left) (ordered-isort (L (drop at w)) (S (drop at w)) (take m w))

  -- the merge of the two halves is the sort of the whole
  pub halves-sorted : m ≤ n → merge (L (drop at u)) (part n (n + m) u) (part m n u) ≡ isort (L (drop at w)) (take n w)
  halves-sorted hm =
      rw (H.behind, H.left, H.right) (sym (sort_append (L (drop at w)) (S (drop at w)) (take m w) (part m n w)) ∙ ap (isort (L (drop at w))) (take-parts m n w hm))

-- ---- a merge of the first m words with those up to n, after the first m were copied to n and on

module _ (L : List ℕ → ℕ → ℕ → Bool) (w x : List ℕ) (m n at : ℕ) (C : Copied w m n at x) where
  pub copied-ordered : Ordered (L (drop at w)) (take m w) → Ordered (L (drop at x)) (part n (n + m) x)
  copied-ordered o = rw (C.behind, C.left) o

  pub copied_merged : merge (L (drop at x)) (part n (n + m) x) (part m n x) ≡ merge (L (drop at w)) (take m w) (part m n w)
  copied_merged = rw (C.behind, C.left, C.right)

pub merged_none : (lt : ℕ → ℕ → Bool) (w : List ℕ) (m n : ℕ) → m ≡ 0 → take n w ≡ merge lt (take m w) (part m n w)
unfolding merge
merged_none lt w m n e = let p : n - 0 ≡ n = omega arith in rw (e, p)

pub merged_all : (lt : ℕ → ℕ → Bool) (w : List ℕ) (m n : ℕ) → m ≡ n → take n w ≡ merge lt (take m w) (part m n w)
merged_all lt w m n e = rw (part_none m n w (omega arith), merge_nil) (ap (λ (k : ℕ). take k w) (sym e))
