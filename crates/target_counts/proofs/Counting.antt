-- Counting the targets of nodes one after the other.
use Prim.Native.Nat.{ℕ, suc, ◌+◌, ◌≤◌, ◌<◌}
use mathlib.Core.Path.{◌≡◌, refl, sym, ap, ◌∙◌}
use mathlib.Core.Bool.{Bool, true, false}
use mathlib.Core.List.{List, [], ◌++◌}
use native.Mathlib.Omega.{arith}
use native.Mathlib.Numerals.{add-one}
use native.Mathlib.Decide.{ℕ_discrete, dec_lt}
use lib.Dec.{leb}
use lib.ListN.{length, get_or, drop, set, replicate, length-set, length-append, length-drop, length-replicate, get_or-replicate, get_or-append, take-append-drop}
use lib.Seq.{get_or-set_same, get_or-set_other, drop-set-lt, drop_at, take_at}
use borrow.Author.Tests.{eq-eqb, ne_eqb, lt-ltb, le-ltb, le-leb, lt-leb, leb-true, eqb-true}
use Rattle.laws.specs.Counted.{sum_of, all_of}
use Rattle.laws.proofs.Flags.{all_next, all_at, all_fails, all_of_lem}
use Rattle.laws.proofs.Members.{length_join}
use Rattle.words.specs.Words.{NONE, is_none}
use Rattle.image.specs.declared.NodeRecord.{NodeRecord}
use Rattle.image.specs.Sections.{Sections, node_count}
use Rattle.image.specs.Entries.{record_of}
use Rattle.image.proofs.Entries.{node_record}
use Rattle.records.specs.Fields.{kind_of}
use Rattle.records.specs.Records.{target_in}
use Rattle.draft.specs.Source.{draft_of}
use Rattle.target_counts.specs.Summary.{target_at, points_at, pointed_at, summary_of, RightSummary, words_hold, summary_after, CountedSummary}
use Rattle.target_counts.specs.Step.{counted_one}
use Rattle.target_counts.proofs.Points.{points_nowhere, points_here, points_elsewhere, points_once, none_points, sum_bound, sum_none, sum_more, right_of}

-- sections of these node words alone
abbrev pub nodes_alone : ℕ → List ℕ → Sections
nodes_alone version ws = draft_of version ws [] [] [] [] [] []

-- the target of the node that the code read
pub target-read : (s : Sections) (version : ℕ) (ws : List ℕ) (i : ℕ) (r : NodeRecord) (t : ℕ) → s.version ≡ version → s.nodes ≡ ws
    → r ≡ record_of version ws i → t ≡ target_in r (kind_of r.tag) → t ≡ target_at s i
target-read s version ws i r t w e h q = q ∙ ap (λ (x : NodeRecord). target_in x (kind_of x.tag)) (h ∙ node_record s version ws i w e)

-- ---- words hold what is counted

-- no more than there are nodes name one
pub pointed_few : (s : Sections) (n : ℕ) → pointed_at s n ≤ node_count s
unfolding pointed_at
pointed_few s n = sum_bound (node_count s) _ (λ i. points_once (target_at s i) n)

pub few_hold : (s : Sections) → node_count s ≤ NONE → true ≡ words_hold s
unfolding words_hold
few_hold s h = sym (all_of_lem (node_count s) _ (λ n l. le-leb (pointed_at s n) NONE (let z = pointed_few s n in omega arith)))

-- the loop of `words_hold`: the words before n do
pub record HoldSoFar (s : Sections) (n : ℕ) : Type 0 where
  pub within : n ≤ node_count s
  pub all : all_of n (λ m. leb (pointed_at s m) NONE) ≡ true

pub hold_start : (s : Sections) → HoldSoFar s 0
unfolding all_of
hold_start s = record { within = omega arith; all = refl }

pub hold_next : (s : Sections) (n p : ℕ) → HoldSoFar s n → n < node_count s → p ≡ pointed_at s n → p ≤ NONE → HoldSoFar s (n + 1)
hold_next s n p so h e l =
    record { within = omega arith; all = all_next n _ so.all (le-leb (pointed_at s n) NONE (let z = sym e in omega arith)) }

pub hold_not : (s : Sections) (n p : ℕ) → n < node_count s → p ≡ pointed_at s n → NONE < p → false ≡ words_hold s
unfolding words_hold
hold_not s n p h e l = sym (all_fails (node_count s) _ n h (lt-leb (pointed_at s n) NONE (let z = sym e in omega arith)))

pub hold_end : (s : Sections) (n : ℕ) → HoldSoFar s n → node_count s ≤ n → true ≡ words_hold s
unfolding words_hold
hold_end s n so h = let e : n ≡ node_count s = omega (arith, so.within) in rw (← e) (sym so.all)

-- the loop of `pointed_at`: what the nodes before i name
pub record PointedSoFar (s : Sections) (n p i : ℕ) : Type 0 where
  pub within : i ≤ node_count s
  pub so_far : p ≡ sum_of i (λ j. points_at (target_at s j) n)
  pub most : p ≤ i

pub pointed-start : (s : Sections) (n : ℕ) → PointedSoFar s n 0 0
unfolding sum_of
pointed-start s n = record { within = omega arith; so_far = refl; most = omega arith }

pub pointed-next : (s : Sections) (n p i h : ℕ) → PointedSoFar s n p i → i < node_count s → h ≡ points_at (target_at s i) n → PointedSoFar s n (p + h) (i + 1)
pointed-next s n p i h so l e =
    let few = points_once (target_at s i) n in
    record {
      within = omega arith;
      so_far = rw (add-one i) (unfold sum_of in rw (← so.so_far, ← e));
      most = let z = so.most in omega arith;
    }

pub pointed_end : (s : Sections) (n p i : ℕ) → PointedSoFar s n p i → node_count s ≤ i → p ≡ pointed_at s n
unfolding pointed_at
pointed_end s n p i so h = let e : i ≡ node_count s = omega (arith, so.within) in rw (← e) so.so_far

-- ---- one word

pub counted_none : (w : List ℕ) (n t : ℕ) → t ≡ NONE → w ≡ counted_one w n t
unfolding counted_one
counted_none w n t e = rw (eq-eqb t NONE e)

pub counted_out : (w : List ℕ) (n t : ℕ) → (t ≡ NONE → ⊥) → n ≤ t → w ≡ counted_one w n t
unfolding counted_one
counted_out w n t d h = rw (ne_eqb t NONE d, le-ltb t n h)

pub counted_in : (w : List ℕ) (n t : ℕ) → (t ≡ NONE → ⊥) → t < n → set w t (get_or w t 0 + 1) ≡ counted_one w n t
unfolding counted_one
counted_in w n t d h = rw (ne_eqb t NONE d, lt-ltb t n h)

module _ (w : List ℕ) (n t : ℕ) where
  data Side : Type 0 where
    none : t ≡ NONE → Side
    out : (t ≡ NONE → ⊥) → n ≤ t → Side
    below : (t ≡ NONE → ⊥) → t < n → Side

  side : Side
  side = go (ℕ_discrete t NONE) (dec_lt t n)
    where
      go : Dec (t ≡ NONE) → Dec (t < n) → Side
      go (yes e) l = none e
      go (no d) (yes l) = below d l
      go (no d) (no l) = out d (omega arith)

  counted-length : length (counted_one w n t) ≡ length w
  counted-length = by side
    where
      by : Side → length (counted_one w n t) ≡ length w
      by (none e) = ap length (sym (counted_none w n t e))
      by (out d h) = ap length (sym (counted_out w n t d h))
      by (below d h) = ap length (sym (counted_in w n t d h)) ∙ length-set w t (get_or w t 0 + 1)

  counted-past : drop n (counted_one w n t) ≡ drop n w
  counted-past = by side
    where
      by : Side → drop n (counted_one w n t) ≡ drop n w
      by (none e) = ap (drop n) (sym (counted_none w n t e))
      by (out d h) = ap (drop n) (sym (counted_out w n t d h))
      by (below d h) = ap (drop n) (sym (counted_in w n t d h)) ∙ drop-set-lt n w t (get_or w t 0 + 1) h

  counted-word : (m : ℕ) → n ≤ length w → m < n → get_or (counted_one w n t) m 0 ≡ get_or w m 0 + points_at t m
  counted-word m room l = by side
    where
      same : counted_one w n t ≡ w → points_at t m ≡ 0 → get_or (counted_one w n t) m 0 ≡ get_or w m 0 + points_at t m
      same e z = rw (e, z) (omega arith)

      at : (t ≡ NONE → ⊥) → t < n → Dec (t ≡ m) → get_or (set w t (get_or w t 0 + 1)) m 0 ≡ get_or w m 0 + points_at t m
      at d h (yes e) = rw (← points_here t m d e, ← e) (get_or-set_same w t (get_or w t 0 + 1) 0 (omega arith))
      at d h (no q) = rw (← points_elsewhere t m d q, get_or-set_other w t m (get_or w t 0 + 1) 0 (λ e. q (sym e))) (omega arith)

      by : Side → get_or (counted_one w n t) m 0 ≡ get_or w m 0 + points_at t m
      by (none e) = same (sym (counted_none w n t e)) (sym (points_nowhere t m e))
      by (out d h) = same (sym (counted_out w n t d h)) (sym (points_elsewhere t m d (λ e. omega arith)))
      by (below d h) = ap (λ (x : List ℕ). get_or x m 0) (sym (counted_in w n t d h)) ∙ at d h (ℕ_discrete t m)

-- ---- the summary when i nodes are counted

pub record Counting (s : Sections) (w₀ w : List ℕ) (i : ℕ) : Type 0 where
  pub same_length : length w ≡ length w₀
  pub words : (m : ℕ) → m < node_count s → get_or w m 0 ≡ sum_of i (λ j. points_at (target_at s j) m)
  pub past : drop (node_count s) w ≡ drop (node_count s) w₀

module _ (s : Sections) (w₀ w : List ℕ) (room : node_count s ≤ length w₀) where
  module _ (i : ℕ) (k : Counting s w₀ w i) where
    -- the word of the next target can still go up
    pub count_fits : words_hold s ≡ true → i < node_count s → (t : ℕ) → t ≡ target_at s i → t < node_count s → get_or w t 0 < NONE
    unfolding words_hold pointed_at
    count_fits hold h t e l = by (is_none t) refl
      where
        by : (b : Bool) → is_none t ≡ b → get_or w t 0 < NONE
        by true q =
            let z : t ≡ NONE = eqb-true t NONE q in
            let y : get_or w t 0 ≡ 0 = k.words t l ∙ sum_none i _ (λ j. ap (points_at (target_at s j)) z ∙ none_points (target_at s j)) in
            omega arith
        by false q =
            let z : sum_of (suc i) (λ j. points_at (target_at s j) t) ≤ sum_of (node_count s) (λ j. points_at (target_at s j) t) = sum_more (suc i) (node_count s) _ (omega arith) in
            let y : sum_of (node_count s) (λ j. points_at (target_at s j) t) ≤ NONE = leb-true _ _ (all_at (node_count s) _ hold t l) in
            let x : sum_of (suc i) (λ j. points_at (target_at s j) t) ≡ sum_of i (λ j. points_at (target_at s j) t) + 1 = one_more_lem (hit_one q) in
            let v = k.words t l in
            omega (arith, z, y, x, v)
          where
            hit_one : is_none t ≡ false → points_at (target_at s i) t ≡ 1
            hit_one q = unfold points_at in rw (← e, q, eq-eqb t t refl)

            one_more_lem : points_at (target_at s i) t ≡ 1 → sum_of (suc i) (λ j. points_at (target_at s j) t) ≡ sum_of i (λ j. points_at (target_at s j) t) + 1
            one_more_lem p = unfold sum_of in rw p

    pub count_next : (t : ℕ) → t ≡ target_at s i → (w' : List ℕ) → w' ≡ counted_one w (node_count s) t → Counting s w₀ w' (i + 1)
    count_next t e w' q =
        record {
          same_length = ap length q ∙ counted-length w (node_count s) t ∙ k.same_length;
          words = λ m l. ap (λ (x : List ℕ). get_or x m 0) q ∙ counted-word w (node_count s) t m (omega (arith, k.same_length)) l ∙ more m l;
          past = ap (drop (node_count s)) q ∙ counted-past w (node_count s) t ∙ k.past;
        }
      where
        more : (m : ℕ) → m < node_count s → get_or w m 0 + points_at t m ≡ sum_of (i + 1) (λ j. points_at (target_at s j) m)
        more m l = rw (k.words m l, e, add-one i) (unfold sum_of in refl)

    pub count_end : node_count s ≤ i → i ≤ node_count s → w ≡ summary_of s ++ drop (node_count s) w₀
    unfolding pointed_at
    count_end h g =
        let e : i ≡ node_count s = omega arith in
        let r : RightSummary s w = right_of s w (omega (arith, k.same_length)) (λ m l. k.words m l ∙ rw e) in
        sym (take-append-drop (node_count s) w) ∙ rw (r, k.past)

-- ---- the loop: n words, cleared first

-- of n nodes i are counted
pub record CountedSoFar (s : Sections) (n : ℕ) (w₀ w : List ℕ) (i : ℕ) : Type 0 where
  pub within : i ≤ n
  pub count_is : n ≡ node_count s
  pub room : n ≤ length w₀
  pub long : length w ≡ length w₀
  pub counting : Counting s w₀ w i

module _ (s : Sections) (n : ℕ) (w₁ w₀ : List ℕ) (h : n ≤ length w₁) (c : w₀ ≡ replicate n 0 ++ drop n w₁) where
  cleared-length : length w₀ ≡ length w₁
  cleared-length = rw c (length-append (replicate n 0) (drop n w₁) ∙ rw (length-replicate, length-drop) (omega arith))

  pub loop_start : n ≡ node_count s → CountedSoFar s n w₀ w₀ 0
  unfolding sum_of
  loop_start e =
      record {
        within = omega arith;
        count_is = e;
        room = omega (arith, cleared-length);
        long = refl;
        counting =
            record {
              same_length = refl;
              words = λ m k. let q : m < n = omega arith in
                  rw c (get_or-append (replicate n 0) (drop n w₁) 0 m (rw length-replicate q) ∙ get_or-replicate n m 0 0 q);
              past = refl;
            };
      }

  cleared-past : drop n w₀ ≡ drop n w₁
  cleared-past = rw c (drop_at (replicate n 0) (drop n w₁) n (length-replicate n 0))

  pub loop_end : (w : List ℕ) (i : ℕ) → CountedSoFar s n w₀ w i → n ≤ i → w ≡ summary_of s ++ drop n w₁
  loop_end w i k l =
      let q = k.count_is in
      let e = count_end s w₀ w (omega (arith, k.room)) i k.counting (omega arith) (omega (arith, k.within)) in
      e ∙ ap (λ (x : List ℕ). summary_of s ++ x) (ap (λ (x : ℕ). drop x w₀) (sym q) ∙ cleared-past)

module _ (s : Sections) (n : ℕ) (w₀ w : List ℕ) (i : ℕ) (k : CountedSoFar s n w₀ w i) where
  pub loop_fits : words_hold s ≡ true → i < n → (t : ℕ) → t ≡ target_at s i → t < n → get_or w t 0 < NONE
  loop_fits hold h t e l =
      let q = k.count_is in count_fits s w₀ w (omega (arith, k.room)) i k.counting hold (omega arith) t e (omega arith)

  pub loop_next : i < n → (t : ℕ) → t ≡ target_at s i → (w' : List ℕ) → w' ≡ counted_one w n t → CountedSoFar s n w₀ w' (i + 1)
  loop_next h t e w' q =
      record {
        within = omega arith;
        count_is = k.count_is;
        room = k.room;
        long = ap length q ∙ counted-length w n t ∙ k.long;
        counting = count_next s w₀ w (let z = k.count_is in omega (arith, k.room)) i k.counting t e w' (rw k.count_is at q);
      }

-- a counted summary is right
pub counted-right : (s : Sections) (w₀ : List ℕ) → RightSummary s (summary_of s ++ drop (node_count s) w₀)
unfolding summary_of
counted-right s w₀ = take_at (summary_of s) (drop (node_count s) w₀) (node_count s) (length_join (node_count s) (pointed_at s))

pub counted-summary : (s : Sections) (w : List ℕ) → node_count s ≤ length w → CountedSummary s w
unfolding summary_after summary_of
counted-summary s w room =
    record {
      right = counted-right s w;
      past = drop_at (summary_of s) (drop (node_count s) w) (node_count s) (length_join (node_count s) (pointed_at s));
    }
