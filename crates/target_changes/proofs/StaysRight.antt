-- Setting one target: one word goes down, one up, and a right summary stays right.
use Prim.Native.Nat.{ℕ, zero, suc, ◌+◌, ◌*◌, ◌-◌, ◌≤◌, ◌<◌}
use mathlib.Core.Path.{◌≡◌, refl, sym, ap, ◌∙◌}
use mathlib.Core.Bool.{Bool, true, false, cond, ◌&&◌, ◌||◌, not}
use mathlib.Core.List.{List}
use native.Mathlib.Omega.{arith}
use native.Mathlib.Decide.{ℕ_discrete}
use lib.Dec.{ltb, eqb}
use lib.ListN.{length, get_or, drop, set, length-set}
use lib.Seq.{get_or-set_same, get_or-set_other, drop-set-lt}
use borrow.Author.Tests.{eq-eqb, ne_eqb, eqb-true, eqb-false, lt-ltb, ltb-true, le-leb, leb-true, not-true}
use Rattle.laws.specs.Refusal.{unless}
use Rattle.laws.specs.Counted.{sum_of}
use Rattle.laws.proofs.First.{both, then, passed, pass}
use Rattle.laws.proofs.Flags.{both_true}
use Rattle.laws.proofs.Members.{sum_point}
use Rattle.words.specs.Words.{NONE, is_none}
use Rattle.image.specs.Sections.{Sections, node_words, node_count, tag_of, inside}
use Rattle.records.specs.Fields.{kind_of, target_place}
use Rattle.records.proofs.PassedRules.{parent, target}
use Rattle.draft.specs.Source.{with_nodes}
use Rattle.draft.specs.Draft.{tables_rule, reach_rule, shape_rule, paths_rule}
use Rattle.draft.proofs.Rules.{tables, shape}
use Rattle.draft.proofs.SameTree.{same-reach, same_shape}
use Rattle.draft.proofs.SamePaths.{same-paths}
use Rattle.target_counts.specs.Summary.{target_at, points_at, pointed_at, RightSummary, summary_rule}
use Rattle.target_counts.proofs.Points.{points_nowhere, points_here, points_elsewhere, points_once, sum_bound, sum_more, right_at_lem, right_of}
use Rattle.target_changes.specs.Change.{allowed, can_fall, can_rise, step_rule, fallen, risen, stepped, move_rule, set_target_rule, with_target, nodes_after_set, summary_after_set, summary_set, StaysRight, StepsTaken, AllowedKept, RightTakesSteps}
use Rattle.target_changes.proofs.Targets.{HasTarget, has_target, place_few, has_place, no_place_lem, allowed-inside, Put, put_word, same-tree, tables-kept, target_new, target-other, allowed_of}

-- a target that is not this node
elsewhere : (t m : ℕ) → (t ≡ m → ⊥) → 0 ≡ points_at t m
elsewhere t m d = by (ℕ_discrete t NONE)
  where
    by : Dec (t ≡ NONE) → 0 ≡ points_at t m
    by (yes e) = points_nowhere t m e
    by (no e) = points_elsewhere t m e d

-- ---- one down, one up

module _ (n : ℕ) where
  -- a node of the table or none
  abbrev Node : ℕ → Type 0
  Node t = is_none t ≡ false → t < n

  fall_at : (w : List ℕ) (t : ℕ) → n ≤ length w → Node t → can_fall w t ≡ true → (m : ℕ) → get_or (fallen w t) m 0 + points_at t m ≡ get_or w m 0
  unfolding fallen
  fall_at w t room node can m = by (is_none t) refl
    where
      by : (b : Bool) → is_none t ≡ b → get_or (cond (is_none t) w (set w t (get_or w t 0 - 1))) m 0 + points_at t m ≡ get_or w m 0
      by true e = rw (e, ← points_nowhere t m (eqb-true t NONE e)) (omega arith)
      by false e =
          let full : (get_or w t 0 ≡ 0 → ⊥) = eqb-false (get_or w t 0) 0 (not-true (eqb (get_or w t 0) 0) (rw e at can)) in
          rw e (at full (ℕ_discrete t m))
        where
          at : (get_or w t 0 ≡ 0 → ⊥) → Dec (t ≡ m) → get_or (set w t (get_or w t 0 - 1)) m 0 + points_at t m ≡ get_or w m 0
          at full (yes q) = rw (← points_here t m (eqb-false t NONE e) q, ← q, get_or-set_same w t (get_or w t 0 - 1) 0 (let l = node e in omega arith)) (omega arith)
          at full (no d) = rw (← elsewhere t m d, get_or-set_other w t m (get_or w t 0 - 1) 0 (λ q. d (sym q))) (omega arith)

  rise_at : (w : List ℕ) (t : ℕ) → n ≤ length w → Node t → (m : ℕ) → get_or (risen w t) m 0 ≡ get_or w m 0 + points_at t m
  unfolding risen
  rise_at w t room node m = by (is_none t) refl
    where
      by : (b : Bool) → is_none t ≡ b → get_or (cond (is_none t) w (set w t (get_or w t 0 + 1))) m 0 ≡ get_or w m 0 + points_at t m
      by true e = rw (e, ← points_nowhere t m (eqb-true t NONE e)) (omega arith)
      by false e = rw e (at (ℕ_discrete t m))
        where
          at : Dec (t ≡ m) → get_or (set w t (get_or w t 0 + 1)) m 0 ≡ get_or w m 0 + points_at t m
          at (yes q) = rw (← points_here t m (eqb-false t NONE e) q, ← q, get_or-set_same w t (get_or w t 0 + 1) 0 (let l = node e in omega arith))
          at (no d) = rw (← elsewhere t m d, get_or-set_other w t m (get_or w t 0 + 1) 0 (λ q. d (sym q))) (omega arith)

  fall_length : (w : List ℕ) (t : ℕ) → length (fallen w t) ≡ length w
  unfolding fallen
  fall_length w t = by (is_none t)
    where
      by : (b : Bool) → length (cond b w (set w t (get_or w t 0 - 1))) ≡ length w
      by true = refl
      by false = length-set w t (get_or w t 0 - 1)

  fall_past : (w : List ℕ) (t : ℕ) → Node t → drop n (fallen w t) ≡ drop n w
  unfolding fallen
  fall_past w t node = by (is_none t) node
    where
      by : (b : Bool) → (b ≡ false → t < n) → drop n (cond b w (set w t (get_or w t 0 - 1))) ≡ drop n w
      by true l = refl
      by false l = drop-set-lt n w t (get_or w t 0 - 1) (l refl)

  rise-past : (w : List ℕ) (t : ℕ) → Node t → drop n (risen w t) ≡ drop n w
  unfolding risen
  rise-past w t node = by (is_none t) node
    where
      by : (b : Bool) → (b ≡ false → t < n) → drop n (cond b w (set w t (get_or w t 0 + 1))) ≡ drop n w
      by true l = refl
      by false l = drop-set-lt n w t (get_or w t 0 + 1) (l refl)

  rise-length : (w : List ℕ) (t : ℕ) → length (risen w t) ≡ length w
  unfolding risen
  rise-length w t = by (is_none t)
    where
      by : (b : Bool) → length (cond b w (set w t (get_or w t 0 + 1))) ≡ length w
      by true = refl
      by false = length-set w t (get_or w t 0 + 1)

  record Stepped (w w' : List ℕ) (old new : ℕ) : Type 0 where
    words : (m : ℕ) → get_or w' m 0 + points_at old m ≡ get_or w m 0 + points_at new m
    same_length : length w' ≡ length w
    past : drop n w' ≡ drop n w

  step_words : (w : List ℕ) (old new : ℕ) → n ≤ length w → Node old → Node new → step_rule w old new ≡ 0 → Stepped w (stepped w old new) old new
  unfolding step_rule stepped
  step_words w old new room o e rule = by (eqb old new) refl
    where
      by : (b : Bool) → eqb old new ≡ b → Stepped w (cond (eqb old new) w (risen (fallen w old) new)) old new
      by true q = let z = eqb-true old new q in record { words = λ m. rw (q, z); same_length = rw q; past = rw q }
      by false q =
          let u : unless (can_fall w old && can_rise w new) 27 ≡ 0 = rw q at rule in
          let c = both_true (can_fall w old) (can_rise w new) (passed _ 26 u) in
          let l = fall_length w old in
          record {
            words = λ m.
                let a = fall_at w old room o c.0 m in
                let b = rise_at (fallen w old) new (omega arith) e m in
                rw q (omega arith);
            same_length = rw q (rise-length (fallen w old) new ∙ l);
            past = rw q (rise-past (fallen w old) new e ∙ fall_past w old o);
          }

-- ---- the theorem

-- what a change that is taken shows
pub record Taken (s : Sections) (summary : List ℕ) (i t : ℕ) : Type 0 where
  pub rule : tables_rule s ≡ 0
  pub room : node_count s ≤ length summary
  pub there : i < node_count s
  pub may : allowed s (kind_of (tag_of s i)) t ≡ true
  pub step : step_rule summary (target_at s i) t ≡ 0

pub taken : (s : Sections) (summary : List ℕ) (i t : ℕ) → set_target_rule s summary i t ≡ 0 → Taken s summary i t
unfolding set_target_rule move_rule summary_rule
taken s summary i t h =
    let a = both _ _ h in
    let b = both _ _ a.1 in
    let c = both _ _ b.1 in
    let d = both_true (inside s i) _ (passed _ 17 c.0) in
    record {
      rule = a.0;
      room = leb-true _ _ (passed _ 26 b.0);
      there = ltb-true _ _ (both_true (ltb i (node_count s)) _ d.0).0;
      may = d.1;
      step = c.1;
    }

module _ (s : Sections) (summary : List ℕ) (i t : ℕ) where
  -- with the node words and the summary on return
  record Stays (ns w : List ℕ) : Type 0 where
    right : RightSummary s summary → RightSummary (with_nodes s ns) w
    target : set_target_rule s summary i t ≡ 0 → target_at (with_nodes s ns) i ≡ t
    others : (j : ℕ) → (j ≡ i → ⊥) → target_at (with_nodes s ns) j ≡ target_at s j
    words : (k : ℕ) → (k ≡ i * node_words s.version + (3 + target_place (kind_of (tag_of s i))) → ⊥) → get_or ns k 0 ≡ get_or s.nodes k 0
    past : drop (node_count s) w ≡ drop (node_count s) summary
    rule : tables_rule (with_nodes s ns) ≡ tables_rule s
    reach : reach_rule (with_nodes s ns) ≡ reach_rule s
    shapes : shape_rule (with_nodes s ns) ≡ shape_rule s
    paths : shape_rule s ≡ 0 → paths_rule (with_nodes s ns) ≡ paths_rule s

  module _ (k : Taken s summary i t) where
    aim : HasTarget (kind_of (tag_of s i))
    aim = has_target s (kind_of (tag_of s i)) t k.may

    abbrev after : List ℕ
    after = with_target s i t

    put : Put s after i (target_place (kind_of (tag_of s i))) t
    put = put_word s i _ t (place_few (kind_of (tag_of s i)) aim) k.there

    old_node : is_none (target_at s i) ≡ false → target_at s i < node_count s
    old_node e = (target s i ((tables s k.rule).fields i k.there) (eqb-false (target_at s i) NONE e)).below

    new_node : is_none t ≡ false → t < node_count s
    new_node = allowed-inside s (kind_of (tag_of s i)) t k.may

    steps : Stepped (node_count s) summary (stepped summary (target_at s i) t) (target_at s i) t
    steps = step_words (node_count s) summary (target_at s i) t k.room old_node new_node k.step

    pointed : (m : ℕ) → pointed_at (with_nodes s after) m + points_at (target_at s i) m ≡ pointed_at s m + points_at t m
    unfolding pointed_at
    pointed m =
        let e = sum_point (node_count s) i (λ j. points_at (target_at (with_nodes s after) j) m) (λ j. points_at (target_at s j) m) k.there
        (λ j l d. rw (target-other s after i t aim put j d)) in
        rw put.len (e ∙ rw (target_new s after i t aim put))

    stays : Stays after (stepped summary (target_at s i) t)
    stays =
        record {
          right = λ r. right_of (with_nodes s after) (stepped summary (target_at s i) t) (rw (put.len, steps.same_length) k.room)
              (λ m h.
              let l : m < node_count s = rw put.len at h in
              let a = steps.words m in
              let b = pointed m in
              let c = right_at_lem s summary r m l in
              omega arith);
          target = λ e. target_new s after i t aim put;
          others = target-other s after i t aim put;
          words = λ m d. get_or-set_other s.nodes _ m t 0 d;
          past = steps.past;
          rule = tables-kept s after i t aim put k.may k.rule ∙ sym k.rule;
          reach = same-reach s after (same-tree s after i t aim put);
          shapes = same_shape s after (same-tree s after i t aim put);
          paths = λ h. same-paths s after (same-tree s after i t aim put)
              (λ j l m. let u = parent s j m ((shape s h).parents j l) in (u.node.below, eqb-true _ _ u.container));
        }

  pub stays-right : StaysRight s summary i t
  unfolding nodes_after_set summary_after_set
  stays-right = by (set_target_rule s summary i t) refl
    where
      on_return : (ns w : List ℕ) → nodes_after_set (set_target_rule s summary i t) s i t ≡ ns → summary_set s summary i t ≡ w → Stays ns w → StaysRight s summary i t
      on_return ns w e h x =
          record {
            right = λ r. rw (e, h) (x.right r);
            target = λ q. rw e (x.target q);
            others = λ j d. rw e (x.others j d);
            words = λ k d. rw e (x.words k d);
            past = rw h x.past;
            tables = rw e x.rule;
            reach = rw e x.reach;
            shape = rw e x.shapes;
            paths = λ q. rw e (x.paths q);
          }

      by : (r : ℕ) → set_target_rule s summary i t ≡ r → StaysRight s summary i t
      by zero q = let k = taken s summary i t q in on_return (after k) (stepped summary (target_at s i) t) (rw q) (rw q) (stays k)
      by (suc r) q =
          on_return s.nodes summary (rw (q, ne_eqb (suc r) 0 (λ z. omega arith))) (rw (q, ne_eqb (suc r) 0 (λ z. omega arith)))
          record {
            right = λ r. r;
            target = λ z. absurd (omega arith);
            others = λ j d. refl;
            words = λ k d. refl;
            past = refl;
            rule = refl;
            reach = refl;
            shapes = refl;
            paths = λ q. refl;
          }

  -- ---- the steps, word by word

  pub steps-taken : set_target_rule s summary i t ≡ 0 → StepsTaken s summary i t
  unfolding summary_after_set stepped
  steps-taken q =
      let k = taken s summary i t q in
      record {
        same = λ e. after_is ∙ kept e;
        down = λ d p. rw after_is (one_down _ _ _ _ ((steps k).words (target_at s i)) (sym (points_here (target_at s i) (target_at s i) p refl)) (sym (elsewhere t (target_at s i) (λ e. d (sym e)))));
        up = λ d p. rw after_is (one_up _ _ _ _ ((steps k).words t) (sym (elsewhere (target_at s i) t d)) (sym (points_here t t p refl)));
        rest = λ n d p. rw after_is (none_up _ _ _ _ ((steps k).words n) (sym (elsewhere (target_at s i) n (λ e. d (sym e)))) (sym (elsewhere t n (λ e. p (sym e)))));
      }
    where
      after_is : summary_set s summary i t ≡ stepped summary (target_at s i) t
      after_is = rw q

      kept : target_at s i ≡ t → stepped summary (target_at s i) t ≡ summary
      kept e = rw (eq-eqb (target_at s i) t e)

      one_down : (a b x y : ℕ) → a + x ≡ b + y → x ≡ 1 → y ≡ 0 → a + 1 ≡ b
      one_down a b x y e p q = omega arith

      one_up : (a b x y : ℕ) → a + x ≡ b + y → x ≡ 0 → y ≡ 1 → a ≡ b + 1
      one_up a b x y e p q = omega arith

      none_up : (a b x y : ℕ) → a + x ≡ b + y → x ≡ 0 → y ≡ 0 → a ≡ b
      none_up a b x y e p q = omega arith

-- ---- beside a right summary every step can be taken

-- of n numbers one of which is 0 and none above 1
sum_less : (n i : ℕ) (g : ℕ → ℕ) → ((j : ℕ) → g j ≤ 1) → i < n → g i ≡ 0 → sum_of n g < n
unfolding sum_of
sum_less zero i g h l e = absurd (omega arith)
sum_less (suc n) i g h l e = by (ℕ_discrete i n) (sum_less n i g h)
  where
    by : Dec (i ≡ n) → (i < n → g i ≡ 0 → sum_of n g < n) → sum_of n g + g n < suc n
    by (yes q) next = let z : g n ≡ 0 = sym (ap g q) ∙ e in let y = sum_bound n g h in omega arith
    by (no d) next = let z = next (omega arith) e in let y = h n in omega arith

pub right_takes_steps : RightTakesSteps
unfolding set_target_rule move_rule summary_rule step_rule unless
right_takes_steps s w rule few room right i t l may =
    then _ _ rule (then _ _ (pass _ 27 (le-leb _ _ room)) (then _ _ (pass (inside s i && allowed s (kind_of (tag_of s i)) t) 18 (rw (inside_of, may))) (by (eqb (target_at s i) t) refl)))
  where
    inside_of : inside s i ≡ true
    inside_of = rw (lt-ltb i (node_count s) l, ne_eqb i NONE (λ e. omega arith))

    old_node : is_none (target_at s i) ≡ false → target_at s i < node_count s
    old_node e = (target s i ((tables s rule).fields i l) (eqb-false (target_at s i) NONE e)).below

    falls : (b : Bool) → is_none (target_at s i) ≡ b → (b || not (eqb (get_or w (target_at s i) 0) 0)) ≡ true
    falls true e = refl
    falls false e = ap not (ne_eqb (get_or w (target_at s i) 0) 0 (λ z. none-zero z (named (old_node e))))
      where
        named : target_at s i < node_count s → 1 ≤ get_or w (target_at s i) 0
        named k = rw (right_at_lem s w right (target_at s i) k) (one k)
          where
            one : target_at s i < node_count s → 1 ≤ pointed_at s (target_at s i)
            one k = unfold pointed_at in
                let z : sum_of (suc i) (λ j. points_at (target_at s j) (target_at s i)) ≤ sum_of (node_count s) (λ j. points_at (target_at s j) (target_at s i)) =
                sum_more (suc i) (node_count s) (λ j. points_at (target_at s j) (target_at s i)) (omega arith) in
                let y = ends_one in
                omega arith
              where
                none-not : is_none (target_at s i) ≡ false → target_at s i ≡ NONE → ⊥
                none-not e = eqb-false (target_at s i) NONE e

                ends_one : sum_of (suc i) (λ j. points_at (target_at s j) (target_at s i)) ≡ sum_of i (λ j. points_at (target_at s j) (target_at s i)) + 1
                ends_one = unfold sum_of in ap (λ (x : ℕ). sum_of i (λ j. points_at (target_at s j) (target_at s i)) + x) (sym (points_here (target_at s i) (target_at s i) (none-not e) refl))

        none-zero : get_or w (target_at s i) 0 ≡ 0 → 1 ≤ get_or w (target_at s i) 0 → ⊥
        none-zero z k = omega arith

    rises : (target_at s i ≡ t → ⊥) → (b : Bool) → is_none t ≡ b → (b || ltb (get_or w t 0) NONE) ≡ true
    rises d true e = refl
    rises d false e = lt-ltb (get_or w t 0) NONE (rw (right_at_lem s w right t k) (less k))
      where
        k : t < node_count s
        k = allowed-inside s (kind_of (tag_of s i)) t may e

        less : t < node_count s → pointed_at s t < NONE
        less k = unfold pointed_at in
            let z = sum_less (node_count s) i (λ j. points_at (target_at s j) t) (λ j. points_once (target_at s j) t) l (apart (ℕ_discrete (target_at s i) NONE)) in
            omega arith
          where
            apart : Dec (target_at s i ≡ NONE) → points_at (target_at s i) t ≡ 0
            apart (yes q) = sym (points_nowhere (target_at s i) t q)
            apart (no q) = sym (points_elsewhere (target_at s i) t q d)

    by : (b : Bool) → eqb (target_at s i) t ≡ b → cond b 0 (unless (can_fall w (target_at s i) && can_rise w t) 27) ≡ 0
    by true e = refl
    by false e = rw (falls (is_none (target_at s i)) refl, rises (eqb-false (target_at s i) t e) (is_none t) refl)

-- ---- what may stand there, by row 19

pub allowed-kept : AllowedKept
allowed-kept s i t rule h =
    record {
      kept = λ e. let a = has_target s (kind_of (tag_of s i)) t e in tables-kept s (with_target s i t) i t a (put a) e rule;
      only = λ d e. let a = has_place (kind_of (tag_of s i)) d in allowed_of s (with_target s i t) i t a (put a) h e;
      none = no_place_lem s (kind_of (tag_of s i)) t;
    }
  where
    put : HasTarget (kind_of (tag_of s i)) → Put s (with_target s i t) i (target_place (kind_of (tag_of s i))) t
    put a = put_word s i _ t (place_few (kind_of (tag_of s i)) a) h
