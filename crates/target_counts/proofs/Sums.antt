-- The words of a summary add up to the number of targets present.
use Prim.Native.Nat.{ℕ, zero, suc, ◌+◌, ◌≤◌, ◌<◌}
use mathlib.Core.Path.{◌≡◌, refl, sym, ◌∙◌}
use mathlib.Core.Bool.{Bool, true, false, cond}
use native.Mathlib.Omega.{arith}
use native.Mathlib.Decide.{ℕ_discrete}
use lib.Dec.{eqb}
use lib.ListN.{get_or}
use borrow.Author.Tests.{eq-eqb, ne_eqb, eqb-false}
use Rattle.laws.specs.Counted.{sum_of}
use Rattle.laws.proofs.First.{both}
use Rattle.laws.proofs.Members.{sum_ext, sum_add}
use Rattle.words.specs.Words.{NONE, is_none}
use Rattle.image.specs.Sections.{Sections, node_count}
use Rattle.image.specs.Header.{sections_of}
use Rattle.records.specs.Records.{fields_rule}
use Rattle.records.proofs.PassedRules.{target, all_fields}
use Rattle.load.specs.Load.{records_rule, sections_rule, load_rule}
use Rattle.draft.proofs.Rules.{tables}
use Rattle.target_counts.specs.Summary.{target_at, points_at, pointed_at, targets_present, AddsUp, DraftAddsUp, AcceptedAddsUp}
use Rattle.target_counts.proofs.Points.{sum_none, right_at_lem}

-- sums may be taken in either order
sum_turned : (m n : ℕ) (g : ℕ → ℕ → ℕ) → sum_of m (λ i. sum_of n (λ j. g i j)) ≡ sum_of n (λ j. sum_of m (λ i. g i j))
unfolding sum_of
sum_turned zero n g = sym (sum_none n _ (λ j. refl))
sum_turned (suc m) n g = rw (sum_turned m n g) (sym (sum_add n (λ j. sum_of m (λ i. g i j)) (λ j. g m j)))

-- one number below n is t, if t is below n
one_point : (n t : ℕ) → t < n → sum_of n (λ j. cond (eqb t j) 1 0) ≡ 1
unfolding sum_of
one_point zero t h = absurd (omega arith)
one_point (suc n) t h = by (ℕ_discrete t n) (one_point n t)
  where
    none : (m : ℕ) → m ≤ t → sum_of m (λ j. cond (eqb t j) 1 0) ≡ 0
    none m l = sum_ext m (λ j. cond (eqb t j) 1 0) (λ j. 0) (λ j k. rw (ne_eqb t j (λ e. omega arith))) ∙ sum_none m _ (λ j. refl)

    by : Dec (t ≡ n) → (t < n → sum_of n (λ j. cond (eqb t j) 1 0) ≡ 1) → sum_of n (λ j. cond (eqb t j) 1 0) + cond (eqb t n) 1 0 ≡ 1
    by (yes e) next = rw (none n (omega arith), eq-eqb t n e)
    by (no d) next = rw (next (omega arith), ne_eqb t n d)

-- a target that is present and below n is counted once, one that is absent never
point_once : (n t : ℕ) → (is_none t ≡ false → t < n) → sum_of n (points_at t) ≡ cond (is_none t) 0 1
unfolding points_at
point_once n t h = by (is_none t) h
  where
    by : (b : Bool) → (b ≡ false → t < n) → sum_of n (λ j. cond b 0 (cond (eqb t j) 1 0)) ≡ cond b 0 1
    by true l = sum_none n _ (λ j. refl)
    by false l = one_point n t (l refl)

-- where the fields of every node are right
pub adds_up : (s : Sections) → ((i : ℕ) → i < node_count s → fields_rule s i ≡ 0) → AddsUp s
unfolding pointed_at targets_present
adds_up s passes summary right =
    sum_ext (node_count s) (λ n. get_or summary n 0) (pointed_at s) (right_at_lem s summary right)
    ∙ sum_turned (node_count s) (node_count s) (λ m i. points_at (target_at s i) m)
    ∙ sum_ext (node_count s) (λ i. sum_of (node_count s) (points_at (target_at s i))) (λ i. cond (is_none (target_at s i)) 0 1)
    (λ i h. point_once (node_count s) (target_at s i) (λ e. (target s i (passes i h) (eqb-false (target_at s i) NONE e)).below))

pub draft-adds_up : DraftAddsUp
draft-adds_up s h = adds_up s (tables s h).fields

pub accepted-adds_up : AcceptedAddsUp
unfolding load_rule sections_rule records_rule
accepted-adds_up bs work h =
    let rules = (both _ _ (both _ _ (both _ _ h).1).1).1 in
    let records = (both _ _ (both _ _ rules).0).1 in
    adds_up (sections_of bs) (all_fields (sections_of bs) (both _ _ records).0)
