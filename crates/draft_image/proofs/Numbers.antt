-- Which numbers the rules of a draft give: what holds of 0 and of a rule's number holds of its answer.
use Prim.Native.Nat.{ℕ, zero, suc, ◌<◌}
use mathlib.Core.Path.{◌≡◌, refl}
use mathlib.Core.Bool.{Bool, true, false}
use native.Mathlib.Omega.{arith}
use Rattle.laws.specs.Refusal.{unless, counts_as, ◌▸◌, first_of}
use Rattle.image.specs.Sections.{Sections, node_count, child_count, named_count, definition_count, item_count}
use Rattle.draft.specs.Draft.{draft_node_rule, draft_child_rule, draft_named_rule, draft_definition_rule, draft_item_rule, tables_rule, reach_rule, relation_rule, order_rule, shape_rule, path_rule, paths_rule}
use Rattle.definitions.specs.Definitions.{number_of_items}
use Rattle.draft_image.specs.Encode.{draft_rule, untouched}

-- P holds of 0 and of k
module _ (P : ℕ → Type 0) (k : ℕ) (none : P 0) (some : P k) where
  pub of_test : (t : Bool) → P (unless t k)
  unfolding unless
  of_test true = none
  of_test false = some

  pub of_count_lem : (r : ℕ) → P (counts_as k r)
  unfolding counts_as
  of_count_lem zero = none
  of_count_lem (suc r) = some

-- P holds of 0
module _ (P : ℕ → Type 0) where
  pub of_both : (a b : ℕ) → P a → P b → P (a ▸ b)
  unfolding ◌▸◌
  of_both zero b p q = q
  of_both (suc a) b p q = p

  pub of_first : P 0 → (n : ℕ) (f : ℕ → ℕ) → ((i : ℕ) → P (f i)) → P (first_of n f)
  unfolding first_of
  of_first z zero f p = z
  of_first z (suc n) f p = of_both (first_of n f) (f n) (of_first z n f p) (p n)

module _ (s : Sections) (P : ℕ → Type 0) (none : P 0) where
  -- ---- 19

  module _ (some : P 19) where
    test : (t : Bool) → P (unless t 19)
    test t = of_test P 19 none some t

    count : (r : ℕ) → P (counts_as 19 r)
    count r = of_count_lem P 19 none some r

    two : (a b : ℕ) → P a → P b → P (a ▸ b)
    two a b p q = of_both P a b p q

    all : (n : ℕ) (f : ℕ → ℕ) → ((i : ℕ) → P (f i)) → P (first_of n f)
    all n f p = of_first P none n f p

    pub of_tables : P (tables_rule s)
    unfolding tables_rule draft_node_rule draft_child_rule draft_named_rule draft_definition_rule draft_item_rule
    of_tables =
        two _ _ (test _)
        (two _ _ (all (node_count s) (draft_node_rule s) (λ i. two _ _ (count _) (test _)))
        (two _ _ (test _)
        (two _ _ (all (child_count s) (draft_child_rule s) (λ i. test _))
        (two _ _ (all (named_count s) (draft_named_rule s) (λ i. two _ _ (test _) (test _)))
        (two _ _ (all (definition_count s) (draft_definition_rule s) (λ i. two _ _ (test _) (test _)))
        (two _ _ (test _) (all (item_count s) (draft_item_rule s) (λ i. test _))))))))

  -- ---- 20 to 22

  pub of_reach : P 20 → P (reach_rule s)
  unfolding reach_rule
  of_reach some = of_test P 20 none some _

  pub of_shape : P 21 → P (shape_rule s)
  unfolding shape_rule relation_rule order_rule
  of_shape some =
      of_both P _ _ (of_test P 21 none some _)
      (of_both P _ _
      (of_first P none (node_count s) (relation_rule s) (λ i. of_both P _ _ (of_count_lem P 21 none some _) (of_count_lem P 21 none some _)))
      (of_first P none (definition_count s) (order_rule s)
      (λ d. of_both P _ _ (of_test P 21 none some _) (of_first P none (number_of_items s d) _ (λ j. of_test P 21 none some _)))))

  pub of_paths : P 22 → P (paths_rule s)
  unfolding paths_rule path_rule
  of_paths some =
      of_first P none (node_count s) (path_rule s) (λ i. of_both P _ _ (of_test P 22 none some _) (of_test P 22 none some _))

-- ---- the work words: 19 leaves them, 20 to 23 clear them

pub tables_leave : (s : Sections) → (tables_rule s ≡ 0 → ⊥) → untouched (tables_rule s) ≡ true
tables_leave s = of_tables s (λ r. (r ≡ 0 → ⊥) → untouched r ≡ true) (λ d. absurd (d refl)) (λ d. refl)

pub reach_clears : (s : Sections) → untouched (reach_rule s) ≡ false
reach_clears s = of_reach s (λ r. untouched r ≡ false) refl refl

pub shape_clears : (s : Sections) → untouched (shape_rule s) ≡ false
shape_clears s = of_shape s (λ r. untouched r ≡ false) refl refl

pub paths-clear : (s : Sections) → untouched (paths_rule s) ≡ false
paths-clear s = of_paths s (λ r. untouched r ≡ false) refl refl

pub room_clears : (t : Bool) → untouched (unless t 23) ≡ false
room_clears t = of_test (λ r. untouched r ≡ false) 23 refl refl t

pub both-clear : (a b : ℕ) → untouched a ≡ false → untouched b ≡ false → untouched (a ▸ b) ≡ false
both-clear a b p q = of_both (λ r. untouched r ≡ false) a b p q

-- ---- only the output's length gives 23

pub reach-below : (s : Sections) → reach_rule s < 23
reach-below s = of_reach s (λ r. r < 23) (omega arith) (omega arith)

pub shape-below : (s : Sections) → shape_rule s < 23
shape-below s = of_shape s (λ r. r < 23) (omega arith) (omega arith)

pub paths-below : (s : Sections) → paths_rule s < 23
paths-below s = of_paths s (λ r. r < 23) (omega arith) (omega arith)

two_below : (a b : ℕ) → a < 23 → b < 23 → (a ▸ b) < 23
two_below a b p q = of_both (λ r. r < 23) a b p q

test_below : (t : Bool) (k : ℕ) → k < 23 → unless t k < 23
test_below t k h = of_test (λ r. r < 23) k (omega arith) h t

pub draft-below : (ink : ℕ) (s : Sections) (work : ℕ) → draft_rule ink s work < 23
unfolding draft_rule
draft-below ink s work =
    two_below _ _ (test_below _ 3 (omega arith))
    (two_below _ _ (of_tables s (λ r. r < 23) (omega arith) (omega arith))
    (two_below _ _ (test_below _ 7 (omega arith)) (two_below _ _ (reach-below s) (two_below _ _ (shape-below s) (paths-below s)))))

-- where 23 is given, the rules before it are kept
pub room-left : (a b : ℕ) → a < 23 → (a ▸ b) ≡ 23 → (a ≡ 0) × (b ≡ 23)
unfolding ◌▸◌
room-left zero b h e = (refl, e)
room-left (suc a) b h e = absurd (omega arith)
