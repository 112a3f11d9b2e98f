-- The depth is the number of parent steps: an answer counts them, and what is counted is answered.
use Rattle.std.specs.Prelude.{None, Option, Some, ℕ}
use Prim.Native.Nat.{ℕ, zero, suc, ◌+◌, ◌-◌, ◌≤◌, ◌<◌}
use mathlib.Core.Path.{◌≡◌, refl, sym, ap, ◌∙◌, subst}
use mathlib.Core.List.{List, [], ◌∷◌}
use mathlib.Core.Bool.{Bool, true, false}
use native.Mathlib.Omega.{arith}
use native.Mathlib.Decide.{ℕ_discrete}
use lib.ListN.{length}
use borrow.Author.Tests.{eq-eqb, ne_eqb}
use Rattle.laws.specs.Lists.{has}
use Rattle.laws.proofs.Members.{All, Distinct, pigeon}
use Rattle.image.specs.Sections.{Sections, node_count, parent_of, inside}
use Rattle.image.proofs.Tests.{inside-true}
use Rattle.tree.specs.Reach.{climb}
use Rattle.views.specs.Answers.{of_count}
use Rattle.views.proofs.Given.{count-given, count-refused}
use Rattle.depth.specs.Depth.{one_more, depth_from, depth_of, StepsToRoot, DepthExact}

none_of : (d : ℕ) → None ≡ Some d → ⊥
none_of d h = let z : ◌≡◌ {A = ℕ} 0 1 = cc in omega arith

pub of_same : (a b : ℕ) → Some a ≡ Some b → a ≡ b
of_same a b h = cc

-- ---- the definition by its tests

module _ (s : Sections) (n i : ℕ) where
  pub depth-outside : inside s i ≡ false → depth_from (suc n) s i ≡ None
  unfolding depth_from
  depth-outside h = rw h

  pub depth-root : inside s i ≡ true → i ≡ 0 → depth_from (suc n) s i ≡ Some 0
  unfolding depth_from
  depth-root h e = rw (h, eq-eqb i 0 e)

  pub depth-above : inside s i ≡ true → (i ≡ 0 → ⊥) → depth_from (suc n) s i ≡ one_more (depth_from n s (parent_of s i))
  unfolding depth_from
  depth-above h d = rw (h, ne_eqb i 0 d)

-- a number outside, however many nodes may be looked at
pub outside-none : (s : Sections) (n i : ℕ) → inside s i ≡ false → depth_from n s i ≡ None
outside-none s zero i h = unfold depth_from in refl
outside-none s (suc n) i h = depth-outside s n i h

module _ (s : Sections) where
  -- ---- steps one by one

  steps-root : (i : ℕ) → inside s i ≡ true → i ≡ 0 → StepsToRoot s i 0
  unfolding climb
  steps-root i h e = record { arrives = e; before = λ k l. absurd (omega arith); nodes = at }
    where
      at : (k : ℕ) → k ≤ 0 → inside s (climb s k i) ≡ true
      at zero l = h
      at (suc k) l = absurd (omega arith)

  steps-above : (i d : ℕ) → inside s i ≡ true → (i ≡ 0 → ⊥) → StepsToRoot s (parent_of s i) d → StepsToRoot s i (suc d)
  unfolding climb
  steps-above i d h z t = record { arrives = t.arrives; before = before; nodes = nodes }
    where
      before : (k : ℕ) → k < suc d → climb s k i ≡ 0 → ⊥
      before zero l e = z e
      before (suc k) l e = t.before k (omega arith) e

      nodes : (k : ℕ) → k ≤ suc d → inside s (climb s k i) ≡ true
      nodes zero l = h
      nodes (suc k) l = t.nodes k (omega arith)

  pub steps-parent : (i d : ℕ) → StepsToRoot s i (suc d) → StepsToRoot s (parent_of s i) d
  unfolding climb
  steps-parent i d t =
      record { arrives = t.arrives; before = λ k l e. t.before (suc k) (omega arith) e; nodes = λ k l. t.nodes (suc k) (omega arith) }

  -- ---- what is answered is so

  one_more_lem : (i d : ℕ) → inside s i ≡ true → (i ≡ 0 → ⊥) → (c : Option ℕ) → ((m : ℕ) → c ≡ Some m → StepsToRoot s (parent_of s i) m)
      → one_more c ≡ Some d → StepsToRoot s i d
  one_more_lem i d h z (Some m) above e = subst (StepsToRoot s i) (of_same (suc m) d e) (steps-above i m h z (above m refl))
  one_more_lem i d h z None above e = absurd (none_of d e)

  answered : (n i d : ℕ) → depth_from n s i ≡ Some d → StepsToRoot s i d
  answered zero i d e = absurd (none_of d (unfold depth_from in e))
  answered (suc n) i d e = by (inside s i) refl (ℕ_discrete i 0) (λ m q. answered n (parent_of s i) m q)
    where
      by : (b : Bool) → inside s i ≡ b → Dec (i ≡ 0) → ((m : ℕ) → depth_from n s (parent_of s i) ≡ Some m → StepsToRoot s (parent_of s i) m)
          → StepsToRoot s i d
      by false h z above = absurd (none_of d (sym (depth-outside s n i h) ∙ e))
      by true h (yes z) above = subst (StepsToRoot s i) (of_same 0 d (sym (depth-root s n i h z) ∙ e)) (steps-root i h z)
      by true h (no z) above = one_more_lem i d h z (depth_from n s (parent_of s i)) above (sym (depth-above s n i h z) ∙ e)

  -- ---- what is so is answered, where enough nodes are looked at

  counted : (n i d : ℕ) → StepsToRoot s i d → d < n → depth_from n s i ≡ Some d
  unfolding climb
  counted zero i d t h = absurd (omega arith)
  counted (suc n) i zero t h = depth-root s n i (t.nodes 0 (omega arith)) t.arrives
  counted (suc n) i (suc d) t h =
      depth-above s n i (t.nodes 0 (omega arith)) (t.before 0 (omega arith)) ∙ ap one_more (counted n (parent_of s i) d (steps-parent i d t) (omega arith))

  -- ---- steps to node 0 lead to no node twice, so there are fewer than nodes

  climb-plus : (a b i : ℕ) → climb s (a + b) i ≡ climb s b (climb s a i)
  unfolding climb
  climb-plus zero b i = let e : zero + b ≡ b = omega arith in ap (λ (n : ℕ). climb s n i) e
  climb-plus (suc a) b i = let e : suc a + b ≡ suc (a + b) = omega arith in ap (λ (n : ℕ). climb s n i) e ∙ climb-plus a b (parent_of s i)

  -- one step more, taken last
  pub climb-next : (k i : ℕ) → climb s (suc k) i ≡ parent_of s (climb s k i)
  unfolding climb
  climb-next zero i = refl
  climb-next (suc k) i = climb-next k (parent_of s i)

  -- the nodes that d steps come from and lead to
  abbrev way : ℕ → ℕ → List ℕ
  way zero i = i ∷ []
  way (suc d) i = i ∷ way d (parent_of s i)

  way_length : (d i : ℕ) → length (way d i) ≡ suc d
  way_length zero i = refl
  way_length (suc d) i = ap suc (way_length d (parent_of s i))

  way_lacks : (x d i : ℕ) → ((k : ℕ) → k ≤ d → climb s k i ≡ x → ⊥) → has x (way d i) ≡ false
  unfolding climb has
  way_lacks x zero i h = rw (ne_eqb x i (λ e. h 0 (omega arith) (sym e)))
  way_lacks x (suc d) i h = rw (ne_eqb x i (λ e. h 0 (omega arith) (sym e)), way_lacks x d (parent_of s i) (λ k l e. h (suc k) (omega arith) e))

  -- a node that came back would have been nearer to node 0 the first time
  never_back : (i d : ℕ) → StepsToRoot s i (suc d) → (k : ℕ) → k ≤ d → climb s (suc k) i ≡ i → ⊥
  never_back i d t k l e =
      let n : suc k + (d - k) ≡ suc d = omega arith in
      t.before (d - k) (omega arith)
      (ap (climb s (d - k)) (sym e) ∙ sym (climb-plus (suc k) (d - k) i) ∙ ap (λ (m : ℕ). climb s m i) n ∙ t.arrives)

  way_distinct : (i d : ℕ) → StepsToRoot s i d → Distinct (way d i)
  unfolding climb has
  way_distinct i zero t = (refl, tt)
  way_distinct i (suc d) t = (way_lacks i d (parent_of s i) (never_back i d t), way_distinct (parent_of s i) d (steps-parent i d t))

  way_inside : (i d : ℕ) → StepsToRoot s i d → All (λ x. x < node_count s) (way d i)
  unfolding climb
  way_inside i zero t = ((inside-true (node_count s) i (t.nodes 0 (omega arith))).0, tt)
  way_inside i (suc d) t = ((inside-true (node_count s) i (t.nodes 0 (omega arith))).0, way_inside (parent_of s i) d (steps-parent i d t))

  few : (i d : ℕ) → StepsToRoot s i d → d < node_count s
  few i d t = subst (λ (n : ℕ). n ≤ node_count s) (way_length d i) (pigeon (node_count s) (way d i) (way_distinct i d t) (way_inside i d t))

  -- ---- all of it

  pub depth-counted : (i d : ℕ) → StepsToRoot s i d → depth_of s i ≡ Some d
  unfolding depth_of
  depth-counted i d t = counted (node_count s) i d t (few i d t)

  pub depth-exact : (i : ℕ) → DepthExact s i
  unfolding depth_of
  depth-exact i =
      record {
        answered = λ d e. answered (node_count s) i d (count-given (depth_of s i) d e);
        counted = λ d t. ap of_count (depth-counted i d t);
        few = λ d t. few i d t;
        missed = λ e d t. none_of d (sym (count-refused (depth_of s i) e) ∙ depth-counted i d t);
        missing = λ h. ap of_count (by (depth_of s i) refl h);
      }
    where
      by : (c : Option ℕ) → depth_of s i ≡ c → ((d : ℕ) → StepsToRoot s i d → ⊥) → c ≡ None
      by (Some d) e h = absurd (h d (answered (node_count s) i d e))
      by None e h = refl
