-- What is refused of one node in plain words, both ways.
use Rattle.std.specs.Prelude.{None, Option, Some, ℕ}
use Prim.Native.Nat.{ℕ, suc}
use mathlib.Core.Path.{◌≡◌, refl, sym, ap, ◌∙◌}
use mathlib.Core.Bool.{Bool, true, false, ◌||◌, not, true≢false}
use native.Mathlib.Omega.{arith}
use borrow.Author.Tests.{eq-eqb, eqb-true, eqb-false, ne_eqb}
use Rattle.laws.specs.Refusal.{unless}
use Rattle.laws.proofs.First.{passed, pass}
use Rattle.image.specs.Sections.{Sections, tag_of, is_container}
use Rattle.image.specs.Tags.{container_tag}
use Rattle.draft.specs.PathList.{follows}
use Rattle.target_finding.specs.Targets.{PathList, path_end, ends_in_index, needs_container, end_rule, target_rule}
use Rattle.resolver_rules.specs.ResolverRules.{ListRight, Follows, TargetThere, NoNodeThere, NoContainerThere}
use Rattle.resolver_rules.proofs.Paths.{right_may, follower, entry_of, due_right, right_due}

-- ---- the end of the path of entry k, which is of node i

module _ (s : Sections) (p : PathList) (i k : ℕ) where
  abbrev due : Bool
  due = needs_container (tag_of s i) (ends_in_index p k)

  end_there : (x : Option ℕ) → path_end s p i k ≡ x → end_rule s due x ≡ 0 → TargetThere s p i k
  end_there None e h = absurd (omega arith)
  end_there (Some n) e h =
      record { node = n; end = e; container = λ d. eqb-true (tag_of s n) container_tag (by due (right_due s p i k d) (passed _ 25 h)) }
    where
      by : (b : Bool) → b ≡ true → (not b || is_container s n) ≡ true → is_container s n ≡ true
      by true c q = q
      by false c q = absurd (true≢false (sym c))

  there_end : TargetThere s p i k → end_rule s due (path_end s p i k) ≡ 0
  there_end t = ap (end_rule s due) t.end ∙ pass _ 26 (by due refl)
    where
      by : (b : Bool) → due ≡ b → (not b || is_container s t.node) ≡ true
      by true e = eq-eqb (tag_of s t.node) container_tag (t.container (due_right s p i k e))
      by false e = refl

  end_missing : (x : Option ℕ) → end_rule s due x ≡ 25 → x ≡ None
  end_missing None h = refl
  end_missing (Some n) h = absurd (by (not due || is_container s n) h)
    where
      by : (b : Bool) → unless b 26 ≡ 25 → ⊥
      by true q = unfold unless in omega arith
      by false q = unfold unless in omega arith

  end_unfit : Follows s p i k → (x : Option ℕ) → path_end s p i k ≡ x → end_rule s due x ≡ 26 → NoContainerThere s p i
  end_unfit g None e h = absurd (omega arith)
  end_unfit g (Some n) e h = by due refl (is_container s n) refl h
    where
      by : (b : Bool) → due ≡ b → (c : Bool) → is_container s n ≡ c → unless (not b || c) 26 ≡ 26 → NoContainerThere s p i
      by true d false c q =
          record { entry = k; follows = g; due = due_right s p i k d; node = n; end = e; other = eqb-false (tag_of s n) container_tag c }
      by true d true c q = unfold unless in absurd (omega arith)
      by false d c f q = unfold unless in absurd (omega arith)

-- ---- a node

module _ (s : Sections) (p : PathList) (l : ListRight s p) (i : ℕ) where
  -- the rule of a node that follows the path of entry k
  rule_of : (k : ℕ) → Follows s p i k → target_rule s p i ≡ end_rule s (due s p i k) (path_end s p i k)
  unfolding target_rule
  rule_of k g = rw (entry_of s p i l k g, right_may s i g.may) refl

  pub target-there : target_rule s p i ≡ 0 → (k : ℕ) → Follows s p i k → TargetThere s p i k
  target-there h k g = end_there s p i k (path_end s p i k) refl (sym (rule_of k g) ∙ h)

  passed_over : follows s p.entries i ≡ false → target_rule s p i ≡ 0
  unfolding target_rule
  passed_over g = rw g refl

  pub there-target : ((k : ℕ) → Follows s p i k → TargetThere s p i k) → target_rule s p i ≡ 0
  there-target t = by (follows s p.entries i) refl
    where
      by : (b : Bool) → follows s p.entries i ≡ b → target_rule s p i ≡ 0
      by true g = let q = follower s p i g in rule_of q.entry q.follows ∙ there_end s p i q.entry (t q.entry q.follows)
      by false g = passed_over g

  -- a node that is refused follows a path
  refused : (r : ℕ) (Q : Type 0) → target_rule s p i ≡ suc r → ((k : ℕ) → Follows s p i k → end_rule s (due s p i k) (path_end s p i k) ≡ suc r → Q) → Q
  refused r Q h t = by (follows s p.entries i) refl
    where
      by : (b : Bool) → follows s p.entries i ≡ b → Q
      by true g = let q = follower s p i g in t q.entry q.follows (sym (rule_of q.entry q.follows) ∙ h)
      by false g = absurd (omega (arith, sym (passed_over g) ∙ h))

  pub no_node : target_rule s p i ≡ 25 → NoNodeThere s p i
  no_node h = refused 24 (NoNodeThere s p i) h (λ k g e. record { entry = k; follows = g; end = end_missing s p i k (path_end s p i k) e })

  pub node-refused : NoNodeThere s p i → target_rule s p i ≡ 25
  node-refused q = rule_of q.entry q.follows ∙ ap (end_rule s (due s p i q.entry)) q.end

  pub no_container_lem : target_rule s p i ≡ 26 → NoContainerThere s p i
  no_container_lem h = refused 25 (NoContainerThere s p i) h (λ k g e. end_unfit s p i k g (path_end s p i k) refl e)

  pub container-refused : NoContainerThere s p i → target_rule s p i ≡ 26
  container-refused q =
      rule_of q.entry q.follows ∙ ap (end_rule s (due s p i q.entry)) q.end ∙ unfit
    where
      unfit : unless (not (due s p i q.entry) || is_container s q.node) 26 ≡ 26
      unfit = unfold unless in rw (right_due s p i q.entry q.due, ne_eqb (tag_of s q.node) container_tag q.other) refl
