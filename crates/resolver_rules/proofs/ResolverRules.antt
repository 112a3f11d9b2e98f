-- The rules of a draft with paths in plain words, both ways, and the node that decides 25 and 26.
use Prim.Native.Nat.{ℕ, zero, suc, ◌<◌}
use mathlib.Core.Path.{◌≡◌, refl, sym, ◌∙◌}
use mathlib.Core.Bool.{false}
use native.Mathlib.Omega.{arith}
use Rattle.laws.specs.Refusal.{◌▸◌, first_of}
use Rattle.laws.specs.Lists.{has}
use Rattle.laws.proofs.First.{first_all, first_of_lem, first_hit}
use Rattle.image.specs.Sections.{Sections, node_count}
use Rattle.target_finding.specs.Targets.{PathList, target_rule, resolve_rule}
use Rattle.refusal_numbers.specs.Numbers.{draft_numbers}
use Rattle.promises.specs.Rules.{Iff}
use Rattle.resolver_rules.specs.ResolverRules.{ListRight, Follows, ResolveRight, ResolveExactly, NoNodeThere, NoContainerThere, Decides, DecidingNode}
use Rattle.resolver_rules.proofs.Tests.{tests-right, right-tests, decided, late, none-refused}
use Rattle.resolver_rules.proofs.Targets.{target-there, there-target, no_node, node-refused, no_container_lem, container-refused}

module _ (ink : ℕ) (s : Sections) (p : PathList) (work : ℕ) where
  -- the node of an entry is in the draft
  origin-below : ListRight s p → (i k : ℕ) → Follows s p i k → i < node_count s
  origin-below r i k g = let b = (r.entry k g.listed).node.below in let e = g.origin in omega arith

  resolve_right : resolve_rule ink s p work ≡ 0 → ResolveRight ink s p work
  resolve_right h =
      let q = none-refused ink s p work h in
      let t = tests-right ink s p work q in
      let all = sym (decided ink s p work q) ∙ h in
      record { tests = t; targets = λ i k g. target-there s p t.list i (first_all _ _ all i (origin-below t.list i k g)) k g }

  right-resolve : ResolveRight ink s p work → resolve_rule ink s p work ≡ 0
  right-resolve r =
      decided ink s p work (right-tests ink s p work r.tests)
      ∙ first_of_lem (node_count s) (target_rule s p) (λ i h. there-target s p r.tests.list i (λ k g. r.targets i k g))

pub resolve-exactly : ResolveExactly
resolve-exactly ink s p work = (resolve_right ink s p work, right-resolve ink s p work)

-- ---- the first that is refused

record FirstAt (n : ℕ) (f : ℕ → ℕ) (r : ℕ) : Type 0 where
  node : ℕ
  below : node < n
  fails : f node ≡ r
  before : (i : ℕ) → i < node → f i ≡ 0

first_at : (n r : ℕ) (f : ℕ → ℕ) → first_of n f ≡ suc r → FirstAt n f (suc r)
unfolding first_of ◌▸◌
first_at zero r f e = absurd (omega (arith, e))
first_at (suc n) r f e = by (first_of n f) refl (λ q. first_at n r f q) e
  where
    by : (x : ℕ) → first_of n f ≡ x → (first_of n f ≡ suc r → FirstAt n f (suc r)) → (x ▸ f n) ≡ suc r → FirstAt (suc n) f (suc r)
    by zero h g q = record { node = n; below = omega arith; fails = q; before = first_all n f h }
    by (suc x) h g q = let a = g (h ∙ q) in record { node = a.node; below = omega (arith, a.below); fails = a.fails; before = a.before }

-- ---- which node decides

module _ (ink : ℕ) (s : Sections) (p : PathList) (work : ℕ) where
  -- of a number that no test before the targets gives, and what it says of a node
  decides : (r : ℕ) (Fails : ℕ → Type 0) → has (suc r) draft_numbers ≡ false → (ListRight s p → (i : ℕ) → Iff (target_rule s p i ≡ suc r) (Fails i))
      → Iff (resolve_rule ink s p work ≡ suc r) (Decides ink s p work Fails)
  decides r Fails o says = (into, back)
    where
      into : resolve_rule ink s p work ≡ suc r → Decides ink s p work Fails
      into h =
          let q = late ink s p work (suc r) o h in
          let t = tests-right ink s p work q in
          let a = first_at (node_count s) r (target_rule s p) (sym (decided ink s p work q) ∙ h) in
          record {
            tests = t;
            node = a.node;
            below = a.below;
            fails = (says t.list a.node).0 a.fails;
            before = λ i k l g. target-there s p t.list i (a.before i l) k g;
          }

      back : Decides ink s p work Fails → resolve_rule ink s p work ≡ suc r
      back d =
          let l = d.tests.list in
          decided ink s p work (right-tests ink s p work d.tests)
          ∙ first_hit (node_count s) d.node r (target_rule s p) d.below
          (first_of_lem d.node (target_rule s p) (λ i h. there-target s p l i (λ k g. d.before i k h g))) ((says l d.node).1 d.fails)

pub deciding_node : DecidingNode
unfolding has
deciding_node ink s p work =
    record {
      no_target_lem = decides ink s p work 24 (NoNodeThere s p) refl (λ l i. (no_node s p l i, node-refused s p l i));
      no_container_lem = decides ink s p work 25 (NoContainerThere s p) refl (λ l i. (no_container_lem s p l i, container-refused s p l i));
    }
