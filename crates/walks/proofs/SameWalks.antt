-- Sections that agree on their nodes, containers and single steps agree on every walk; also where nodes have other numbers.
use Rattle.std.specs.Prelude.{None, Option, Some, ℕ}
use Prim.Native.Nat.{ℕ}
use mathlib.Core.Path.{◌≡◌, refl, sym, ap, ◌∙◌}
use mathlib.Core.List.{List, [], ◌∷◌}
use mathlib.Core.Bool.{Bool, true, false, cond}
use lib.ListN.{drop}
use Rattle.image.specs.Sections.{Sections, inside, is_container}
use Rattle.walks.specs.Walk.{Component, Parent, parent_query, step, step_from, steps, resolve}

-- ---- node i of s is node `new i` of t

-- what is found, by its other number
abbrev pub found_as : (ℕ → ℕ) → Option ℕ → Option ℕ
found_as new (Some n) = Some (new n)
found_as new None = None

pub record RenumberedSteps (s t : Sections) (new : ℕ → ℕ) : Type 0 where
  pub root : new 0 ≡ 0
  pub nodes : (i : ℕ) → inside t (new i) ≡ inside s i
  pub containers : (i : ℕ) → inside s i ≡ true → is_container t (new i) ≡ is_container s i
  pub steps : (i : ℕ) (c : Component) → step t (new i) c ≡ found_as new (step s i c)

module _ (s t : Sections) (new : ℕ → ℕ) (a : RenumberedSteps s t new) where
  renumbered-from : (at : Option ℕ) (c : Component) → step_from t (found_as new at) c ≡ found_as new (step_from s at c)
  renumbered-from None c = refl
  renumbered-from (Some i) c = a.steps i c

  renumbered-steps : (cs : List Component) (at : Option ℕ) → steps t (found_as new at) cs ≡ found_as new (steps s at cs)
  unfolding steps
  renumbered-steps [] at = refl
  renumbered-steps (c ∷ cs) at = ap (λ (x : Option ℕ). steps t x cs) (renumbered-from at c) ∙ renumbered-steps cs (step_from s at c)

  renumbered-parent : (i : ℕ) → parent_query t (new i) ≡ found_as new (parent_query s i)
  renumbered-parent i = unfold step in a.steps i Parent

  pub renumbered-walks : (relative : Bool) (origin : ℕ) (cs : List Component) → resolve t relative (new origin) cs ≡ found_as new (resolve s relative origin cs)
  unfolding resolve
  renumbered-walks false origin cs = ap (λ (n : ℕ). steps t (Some n) cs) (sym a.root) ∙ renumbered-steps cs (Some 0)
  renumbered-walks true origin cs = by (inside s origin) refl
    where
      from : (b : Bool) → cond b (steps t (Some (new origin)) cs) (steps t (parent_query t (new origin)) (drop 1 cs))
          ≡ found_as new (cond b (steps s (Some origin) cs) (steps s (parent_query s origin) (drop 1 cs)))
      from true = renumbered-steps cs (Some origin)
      from false = ap (λ (x : Option ℕ). steps t x (drop 1 cs)) (renumbered-parent origin) ∙ renumbered-steps (drop 1 cs) (parent_query s origin)

      by : (b : Bool) → inside s origin ≡ b
          → cond (inside t (new origin)) (cond (is_container t (new origin)) (steps t (Some (new origin)) cs) (steps t (parent_query t (new origin)) (drop 1 cs))) None
          ≡ found_as new (cond b (cond (is_container s origin) (steps s (Some origin) cs) (steps s (parent_query s origin) (drop 1 cs))) None)
      by true e = rw (a.nodes origin ∙ e, a.containers origin e) (from (is_container s origin))
      by false e = rw (a.nodes origin ∙ e)

-- ---- each node keeps its number

pub record SameSteps (r s : Sections) : Type 0 where
  pub nodes : (i : ℕ) → inside r i ≡ inside s i
  pub containers : (i : ℕ) → is_container r i ≡ is_container s i
  pub steps : (i : ℕ) (c : Component) → step r i c ≡ step s i c

found-same : (x : Option ℕ) → found_as (λ n. n) x ≡ x
found-same (Some n) = refl
found-same None = refl

pub same_walks : (r s : Sections) → SameSteps r s → (relative : Bool) (origin : ℕ) (cs : List Component) → resolve r relative origin cs ≡ resolve s relative origin cs
same_walks r s a relative origin cs =
    renumbered-walks s r (λ n. n)
    (record { root = refl; nodes = a.nodes; containers = λ i h. a.containers i; steps = λ i c. a.steps i c ∙ sym (found-same (step s i c)) }) relative origin cs
    ∙ found-same (resolve s relative origin cs)
