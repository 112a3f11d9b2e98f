-- The way from a node up to the root in plain words: no nameless container of place NONE, the root excepted, is on it.
use Prim.Native.Nat.{ℕ, zero, suc, ◌≤◌, ◌<◌}
use mathlib.Core.Path.{◌≡◌, refl, sym, ◌∙◌, subst}
use mathlib.Core.Logic.{◌≢◌}
use mathlib.Core.Bool.{Bool, true, false, true≢false}
use native.Mathlib.Omega.{arith}
use native.Mathlib.Decide.{ℕ_discrete, dec_lt}
use borrow.Author.Tests.{eq-eqb, ne_eqb}
use Rattle.laws.proofs.Flags.{both_true}
use Rattle.words.specs.Words.{NONE}
use Rattle.image.specs.Sections.{Sections, node_count, parent_of, place_of}
use Rattle.tree.specs.Reach.{climb, Climbs}
use Rattle.index.specs.Paths.{nameless, name_or_place, name_or_place_from, name_or_place_on_way}
use Rattle.index.proofs.Paths.{way_step}
use Rattle.promises.specs.Rules.{OnWay, NameOrPlace}

module _ (s : Sections) where
  -- ---- one node

  pub name-right : (i : ℕ) → name_or_place s i ≡ true → NameOrPlace s i
  unfolding nameless
  name-right i h e q = true≢false (sym h ∙ rw (e, eq-eqb (place_of s i) NONE q))

  pub right-name : (i : ℕ) → NameOrPlace s i → name_or_place s i ≡ true
  unfolding nameless
  right-name i h = by (nameless s i) refl
    where
      by : (b : Bool) → nameless s i ≡ b → name_or_place s i ≡ true
      by true e = rw (e, ne_eqb (place_of s i) NONE (h e))
      by false e = rw e

  -- ---- the way

  -- it begins with the node itself
  pub here : (i : ℕ) → i ≢ 0 → OnWay s i i
  unfolding climb
  here i away = record { steps = 0; arrives = refl; below_root = first }
    where
      first : (m : ℕ) → m ≤ 0 → climb s m i ≢ 0
      first zero h = away
      first (suc m) h = absurd (omega arith)

  -- and goes on from its parent
  above : (i x : ℕ) → i ≢ 0 → OnWay s (parent_of s i) x → OnWay s i x
  unfolding climb
  above i x away o = record { steps = suc o.steps; arrives = o.arrives; below_root = each }
    where
      each : (m : ℕ) → m ≤ suc o.steps → climb s m i ≢ 0
      each zero h = away
      each (suc m) h = o.below_root m (omega arith)

  right-from : (n i : ℕ) → ((x : ℕ) → OnWay s i x → NameOrPlace s x) → name_or_place_from n s i ≡ true
  unfolding name_or_place_from
  right-from zero i w = refl
  right-from (suc n) i w =
      elim (ℕ_discrete i 0) [
        | yes e ↦ rw (eq-eqb i 0 e)
        | no d ↦ rw (ne_eqb i 0 d, right-name i (w i (here i d)), right-from n (parent_of s i) (λ x o. w x (above i x d o)))
      ]

  -- a node on the way, within the bound
  from-right : (k n i : ℕ) → k < n → name_or_place_from n s i ≡ true → ((m : ℕ) → m ≤ k → climb s m i ≢ 0) → NameOrPlace s (climb s k i)
  unfolding climb
  from-right k zero i l h b = absurd (omega arith)
  from-right zero (suc n) i l h b = name-right i (both_true (name_or_place s i) _ (sym (way_step s n i (b 0 (omega arith))) ∙ h)).0
  from-right (suc k) (suc n) i l h b =
      from-right k n (parent_of s i) (omega arith) (both_true (name_or_place s i) _ (sym (way_step s n i (b 0 (omega arith))) ∙ h)).1 (λ m q. b (suc m) (omega arith))

  -- ---- both ways

  pub right-path : (i : ℕ) → ((x : ℕ) → OnWay s i x → NameOrPlace s x) → name_or_place_on_way s i ≡ true
  right-path i w = right-from (node_count s) i w

  -- parent steps lead to the root, so that the way is shorter than the bound
  pub path-right : (i : ℕ) → Climbs s (node_count s) i → name_or_place_on_way s i ≡ true → (x : ℕ) → OnWay s i x → NameOrPlace s x
  path-right i c h x o = subst (NameOrPlace s) o.arrives (from-right o.steps (node_count s) i short h o.below_root)
    where
      short : o.steps < node_count s
      short =
          elim (dec_lt o.steps c.steps) [
            | yes l ↦ omega (arith, c.few)
            | no l ↦ absurd (o.below_root c.steps (omega arith) c.arrives)
          ]
