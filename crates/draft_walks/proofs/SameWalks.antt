-- A walk over a draft: where it begins, and that it reads its nodes, entries and strings alone, so that the other sections may be any.
use Rattle.std.specs.Prelude.{None, Option, Some, ℕ}
use Prim.Native.Nat.{ℕ}
use mathlib.Core.Path.{◌≡◌, refl, sym, ap, ◌∙◌}
use mathlib.Core.List.{List}
use mathlib.Core.Bool.{Bool}
use lib.ListN.{drop}
use Rattle.image.specs.Sections.{Sections, node_word, child_word}
use Rattle.draft.specs.Source.{draft_of}
use Rattle.views.specs.Children.{child_query}
use Rattle.lookups.specs.Lookup.{find_named}
use Rattle.walks.specs.Walk.{Component, Parent, Index, Name, Broken, components, parent_query, step, steps, resolve}
use Rattle.walks.proofs.SameWalks.{SameSteps, same_walks}
use Rattle.draft_walks.specs.Walked.{walked, walk_from}

-- the walk that begins there answers r
module _ (s : Sections) (names path : List ℕ) (x : Option (ℕ × ℕ)) (r : Option ℕ) (e : walk_from s x names path ≡ r) where
  pub walk-missing : x ≡ None → None ≡ r
  walk-missing h = ap (λ (y : Option (ℕ × ℕ)). walk_from s y names path) (sym h) ∙ e

  pub walk-begun : (from first : ℕ) → x ≡ Some (from, first) → (a : Option ℕ) → a ≡ steps s (Some from) (components names (drop first path)) → a ≡ r
  walk-begun from first h a g = g ∙ ap (λ (y : Option (ℕ × ℕ)). walk_from s y names path) (sym h) ∙ e

module _ (version : ℕ) (nodes children named definitions items payload strings : List ℕ) where
  abbrev part : Sections
  part = walked version nodes children named strings

  abbrev whole : Sections
  whole = draft_of version nodes children named definitions items payload strings

  same_step : (i : ℕ) (c : Component) → step part i c ≡ step whole i c
  unfolding step parent_query child_query find_named node_word child_word
  same_step i Parent = refl
  same_step i (Index j) = refl
  same_step i (Name t) = refl
  same_step i Broken = refl

  same : SameSteps part whole
  unfolding node_word
  same = record { nodes = λ i. refl; containers = λ i. refl; steps = same_step }

  pub same-walk : (relative : Bool) (origin : ℕ) (cs : List Component) (a : Option ℕ) → a ≡ resolve part relative origin cs → a ≡ resolve whole relative origin cs
  same-walk relative origin cs a h = h ∙ same_walks part whole same relative origin cs
