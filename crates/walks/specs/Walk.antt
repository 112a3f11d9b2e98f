-- A walk along a path.
use Rattle.std.specs.Prelude.{ℕ, ◌+◌, List, [], ◌∷◌, Bool, true, false, cond, ◌&&◌, not, length, drop, leb, eqb, None, Option, Some}
use Rattle.words.specs.Words.{is_none}
use Rattle.image.specs.Sections.{Sections, parent_of, part_at, inside, is_container, sections}
use Rattle.views.specs.Children.{child_query, childrens}
use Rattle.lookups.specs.Lookup.{find_named, lookups}

-- a component is of kind parent, index or name; one that is lent broken is none of these
pub data Component : Type 0 where
  Parent : Component
  Index : ℕ → Component
  Name : List ℕ → Component
  Broken : Component

-- words a component, and its kinds
abbrev pub component_words : ℕ
component_words = 3

abbrev pub parent_kind : ℕ
parent_kind = 0

abbrev pub index_kind : ℕ
index_kind = 1

abbrev pub name_kind : ℕ
name_kind = 2

-- a component is lent as three words: its kind, then the index, or offset and length of the name in a lent byte slice
unfoldable pub component : List ℕ → ℕ → ℕ → ℕ → Component
component bytes kind a b =
    cond (eqb kind parent_kind) Parent
    (cond (eqb kind index_kind) (Index a) (cond (eqb kind name_kind && leb (a + b) (length bytes)) (Name (part_at bytes a b)) Broken))

unfoldable pub components : List ℕ → List ℕ → List Component
components bytes [] = []
components bytes (kind ∷ []) = Broken ∷ []
components bytes (kind ∷ a ∷ []) = Broken ∷ []
components bytes (kind ∷ a ∷ b ∷ rest) = component bytes kind a b ∷ components bytes rest

-- a step up from the root finds nothing
unfoldable pub parent_query : Sections → ℕ → Option ℕ
parent_query s i = cond (inside s i && not (is_none (parent_of s i))) (Some (parent_of s i)) None

unfoldable pub step : Sections → ℕ → Component → Option ℕ
step s i Parent = parent_query s i
step s i (Index j) = child_query s i j
step s i (Name t) = find_named s i t
step s i Broken = None

abbrev pub step_from : Sections → Option ℕ → Component → Option ℕ
step_from s None c = None
step_from s (Some i) c = step s i c

unfoldable pub steps : Sections → Option ℕ → List Component → Option ℕ
steps s at [] = at
steps s at (c ∷ cs) = steps s (step_from s at c) cs

-- an absolute walk starts at node 0 and does not test its origin; a relative one starts at its container; from any other node it
-- starts at its parent and skips one component
unfoldable pub resolve : Sections → Bool → ℕ → List Component → Option ℕ
resolve s false origin cs = steps s (Some 0) cs
resolve s true origin cs =
    cond (inside s origin) (cond (is_container s origin) (steps s (Some origin) cs) (steps s (parent_query s origin) (drop 1 cs))) None

-- names on an `unfolding` line what a computation with this module needs
unfoldable pub walks : Unit {0}
unfolding component components parent_query step steps resolve childrens lookups sections
walks = tt
