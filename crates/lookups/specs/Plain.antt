-- The plain reading of the look-ups by name, as types.
use Rattle.std.specs.Prelude.{ℕ, ◌+◌, ◌<◌, ◌≡◌, List, Bool, true, None, Some}
use Rattle.image.specs.Sections.{Sections, definition_count, f, item_word}
use Rattle.tree.specs.Tree.{named_at, named_text}
use Rattle.definitions.specs.Definitions.{definition_text, first_item, number_of_items, item_text_of}
use Rattle.lookups.specs.declared.ListItem.{ListItem}
use Rattle.views.specs.View.{signed}
use Rattle.lookups.specs.Lookup.{find_named, last_item}

-- ---- a named child

-- named entry j of container i bears the name
pub record HasName (s : Sections) (i : ℕ) (name : List ℕ) (j : ℕ) : Type 0 where
  pub place : j < f s i 6
  pub text : named_text s i j ≡ name

-- one does, and its node is n
pub record NodeNamed (s : Sections) (i : ℕ) (name : List ℕ) (n : ℕ) : Type 0 where
  pub entry : ℕ
  pub bears : HasName s i name entry
  pub node : named_at s i entry 2 ≡ n

-- the look-up answers n exactly if an entry of the container bears the name, and then n is that entry's node; it answers none exactly
-- if no entry bears the name
pub record NamedLookup (s : Sections) (i : ℕ) : Type 0 where
  pub answered : (name : List ℕ) (n : ℕ) → find_named s i name ≡ Some n → NodeNamed s i name n
  pub borne : (name : List ℕ) (n : ℕ) → NodeNamed s i name n → find_named s i name ≡ Some n
  pub missed : (name : List ℕ) → find_named s i name ≡ None → (j : ℕ) → HasName s i name j → ⊥
  pub missing : (name : List ℕ) → ((j : ℕ) → HasName s i name j → ⊥) → find_named s i name ≡ None

-- ---- a list item: `given` says whether the name gives an origin

-- definition d is the origin that is given, if one is, and its j-th item has the name
pub record Holds (s : Sections) (given : Bool) (origin name : List ℕ) (d j : ℕ) : Type 0 where
  pub definition : d < definition_count s
  pub origin-text : given ≡ true → definition_text s d ≡ origin
  pub place : j < number_of_items s d
  pub text : item_text_of s d j ≡ name

-- d is the last definition that does, and the item is its j-th
pub record LastHolds (s : Sections) (given : Bool) (origin name : List ℕ) (item : ListItem) : Type 0 where
  pub place : ℕ
  pub holds : Holds s given origin name item.definition place
  pub last : (d j : ℕ) → item.definition < d → Holds s given origin name d j → ⊥
  pub number : item.item ≡ first_item s item.definition + place
  pub value : item.value ≡ signed (item_word s (first_item s item.definition + place) 2)

-- the look-up answers the item of the last definition that holds one, and none exactly if no definition does
pub record ItemLookup (s : Sections) (given : Bool) (origin name : List ℕ) : Type 0 where
  pub answered : (item : ListItem) → last_item s given origin name ≡ Some item → LastHolds s given origin name item
  pub missed : last_item s given origin name ≡ None → (d j : ℕ) → Holds s given origin name d j → ⊥
  pub missing : ((d j : ℕ) → Holds s given origin name d j → ⊥) → last_item s given origin name ≡ None
