-- What the look-ups by name answer on an accepted image, in plain words.
use Rattle.std.specs.Prelude.{ℕ, ◌<◌, ◌≡◌, List, [], Bool, true, false, Option}
use Rattle.laws.specs.Lists.{Below}
use Rattle.texts.specs.Dots.{has_dot, before_dot, after_dot}
use Rattle.utf8.specs.White.{blank}
use Rattle.image.specs.Sections.{Sections, definition_count, inside_container}
use Rattle.image.specs.declared.ImageView.{ImageView}
use Rattle.image.specs.Header.{sections_by}
use Rattle.image.specs.Refusals.{not_found}
use Rattle.definitions.specs.Definitions.{definition_text}
use Rattle.load.specs.Load.{loaded_of}
use Rattle.lookups.specs.declared.ListItem.{ListItem}
use Rattle.lookups.specs.Lookup.{find_named, list_item}
use Rattle.lookups.specs.Plain.{HasName, NodeNamed, Holds, LastHolds}
use Rattle.list_items.specs.Search.{list_search}
use Rattle.list_items.specs.Plain.{SearchCount}
use Rattle.promises.specs.Answers.{given, of_loaded, of_found, of_list_item}
use Rattle.promises.specs.Rules.{Iff}

-- ---- a named child of node i

pub record NamedFound (s : Sections) (i : ℕ) (name : List ℕ) : Type 0 where
  -- a node is answered exactly if an entry of the container has the name, and it is that entry's node
  pub answered : (n : ℕ) → Iff (of_found (find_named s i name) ≡ given n) (NodeNamed s i name n)
  -- and 18 exactly if no entry has
  pub missing : Iff ((of_found (find_named s i name)).number ≡ not_found) ((j : ℕ) → HasName s i name j → ⊥)

-- ---- a list item: `origin` is asked where it is given

pub record ItemFound (s : Sections) (asked : Bool) (origin name : List ℕ) (r : Option ListItem) : Type 0 where
  -- an item is answered exactly if it is that of the last definition that holds one of this name
  pub answered : (item : ListItem) → Iff (of_list_item r ≡ given item) (LastHolds s asked origin name item)
  -- and 18 exactly if no definition does
  pub missing : Iff ((of_list_item r).number ≡ not_found) ((d j : ℕ) → Holds s asked origin name d j → ⊥)

-- ---- both look-ups

pub record Lookups (s : Sections) : Type 0 where
  pub named-child : (i : ℕ) → inside_container s i ≡ true → (name : List ℕ) → NamedFound s i name
  -- what is no container has no named child
  pub elsewhere : (i : ℕ) → inside_container s i ≡ false → (name : List ℕ) → (of_found (find_named s i name)).number ≡ not_found
  -- a blank name gives none, the empty one too
  pub blank-name : (name : List ℕ) → blank name ≡ true → (of_list_item (list_item s name)).number ≡ not_found
  pub empty_name : (of_list_item (list_item s [])).number ≡ not_found
  -- with a dot: of the definition that has the part before the first dot as its name, and there is at most one
  pub with_dot : (name : List ℕ) → blank name ≡ false → has_dot name ≡ true → ItemFound s true (before_dot name) (after_dot name) (list_item s name)
  pub one_origin : (d e : ℕ) → d < definition_count s → e < definition_count s → definition_text s d ≡ definition_text s e → d ≡ e
  -- without: of the last definition that holds it
  pub without_dot : (name : List ℕ) → blank name ≡ false → has_dot name ≡ false → ItemFound s false name name (list_item s name)
  -- the search from the last definition to the first gives these answers, and counts the definitions whose items it searched
  pub searched-answer : (name : List ℕ) → (list_search s name).answer ≡ list_item s name
  pub search_count : (name : List ℕ) → SearchCount s name (list_search s name)

-- of bytes that a load accepts, with the view that it answers
abbrev pub AcceptedLookups : Type 0
AcceptedLookups = (bs : List ℕ) (work : ℕ) (v : ImageView) → Below 256 bs → of_loaded (loaded_of bs work) ≡ given v → Lookups (sections_by bs v)
