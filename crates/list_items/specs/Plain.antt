-- The plain reading of how many definitions' items a search searched, as types.
use Rattle.std.specs.Prelude.{ℕ, ◌+◌, ◌<◌, ◌≡◌, List, true, false}
use Rattle.texts.specs.Dots.{has_dot, before_dot}
use Rattle.utf8.specs.White.{blank}
use Rattle.image.specs.Refusals.{not_found}
use Rattle.image.specs.Sections.{Sections, definition_count}
use Rattle.definitions.specs.Definitions.{definition_text}
use Rattle.views.specs.Answers.{given}
use Rattle.lookups.specs.declared.ListItem.{ListItem}
use Rattle.lookups.specs.Answers.{of_list_item}
use Rattle.list_items.specs.declared.ItemSearch.{ItemSearch}

-- definition d has the part of the name before the first dot as its name
pub record IsOrigin (s : Sections) (name : List ℕ) (d : ℕ) : Type 0 where
  pub definition : d < definition_count s
  pub text : definition_text s d ≡ before_dot name

pub record SearchCount (s : Sections) (name : List ℕ) (r : ItemSearch) : Type 0 where
  -- for a blank name none, for the empty one too
  pub blank-name : blank name ≡ true → r.searched ≡ 0
  -- with a dot one, if its origin is a definition, whether or not that holds the item; else none
  pub origin : blank name ≡ false → has_dot name ≡ true → (d : ℕ) → IsOrigin s name d → r.searched ≡ 1
  pub no_origin : blank name ≡ false → has_dot name ≡ true → ((d : ℕ) → IsOrigin s name d → ⊥) → r.searched ≡ 0
  -- without: those from the last down to the one that answers, or all
  pub answered : blank name ≡ false → has_dot name ≡ false → (item : ListItem) → of_list_item r.answer ≡ given item
      → item.definition + r.searched ≡ definition_count s
  pub missing : blank name ≡ false → has_dot name ≡ false → (of_list_item r.answer).number ≡ not_found → r.searched ≡ definition_count s
