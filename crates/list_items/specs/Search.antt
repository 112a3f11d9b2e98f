-- A list item by name, searched from the last definition to the first, and how many definitions' items were searched. What a look-up
-- answers on an image whose definitions passed their rules is `list_item` of lookups (proofs/Plain).
use Rattle.std.specs.Prelude.{ℕ, ◌+◌, ◌-◌, List, cond, leb, None, Option, Some, is_some}
use Rattle.laws.specs.Counted.{last_of}
use Rattle.texts.specs.Text.{same}
use Rattle.texts.specs.Dots.{has_dot, before_dot, after_dot}
use Rattle.utf8.specs.White.{blank}
use Rattle.image.specs.Sections.{Sections, definition_count}
use Rattle.views.specs.View.{signed}
use Rattle.lookups.specs.Lookup.{item_place, definition_name, list_item_at, lookups}
use Rattle.list_items.specs.declared.ItemSearch.{ItemSearch}
use Rattle.lookups.specs.declared.ListItem.{ListItem}

-- ---- by the words of entries

-- how many items of a definition there are to search: none where they are not all among so many
unfoldable pub items_inside : ℕ → ℕ → ℕ → ℕ
items_inside all first count = cond (leb (first + count) all) count 0

-- an item of a definition, by its number and the word of its value
abbrev pub found_item : ℕ → ℕ → ℕ → Option ListItem
found_item d item w = Some (record { definition = d; item = item; value = signed w })

-- ---- the search

-- among `count` definitions from definition `first` on, by the last of them that holds the item, if one does: the answer, and the
-- definitions whose items were searched, those from the last down to that one, or all
abbrev pub among_at : Sections → ℕ → ℕ → List ℕ → Option ℕ → ItemSearch
among_at s first count name None = record { answer = None; searched = count }
among_at s first count name (Some j) = record { answer = list_item_at s (first + j) (item_place s (first + j) name); searched = count - j }

unfoldable pub search_among : Sections → ℕ → ℕ → List ℕ → ItemSearch
search_among s first count name = among_at s first count name (last_of count (λ j. is_some (item_place s (first + j) name)))

-- nothing is searched
abbrev pub no_search : ItemSearch
no_search = record { answer = None; searched = 0 }

-- the definition that has this name; the last, where several have it
unfoldable pub origin_of : Sections → List ℕ → Option ℕ
origin_of s origin = last_of (definition_count s) (λ d. same origin (definition_name s d))

-- with an origin that one definition is searched
abbrev pub search_in : Sections → List ℕ → Option ℕ → ItemSearch
search_in s name None = no_search
search_in s name (Some d) = search_among s d 1 name

-- nothing for a blank name; with a dot what stands before the first one is the origin; without, all definitions are searched
unfoldable pub list_search : Sections → List ℕ → ItemSearch
list_search s name =
    cond (blank name) no_search
    (cond (has_dot name) (search_in s (after_dot name) (origin_of s (before_dot name))) (search_among s 0 (definition_count s) name))

-- names on an `unfolding` line what a computation with this module needs
unfoldable pub list_searches : Unit {0}
unfolding items_inside search_among origin_of list_search lookups
list_searches = tt
