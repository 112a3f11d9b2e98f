-- The lines that FORMAT.md marks P, as one theorem.
use Rattle.std.specs.Prelude.{ℕ, ◌≡◌, refl, [], ◌∷◌, true, false, pos, length, None, Option, Some}
use Rattle.words.specs.Words.{NONE}
use Rattle.texts.specs.Text.{ascii}
use Rattle.image.specs.Sections.{text_at}
use Rattle.image.specs.Encoding.{image_of, encodings}
use Rattle.index.specs.Paths.{fits}
use Rattle.load.specs.Load.{load_rule, loads}
use Rattle.views.specs.View.{node_view, views}
use Rattle.lookups.specs.Lookup.{list_item, lookups}
use Rattle.walks.specs.Walk.{resolve, walks}
use Rattle.list_items.specs.declared.ItemSearch.{ItemSearch}
use Rattle.list_items.specs.Search.{list_search, list_searches}
use Rattle.list_items.specs.Plain.{SearchCount}
use Rattle.promises.specs.Answers.{of_list_item}
use Rattle.draft_image.specs.Encode.{encode_rule, image_for, encodes}
use Rattle.views.specs.declared.NodeKindView.TheVariants as kind
use Rattle.edges.specs.Examples.{smallest_image, header_alone, container_words, plain_sections, root_named, root_draft, with_child, with_divert, with_place3, with_a, with_two_places, alone_without_place, below_without_place, below_filed_first, with_lists, two_reds, items_outside, examples}
use Rattle.views.specs.declared.NodeView.{NodeView}
use Rattle.views.specs.declared.Span.{Span}

-- the view of a root: no parent, no place, flags 0, and the name
abbrev root_view : Option Span → Option NodeView
root_view name = Some (record { parent = None; child_index = None; kind = kind.Container (pos 0) name })

-- the smallest image and its draft; 88 bytes with no sections
pub record SmallestLines : Type 0 where
  pub smallest-length : length smallest_image ≡ 140
  pub smallest-accepted : load_rule smallest_image 2 ≡ 0
  pub smallest-sections : image_of 21 (root_named NONE NONE) ≡ smallest_image
  pub smallest-draft : encode_rule 21 root_draft 16 140 ≡ 0
  pub smallest-written : image_for 21 root_draft ≡ smallest_image
  pub no_sections : load_rule header_alone 0 ≡ 5

smallest_lines : SmallestLines
unfolding examples encodes encodings walks lookups views loads
smallest_lines =
    record {
      smallest-length = refl;
      smallest-accepted = refl;
      smallest-sections = refl;
      smallest-draft = refl;
      smallest-written = refl;
      no_sections = refl;
    }

-- a bool, a divert's flags
pub record FieldLines : Type 0 where
  pub bool_1 : load_rule (image_of 21 (with_child 8 (1 ∷ []))) 4 ≡ 0
  pub bool_2 : load_rule (image_of 21 (with_child 8 (2 ∷ []))) 4 ≡ 12
  pub divert_23 : load_rule (image_of 21 (with_divert 23)) 4 ≡ 0
  pub divert_24 : load_rule (image_of 21 (with_divert 24)) 4 ≡ 12

field_lines : FieldLines
unfolding examples encodes encodings walks lookups views loads
field_lines =
    record {
      bool_1 = refl;
      bool_2 = refl;
      divert_23 = refl;
      divert_24 = refl;
    }

-- name words (0, 0) and (NONE, NONE), as the root's view has them
pub record NameLines : Type 0 where
  pub name-empty : node_view (root_named 0 0) 0 ≡ root_view (Some (record { offset = 0; len = 0 }))
  pub name-empty-text : text_at (root_named 0 0) 0 0 ≡ []
  pub name-empty-image : load_rule (image_of 21 (root_named 0 0)) 2 ≡ 0
  pub name-absent : node_view (root_named NONE NONE) 0 ≡ root_view None

name_lines : NameLines
unfolding examples encodes encodings walks lookups views loads
name_lines =
    record {
      name-empty = refl;
      name-empty-text = refl;
      name-empty-image = refl;
      name-absent = refl;
    }

-- index texts of a container in place 3 and of one that is named a
pub record PlaceLines : Type 0 where
  pub place_3 : fits (with_place3 [] 0) 4 (ascii "3") ≡ true
  pub place_dot_3 : fits (with_place3 [] 0) 4 (ascii ".3") ≡ false
  pub place_03 : fits (with_place3 [] 0) 4 (ascii "03") ≡ false
  pub place_dot_dot_3 : fits (with_place3 [] 0) 4 (ascii "..3") ≡ false
  pub place_3_image : load_rule (image_of 21 (with_place3 (ascii "3") 1)) 10 ≡ 0
  pub place_dot_3_image : load_rule (image_of 21 (with_place3 (ascii ".3") 2)) 10 ≡ 16
  pub place_03_image : load_rule (image_of 21 (with_place3 (ascii "03") 2)) 10 ≡ 16
  pub named_a : fits (with_a (ascii "a") 0 1) 1 (ascii ".a") ≡ false
  pub named_a_image : load_rule (image_of 21 (with_a (ascii "a.a") 1 2)) 4 ≡ 16

place_lines : PlaceLines
unfolding examples encodes encodings walks lookups views loads
place_lines =
    record {
      place_3 = refl;
      place_dot_3 = refl;
      place_03 = refl;
      place_dot_dot_3 = refl;
      place_3_image = refl;
      place_dot_3_image = refl;
      place_03_image = refl;
      named_a = refl;
      named_a_image = refl;
    }

-- a dot before a path of two places, and before the root's
pub record DotLines : Type 0 where
  pub places : fits (with_two_places [] []) 2 (ascii "0.0") ≡ true
  pub dot_places : fits (with_two_places [] []) 2 (ascii ".0.0") ≡ false
  pub places-image : load_rule (image_of 21 (with_two_places (0 ∷ 0 ∷ 0 ∷ 0 ∷ 1 ∷ 1 ∷ 0 ∷ 3 ∷ 2 ∷ []) (ascii "0.0"))) 6 ≡ 0
  pub dot_places-image : load_rule (image_of 21 (with_two_places (0 ∷ 0 ∷ 0 ∷ 0 ∷ 4 ∷ 2 ∷ 1 ∷ 1 ∷ 1 ∷ []) (ascii ".0.0"))) 6 ≡ 16
  -- two entries for one container, none for the other
  pub twice-image : load_rule (image_of 21 (with_two_places (0 ∷ 0 ∷ 0 ∷ 0 ∷ 2 ∷ 1 ∷ 1 ∷ 1 ∷ 1 ∷ []) (ascii ".0"))) 6 ≡ 16
  pub root_dot : fits (root_named NONE NONE) 0 (ascii ".") ≡ false
  pub root_dot_image : load_rule (image_of 21 (plain_sections (container_words NONE NONE NONE NONE 0 0) [] (0 ∷ 1 ∷ 0 ∷ []) (ascii "."))) 2 ≡ 16

dot_lines : DotLines
unfolding examples encodes encodings walks lookups views loads
dot_lines =
    record {
      places = refl;
      dot_places = refl;
      places-image = refl;
      dot_places-image = refl;
      twice-image = refl;
      root_dot = refl;
      root_dot_image = refl;
    }

-- containers of place NONE, which only a named child has: with a name, without one, with the empty one; and a container in place 0 of such a one
pub record NoPlaceLines : Type 0 where
  pub named : fits (alone_without_place 0 1 (ascii "a")) 1 (ascii "a") ≡ true
  pub named-image : load_rule (image_of 21 (alone_without_place 0 1 (ascii "a"))) 4 ≡ 0
  pub nameless : fits (alone_without_place NONE NONE (ascii "4294967295")) 1 (ascii "4294967295") ≡ false
  pub nameless-image : load_rule (image_of 21 (alone_without_place NONE NONE (ascii "4294967295"))) 4 ≡ 16
  pub empty_name : fits (alone_without_place 0 0 (ascii "4294967295")) 1 (ascii "4294967295") ≡ false
  pub empty-name-image : load_rule (image_of 21 (alone_without_place 0 0 (ascii "4294967295"))) 4 ≡ 16
  -- a name that begins with a dot is a piece like any other
  pub dot_name : fits (alone_without_place 1 2 (ascii ".3")) 1 (ascii ".3") ≡ true
  pub dot_name-image : load_rule (image_of 21 (alone_without_place 1 2 (ascii ".3"))) 4 ≡ 0
  pub below-named : fits (below_without_place 0 1 1 (ascii "a.0")) 2 (ascii "a.0") ≡ true
  pub below-named-image : load_rule (image_of 21 (below_without_place 0 1 1 (ascii "a.0"))) 6 ≡ 0
  pub below : fits (below_without_place NONE NONE 10 (ascii "4294967295.0")) 2 (ascii "4294967295.0") ≡ false
  pub below-image : load_rule (image_of 21 (below_without_place NONE NONE 10 (ascii "4294967295.0"))) 6 ≡ 16
  -- the way is asked: what is behind the entry would be 9
  pub below-first : load_rule (image_of 21 (below_filed_first NONE NONE (ascii "4294967295.0"))) 6 ≡ 16

no_place_lines : NoPlaceLines
unfolding examples encodes encodings walks lookups views loads
no_place_lines =
    record {
      named = refl;
      named-image = refl;
      nameless = refl;
      nameless-image = refl;
      empty_name = refl;
      empty-name-image = refl;
      dot_name = refl;
      dot_name-image = refl;
      below-named = refl;
      below-named-image = refl;
      below = refl;
      below-image = refl;
      below-first = refl;
    }

-- an item in two definitions; a relative walk of no components
pub record QueryLines : Type 0 where
  pub lists-image : load_rule (image_of 21 with_lists) 2 ≡ 0
  pub low : list_item with_lists (ascii "low") ≡ Some (record { definition = 1; item = 1; value = pos 2 })
  pub red_low : list_item with_lists (ascii "red.low") ≡ Some (record { definition = 0; item = 0; value = pos 1 })
  pub from_glue : resolve (with_child 5 []) true 1 [] ≡ Some 0

query_lines : QueryLines
unfolding examples encodes encodings walks lookups views loads
query_lines =
    record {
      lists-image = refl;
      low = refl;
      red_low = refl;
      from_glue = refl;
    }

-- what a search says: the item of a definition and its value, or nothing, and how many definitions' items were searched
abbrev found_by : ℕ → ℕ → ℕ → ℕ → ItemSearch
found_by d item value searched = record { answer = Some (record { definition = d; item = item; value = pos value }); searched = searched }

abbrev nothing_by : ℕ → ItemSearch
nothing_by searched = record { answer = None; searched = searched }

-- the same items by the search from the last definition on, and names that give none: no such origin, no such item, a space, U+3000 and
-- a tab, nothing, a dot with nothing on one side
pub record SearchLines : Type 0 where
  pub low : list_search with_lists (ascii "low") ≡ found_by 1 1 2 1
  pub red_low : list_search with_lists (ascii "red.low") ≡ found_by 0 0 1 1
  pub no_low : list_search with_lists (ascii "no.low") ≡ nothing_by 0
  pub high : list_search with_lists (ascii "high") ≡ nothing_by 2
  pub red_high : list_search with_lists (ascii "red.high") ≡ nothing_by 1
  pub blank-name : list_search with_lists (32 ∷ 227 ∷ 128 ∷ 128 ∷ 9 ∷ []) ≡ nothing_by 0
  pub empty_name : list_search with_lists [] ≡ nothing_by 0
  pub space : (of_list_item (list_search with_lists (ascii " ")).answer).number ≡ 18
  -- a search that keeps the statement on counts has searched nothing for it
  pub space-count : (r : ItemSearch) → SearchCount with_lists (ascii " ") r → r.searched ≡ 0
  pub dot_low : list_search with_lists (ascii ".low") ≡ nothing_by 0
  pub red_dot : list_search with_lists (ascii "red.") ≡ nothing_by 1
  pub low_dot : list_search with_lists (ascii "low.") ≡ nothing_by 0
  -- not accepted: two definitions of one name, of which the last decides; items that are not all inside, which count as searched
  pub two_red : list_search two_reds (ascii "red.low") ≡ nothing_by 1
  pub two_red_plain : list_search two_reds (ascii "low") ≡ found_by 0 0 1 2
  pub items-outside : list_search items_outside (ascii "low") ≡ found_by 0 0 1 2

search_lines : SearchLines
unfolding examples list_searches
search_lines =
    record {
      low = refl;
      red_low = refl;
      no_low = refl;
      high = refl;
      red_high = refl;
      blank-name = refl;
      empty_name = refl;
      space = refl;
      space-count = λ r c. c.blank-name refl;
      dot_low = refl;
      red_dot = refl;
      low_dot = refl;
      two_red = refl;
      two_red_plain = refl;
      items-outside = refl;
    }

pub record Edges : Type 0 where
  pub smallest : SmallestLines
  pub fields : FieldLines
  pub names : NameLines
  pub places : PlaceLines
  pub dots : DotLines
  pub no_places : NoPlaceLines
  pub queries : QueryLines
  pub searches : SearchLines

pub edges : Edges
edges =
    record {
      smallest = smallest_lines;
      fields = field_lines;
      names = name_lines;
      places = place_lines;
      dots = dot_lines;
      no_places = no_place_lines;
      queries = query_lines;
      searches = search_lines;
    }
