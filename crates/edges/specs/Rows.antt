-- The small example of each row of FORMAT.md's table of numbers, as one theorem.
use Rattle.std.specs.Prelude.{◌+◌, ◌≡◌, refl, [], ◌∷◌, ◌++◌, take, set, get_or, replicate}
use Rattle.words.specs.Words.{NONE}
use Rattle.texts.specs.Text.{ascii}
use Rattle.image.specs.Sections.{Sections}
use Rattle.image.specs.Encoding.{image_of, encodings}
use Rattle.load.specs.Load.{load_rule, loads}
use Rattle.views.specs.Children.{child_query, childrens}
use Rattle.pages.specs.Page.{slot_of, page_rule, page_after, pages}
use Rattle.promises.specs.Answers.{of_found}
use Rattle.draft_image.specs.Encode.{encode_rule, encodes}
use Rattle.edges.specs.Examples.{smallest_image, container_words, node_entry, plain_sections, root_named, root_draft, with_child, list_sections, examples}

-- nodes 1 and 2 are each other's parent and child
unfoldable pub ring : Sections
ring =
    plain_sections (container_words NONE NONE NONE NONE 0 0 ++ container_words 2 0 NONE NONE 0 1 ++ container_words 1 0 NONE NONE 1 1) (2 ∷ 1 ∷ [])
    (0 ∷ 0 ∷ 0 ∷ 0 ∷ 1 ∷ 1 ∷ 0 ∷ 1 ∷ 2 ∷ []) (ascii "a")

-- a root with two children named a
unfoldable pub two_a : Sections
two_a =
    plain_sections (container_words NONE NONE NONE NONE 0 2 ++ container_words 0 0 0 1 2 0 ++ container_words 0 1 0 1 2 0) (1 ∷ 2 ∷ []) [] (ascii "a")

unfoldable pub row_drafts : Unit {0}
unfolding ring two_a examples
row_drafts = tt

-- rows 1 to 7
pub record HeaderRows : Type 0 where
  pub row_1 : load_rule (take 87 smallest_image) 2 ≡ 1
  pub row_2 : load_rule (set smallest_image 8 3) 2 ≡ 2
  pub row_3 : load_rule (image_of 17 (root_named NONE NONE)) 2 ≡ 3
  pub row_3_18 : load_rule (image_of 18 (root_named NONE NONE)) 2 ≡ 0
  pub row_3_22 : load_rule (image_of 22 (root_named NONE NONE)) 2 ≡ 3
  pub row_4 : load_rule (set smallest_image 16 141) 2 ≡ 4
  pub row_5 : load_rule (set smallest_image 20 89) 2 ≡ 5
  pub row_6 : load_rule (set smallest_image 84 (get_or smallest_image 84 0 + 1)) 2 ≡ 6
  pub row_7 : load_rule smallest_image 1 ≡ 7

header-rows : HeaderRows
unfolding row_drafts encodes encodings childrens loads
header-rows =
    record {
      row_1 = refl;
      row_2 = refl;
      row_3 = refl;
      row_3_18 = refl;
      row_3_22 = refl;
      row_4 = refl;
      row_5 = refl;
      row_6 = refl;
      row_7 = refl;
    }

-- rows 8 to 13
pub record RecordRows : Type 0 where
  pub row_8 : load_rule (image_of 21 (plain_sections (node_entry NONE NONE 5 []) [] (0 ∷ 0 ∷ 0 ∷ []) [])) 9 ≡ 8
  pub row_9 : load_rule (image_of 21 (with_child 2 (NONE ∷ NONE ∷ NONE ∷ []))) 9 ≡ 9
  pub row_10 : load_rule (image_of 21 (with_child 11 (NONE ∷ 0 ∷ []))) 9 ≡ 10
  pub row_11 : load_rule (image_of 21 (plain_sections (container_words NONE NONE NONE NONE 1 0) [] (0 ∷ 0 ∷ 0 ∷ []) [])) 9 ≡ 11
  pub row_12 : load_rule (image_of 21 (with_child 15 [])) 9 ≡ 12
  pub row_12_assignment : load_rule (image_of 21 (with_child 16 (0 ∷ 0 ∷ 3 ∷ []))) 9 ≡ 0
  pub row_12_assignment_4 : load_rule (image_of 21 (with_child 16 (0 ∷ 0 ∷ 4 ∷ []))) 9 ≡ 12
  pub row_13 : load_rule (image_of 21 (plain_sections (container_words NONE NONE NONE NONE 0 0) [] (0 ∷ 0 ∷ 0 ∷ 0 ∷ 0 ∷ 0 ∷ []) [])) 9 ≡ 13

record_rows : RecordRows
unfolding row_drafts encodes encodings childrens loads
record_rows =
    record {
      row_8 = refl;
      row_9 = refl;
      row_10 = refl;
      row_11 = refl;
      row_12 = refl;
      row_12_assignment = refl;
      row_12_assignment_4 = refl;
      row_13 = refl;
    }

-- rows 14 to 18
pub record TreeRows : Type 0 where
  pub row_14 : load_rule (image_of 21 (plain_sections (container_words NONE NONE NONE NONE 0 1 ++ node_entry 0 1 5 []) (1 ∷ []) (0 ∷ 0 ∷ 0 ∷ []) [])) 9 ≡ 14
  pub row_15 : load_rule (image_of 21 ring) 9 ≡ 15
  pub row_16 : load_rule (image_of 21 (plain_sections (container_words NONE NONE NONE NONE 0 0) [] (0 ∷ 1 ∷ 0 ∷ []) (ascii "a"))) 9 ≡ 16
  pub row_17 : load_rule (image_of 21 (list_sections (1 ∷ 1 ∷ 0 ∷ 0 ∷ 0 ∷ 1 ∷ 0 ∷ 0 ∷ []) [] (ascii "ab"))) 9 ≡ 17
  pub row_18 : (of_found (child_query (root_named NONE NONE) 0 0)).number ≡ 18

tree-rows : TreeRows
unfolding row_drafts encodes encodings childrens loads
tree-rows =
    record {
      row_14 = refl;
      row_15 = refl;
      row_16 = refl;
      row_17 = refl;
      row_18 = refl;
    }

-- rows 19 to 23, and 7 for a writer
pub record DraftRows : Type 0 where
  pub row_19 : encode_rule 21 (plain_sections (container_words NONE NONE NONE NONE 0 0 ++ (0 ∷ [])) [] [] []) 99 999 ≡ 19
  pub row_20 : encode_rule 21 (plain_sections (container_words NONE NONE NONE NONE 0 0 ++ node_entry 0 0 5 []) [] [] []) 99 999 ≡ 20
  pub row_21 : encode_rule 21 (plain_sections (container_words NONE NONE NONE NONE 0 1 ++ node_entry 0 1 5 []) (1 ∷ []) [] []) 99 999 ≡ 21
  pub row_22 : encode_rule 21 two_a 99 999 ≡ 22
  pub row_23 : encode_rule 21 root_draft 99 139 ≡ 23
  pub write_7 : encode_rule 21 root_draft 15 140 ≡ 7

draft-rows : DraftRows
unfolding row_drafts encodes encodings childrens loads
draft-rows =
    record {
      row_19 = refl;
      row_20 = refl;
      row_21 = refl;
      row_22 = refl;
      row_23 = refl;
      write_7 = refl;
    }

-- row 24, and pages: of the smallest image and of a root with a child, whose tag is one that there is or none
pub record PageRows : Type 0 where
  pub row_24 : page_rule 2 23 ≡ 24
  pub enough : page_rule 2 24 ≡ 0
  pub no_numbers : page_rule 0 0 ≡ 0
  pub untouched : page_after (root_named NONE NONE) (9 ∷ 0 ∷ []) (replicate 23 7) ≡ replicate 23 7
  pub slots : page_after (root_named NONE NONE) (0 ∷ 0 ∷ NONE ∷ 1 ∷ []) (replicate 49 7)
      ≡ (NONE ∷ NONE ∷ 1 ∷ NONE ∷ NONE ∷ 0 ∷ 0 ∷ 0 ∷ 0 ∷ 0 ∷ 0 ∷ 0 ∷ []) ++ (NONE ∷ NONE ∷ 1 ∷ NONE ∷ NONE ∷ 0 ∷ 0 ∷ 0 ∷ 0 ∷ 0 ∷ 0 ∷ 0 ∷ [])
      ++ (18 ∷ replicate 11 0) ++ (18 ∷ replicate 11 0) ++ (7 ∷ [])
  pub tag_5 : take 3 (slot_of (with_child 5 []) 1) ≡ 0 ∷ 0 ∷ 5 ∷ []
  pub tag_15 : slot_of (with_child 15 []) 1 ≡ 18 ∷ replicate 11 0

page-rows : PageRows
unfolding row_drafts pages
page-rows =
    record {
      row_24 = refl;
      enough = refl;
      no_numbers = refl;
      untouched = refl;
      slots = refl;
      tag_5 = refl;
      tag_15 = refl;
    }

pub record Rows : Type 0 where
  pub header : HeaderRows
  pub record_rules : RecordRows
  pub tree : TreeRows
  pub draft : DraftRows
  pub page : PageRows

pub all : Rows
all = record { header = header-rows; record_rules = record_rows; tree = tree-rows; draft = draft-rows; page = page-rows }
