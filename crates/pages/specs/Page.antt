-- A page of nodes: a slot of twelve words for each number; the view of a slot's words.
use Rattle.std.specs.Prelude.{ℕ, ◌*◌, ◌<◌, ◌≡◌, List, [], ◌∷◌, ◌++◌, cond, length, get_or, take, drop, replicate, leb, None, Option, Some}
use Rattle.laws.specs.Refusal.{unless, passes, refusals}
use Rattle.laws.specs.Lists.{flat_map, lists}
use Rattle.image.specs.declared.NodeRecord.{NodeRecord}
use Rattle.image.specs.Refusals.{not_found, too_few_slots}
use Rattle.image.specs.Sections.{Sections, common_words, sections}
use Rattle.image.specs.Entries.{node_in}
use Rattle.views.specs.View.{record_view, node_view, views}
use Rattle.views.specs.Answers.{refused, of_node}
use Rattle.views.specs.declared.NodeView.{NodeView}

abbrev pub slot_words : ℕ
slot_words = 12

-- ---- one slot

-- parent, place, tag and f0 to f6, then 0 and 0
abbrev pub node_slot : NodeRecord → List ℕ
node_slot r =
    r.parent ∷ r.place ∷ r.tag ∷ r.f0 ∷ r.f1 ∷ r.f2 ∷ r.f3 ∷ r.f4 ∷ r.f5 ∷ r.f6 ∷ 0 ∷ 0 ∷ []

-- 18 and eleven zeros
abbrev pub no_slot : List ℕ
no_slot = not_found ∷ replicate 11 0

-- by what `node_view` answers
abbrev pub slot_by : Option NodeView → NodeRecord → List ℕ
slot_by (Some v) r = node_slot r
slot_by None r = no_slot

unfoldable pub slot_of : Sections → ℕ → List ℕ
slot_of s i = slot_by (node_view s i) (node_in s i)

-- ---- the page

-- 24: fewer than twelve words a number
unfoldable pub page_rule : ℕ → ℕ → ℕ
page_rule numbers room = unless (leb (slot_words * numbers) room) too_few_slots

-- the slots, and the words after the last one as they were; where the page is refused, all as they were
unfoldable pub page_after : Sections → List ℕ → List ℕ → List ℕ
page_after s numbers slots =
    cond (passes (page_rule (length numbers) (length slots))) (flat_map (slot_of s) numbers ++ drop (slot_words * length numbers) slots) slots

-- ---- the view of a slot's words

-- the node that the first ten words are
abbrev pub slot_record : List ℕ → NodeRecord
slot_record slot =
    record {
      parent = get_or slot 0 0;
      place = get_or slot 1 0;
      tag = get_or slot 2 0;
      f0 = get_or slot 3 0;
      f1 = get_or slot 4 0;
      f2 = get_or slot 5 0;
      f3 = get_or slot 6 0;
      f4 = get_or slot 7 0;
      f5 = get_or slot 8 0;
      f6 = get_or slot 9 0;
    }

abbrev pub view_of_record : Sections → NodeRecord → Option NodeView
view_of_record s r = record_view s.strings (length s.payload) r

-- 18 under ten words
unfoldable pub slot_view : Sections → List ℕ → Option NodeView
slot_view s slot = cond (leb common_words (length slot)) (view_of_record s (slot_record slot)) None

-- ---- what is promised of it, of any sections

-- the view of a slot's words is the one that the lone call gives, for every number
abbrev pub SlotViews : Type 0
SlotViews = (s : Sections) (i : ℕ) → slot_view s (slot_of s i) ≡ node_view s i

-- a slot's tag is 0 exactly if the node has no view
pub record SlotTag (s : Sections) (i : ℕ) : Type 0 where
  pub none : (of_node (node_view s i)).number ≡ not_found → get_or (slot_of s i) 2 0 ≡ 0
  pub zero : get_or (slot_of s i) 2 0 ≡ 0 → of_node (node_view s i) ≡ refused not_found

-- slot k is that of the k-th number, so equal numbers have equal slots; words after the last slot are as they were
pub record PageSlots (s : Sections) (numbers slots : List ℕ) : Type 0 where
  pub slot : (k : ℕ) → k < length numbers → take slot_words (drop (slot_words * k) (page_after s numbers slots)) ≡ slot_of s (get_or numbers k 0)
  pub equal : (j k : ℕ) → j < length numbers → k < length numbers → get_or numbers j 0 ≡ get_or numbers k 0
      → take slot_words (drop (slot_words * j) (page_after s numbers slots)) ≡ take slot_words (drop (slot_words * k) (page_after s numbers slots))
  pub later : drop (slot_words * length numbers) (page_after s numbers slots) ≡ drop (slot_words * length numbers) slots

-- where the page is not refused
abbrev pub PagesWritten : Type 0
PagesWritten = (s : Sections) (numbers slots : List ℕ) → page_rule (length numbers) (length slots) ≡ 0 → PageSlots s numbers slots

-- names on an `unfolding` line what a computation with this module needs
unfoldable pub pages : Unit {0}
unfolding slot_of page_rule page_after slot_view views sections lists refusals
pages = tt
