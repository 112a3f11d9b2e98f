-- Slots: their words, their views, and each at its place in a page.
use Rattle.std.specs.Prelude.{None, Option, Some}
use Prim.Native.Nat.{ℕ, ◌+◌, ◌*◌, ◌-◌, ◌/◌, ◌≤◌, ◌<◌}
use mathlib.Core.Path.{◌≡◌, refl, sym, ap, ◌∙◌}
use mathlib.Core.List.{List, ◌++◌}
use mathlib.Core.Bool.{Bool, true, false, cond, false≢true}
use native.Mathlib.Omega.{arith}
use native.Mathlib.Decide.{dec_lt}
use lib.ListN.{length, get_or, take, drop}
use lib.Seq.{drop_at}
use borrow.Author.Tests.{le-leb, lt-leb}
use borrow.Rule.Slice.PartMut.{put_mid}
use Rattle.laws.specs.Refusal.{unless}
use Rattle.laws.specs.Lists.{flat_map}
use Rattle.laws.proofs.Slots.{join_flat, join_length, flat_piece}
use Rattle.words.proofs.SlotLoop.{SlotsSoFar, slots-start, slots-next-part, slots_end}
use Rattle.image.specs.declared.NodeRecord.{NodeRecord}
use Rattle.image.specs.Sections.{Sections, common_words, inside}
use Rattle.image.specs.Entries.{node_in}
use Rattle.records.specs.Fields.{kinds, kind_of}
use Rattle.views.specs.declared.NodeView.{NodeView}
use Rattle.views.specs.View.{kind_view, with_kind, record_view, node_view}
use Rattle.views.specs.Answers.{of_node}
use Rattle.views.proofs.Given.{node-refused}
use Rattle.pages.specs.Viewed.{has_kind}
use Rattle.pages.specs.Page.{slot_words, node_slot, no_slot, slot_by, slot_of, page_rule, page_after, slot_record, view_of_record, slot_view, SlotViews, SlotTag, PageSlots, PagesWritten}
use Rattle.views.specs.declared.NodeKindView.{NodeKindView}

apart : (v : NodeView) → None ≡ Some v → ⊥
apart v h = let z : ◌≡◌ {A = ℕ} 0 1 = cc in omega arith

-- ---- a slot by what `node_view` answers

module _ (s : Sections) (i : ℕ) where
  pub slot-missing : None ≡ node_view s i → no_slot ≡ slot_of s i
  unfolding slot_of
  slot-missing h = rw (← h)

  pub slot-found : (v : NodeView) → Some v ≡ node_view s i → (x : NodeRecord) → x ≡ node_in s i → node_slot x ≡ slot_of s i
  unfolding slot_of
  slot-found v h x e = rw (← h) (ap node_slot e)

  kind-slot : (strings : List ℕ) (payload : ℕ) (x : NodeRecord) (k : Option NodeKindView) → with_kind strings payload x k ≡ node_view s i → x ≡ node_in s i
      → has_kind k ≡ true → node_slot x ≡ slot_of s i
  kind-slot strings payload x (Some w) e q h = slot-found _ e x q
  kind-slot strings payload x None e q h = absurd (false≢true h)

  kindless_slot : (strings : List ℕ) (payload : ℕ) (x : NodeRecord) (k : Option NodeKindView) → with_kind strings payload x k ≡ node_view s i → has_kind k ≡ false
      → no_slot ≡ slot_of s i
  kindless_slot strings payload x (Some w) e h = absurd (false≢true (sym h))
  kindless_slot strings payload x None e h = slot-missing e

  -- by the record of a node, and whether it has a kind
  module _ (strings : List ℕ) (payload : ℕ) (x : NodeRecord) (e : record_view strings payload x ≡ node_view s i) (b : Bool)
      (h : b ≡ has_kind (kind_view strings payload x (kind_of x.tag))) where
    pub viewed-slot : x ≡ node_in s i → b ≡ true → node_slot x ≡ slot_of s i
    unfolding record_view
    viewed-slot q t = kind-slot strings payload x (kind_view strings payload x (kind_of x.tag)) e q (sym h ∙ t)

    pub viewless_slot : b ≡ false → no_slot ≡ slot_of s i
    unfolding record_view
    viewless_slot t = kindless_slot strings payload x (kind_view strings payload x (kind_of x.tag)) e (sym h ∙ t)

by_length : (a : Option NodeView) (r : NodeRecord) → length (slot_by a r) ≡ slot_words
by_length (Some v) r = refl
by_length None r = refl

pub slot-length : (s : Sections) (i : ℕ) → length (slot_of s i) ≡ slot_words
unfolding slot_of
slot-length s i = by_length (node_view s i) (node_in s i)

-- a slot over the start of words, and over one that was written there before
module _ (s : Sections) (i : ℕ) (out slot now : List ℕ) (e : slot ≡ slot_of s i) where
  pub slot-over : now ≡ slot ++ drop slot_words out → now ≡ slot_of s i ++ drop slot_words out
  slot-over h = h ∙ ap (λ (l : List ℕ). l ++ drop slot_words out) e

  pub slot_again : (first mid : List ℕ) → length first ≡ slot_words → mid ≡ first ++ drop slot_words out → now ≡ slot ++ drop slot_words mid
      → now ≡ slot_of s i ++ drop slot_words out
  slot_again first mid l m h =
      slot-over (h ∙ ap (λ (z : List ℕ). slot ++ z) (ap (drop slot_words) m ∙ drop_at first (drop slot_words out) slot_words l))

-- ---- the view of a slot's words

-- a record beside the payload and strings of sections
pub record_viewed : (s : Sections) (r : NodeRecord) (payload : ℕ) (strings : List ℕ) → length s.payload ≡ payload → s.strings ≡ strings
    → (a : Option NodeView) → a ≡ record_view strings payload r → a ≡ view_of_record s r
record_viewed s r payload strings p q a e = e ∙ λ j. record_view (sym q j) (sym p j) r

module _ (s : Sections) (slot : List ℕ) where
  pub slot-short : length slot < common_words → None ≡ slot_view s slot
  unfolding slot_view
  slot-short h = rw (lt-leb common_words (length slot) h)

  pub slot-viewed : common_words ≤ length slot → (r : NodeRecord) → r ≡ slot_record slot → view_of_record s r ≡ slot_view s slot
  unfolding slot_view
  slot-viewed h r e = rw (le-leb common_words (length slot) h) (ap (view_of_record s) e)

-- a record with tag 0 has no view
tag_none : (s : Sections) (r : NodeRecord) → r.tag ≡ 0 → view_of_record s r ≡ None
unfolding record_view kind_view kinds
tag_none s r e = rw e

-- a node that has a view is inside
seen : (b : Bool) (a : Option NodeView) (v : NodeView) → cond b a None ≡ Some v → a ≡ Some v
seen true a v h = h
seen false a v h = absurd (apart v h)

node_seen : (s : Sections) (i : ℕ) (v : NodeView) → node_view s i ≡ Some v → view_of_record s (node_in s i) ≡ Some v
unfolding node_view
node_seen s i v h = seen (inside s i) (view_of_record s (node_in s i)) v h

pub slot-views : SlotViews
unfolding slot_of slot_view
slot-views s i = by (node_view s i) refl
  where
    by : (a : Option NodeView) → node_view s i ≡ a → slot_view s (slot_by a (node_in s i)) ≡ a
    by (Some v) h = node_seen s i v h
    by None h = unfold slot_view record_view kind_view kinds in refl

pub slot_tag : (s : Sections) (i : ℕ) → SlotTag s i
unfolding slot_of
slot_tag s i = record { none = λ h. rw (node-refused (node_view s i) h); zero = λ z. ap of_node (by (node_view s i) refl z) }
  where
    by : (a : Option NodeView) → node_view s i ≡ a → get_or (slot_by a (node_in s i)) 2 0 ≡ 0 → a ≡ None
    by (Some v) h z = sym (node_seen s i v h) ∙ tag_none s (node_in s i) z
    by None h z = refl

-- ---- the page

module _ (s : Sections) (numbers slots : List ℕ) where
  -- the slot of the j-th number
  abbrev slot_at : ℕ → List ℕ
  slot_at j = slot_of s (get_or numbers j 0)

  each-slot : (j : ℕ) → length (slot_at j) ≡ slot_words
  each-slot j = slot-length s (get_or numbers j 0)

  -- what a page answers, and the slots on return
  abbrev pub PageAnswered : ℕ → List ℕ → Type 0
  PageAnswered number now = (number ≡ page_rule (length numbers) (length slots)) × (now ≡ page_after s numbers slots)

  module _ (short : length slots < slot_words * length numbers) where
    refused : 24 ≡ page_rule (length numbers) (length slots)
    unfolding page_rule unless
    refused = rw (lt-leb (slot_words * length numbers) (length slots) short)

    pub page-refused : PageAnswered 24 slots
    unfolding page_after
    page-refused = (refused, rw (← refused))

  module _ (room : slot_words * length numbers ≤ length slots) where
    passed : 0 ≡ page_rule (length numbers) (length slots)
    unfolding page_rule unless
    passed = rw (le-leb (slot_words * length numbers) (length slots) room)

    page_is : page_after s numbers slots ≡ flat_map (slot_of s) numbers ++ drop (slot_words * length numbers) slots
    unfolding page_after
    page_is = rw (← passed)

    flat_length : length (flat_map (slot_of s) numbers) ≡ slot_words * length numbers
    flat_length = ap length (sym (join_flat (slot_of s) numbers)) ∙ join_length slot_words slot_at each-slot (length numbers)

    slots-placed : PageSlots s numbers slots
    slots-placed = record { slot = slot; equal = λ j k h l e. slot j h ∙ ap (slot_of s) e ∙ sym (slot k l); later = later }
      where
        slot : (k : ℕ) → k < length numbers → take slot_words (drop (slot_words * k) (page_after s numbers slots)) ≡ slot_of s (get_or numbers k 0)
        slot k h =
            ap (λ (l : List ℕ). take slot_words (drop (slot_words * k) l)) page_is
            ∙ flat_piece slot_words (slot_of s) (slot-length s) numbers (drop (slot_words * length numbers) slots) k h

        later : drop (slot_words * length numbers) (page_after s numbers slots) ≡ drop (slot_words * length numbers) slots
        later =
            ap (drop (slot_words * length numbers)) page_is
            ∙ drop_at (flat_map (slot_of s) numbers) (drop (slot_words * length numbers) slots) (slot_words * length numbers) flat_length

  -- ---- the loop of `page`: the slots of the numbers before k are written

  abbrev pub PageSoFar : List ℕ → ℕ → Type 0
  PageSoFar now k = SlotsSoFar slot_words (length numbers) slot_at slots now k

  pub page-start : length numbers ≤ length slots / slot_words → PageSoFar slots 0
  page-start h = slots-start slot_words (length numbers) slot_at each-slot slots (omega arith)

  module _ (now : List ℕ) (k : ℕ) (p : PageSoFar now k) where
    pub page-next : (slot part : List ℕ) → k < length numbers → slot ≡ slot_of s (get_or numbers k 0)
        → part ≡ slot ++ drop slot_words (take (length now - slot_words * k) (drop (slot_words * k) now))
        → PageSoFar (put_mid (slot_words * k) (length now - slot_words * k) now part) (k + 1)
    page-next slot part h e q = slots-next-part slot_words (length numbers) slot_at each-slot slots now k p slot part h e q

    pub page_end : length numbers ≤ k → PageAnswered 0 now
    page_end h = (
      passed p.room,
      slots_end slot_words (length numbers) slot_at each-slot slots now k p h
          ∙ rw (join_flat (slot_of s) numbers, flat_length p.room) (sym (page_is p.room)),
    )

pub pages-written : PagesWritten
pages-written s numbers slots h = by (dec_lt (length slots) (slot_words * length numbers))
  where
    by : Dec (length slots < slot_words * length numbers) → PageSlots s numbers slots
    by (yes l) = absurd (let z : ◌≡◌ {A = ℕ} 24 0 = (page-refused s numbers slots l).0 ∙ h in omega arith)
    by (no l) = slots-placed s numbers slots (omega arith)
