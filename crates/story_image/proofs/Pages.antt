-- A page under lent words of a view, and the view of its slots against the lone call.
use Rattle.std.specs.Prelude.{None}
use Prim.Native.Nat.{ℕ, ◌*◌, ◌≤◌, ◌<◌}
use mathlib.Core.Path.{◌≡◌, refl, ap, ◌∙◌}
use mathlib.Core.List.{List}
use mathlib.Core.Bool.{Bool, true, false, cond}
use native.Mathlib.Omega.{arith}
use lib.ListN.{length, get_or, take, drop}
use lib.Dec.{leb}
use borrow.Author.Tests.{le-leb, lt-leb}
use Rattle.image.specs.declared.ImageView.{ImageView}
use Rattle.image.specs.Sections.{Sections}
use Rattle.image.specs.Header.{sections_by}
use Rattle.pages.specs.Page.{slot_words, page_rule, page_after, slot_view}
use Rattle.pages.proofs.Slots.{slot-views, pages-written}
use Rattle.views.specs.View.{node_view}
use Rattle.answers.specs.NodeViewWords.{node_answer}
use Rattle.story_image.specs.Exported.{view_length, view_by, under}
use Rattle.story_image.specs.Queries.{page_number, page_written}
use Rattle.story_image.specs.Accepted.{PagedViews}

module _ (bytes view numbers slots : List ℕ) where
  -- what a page returns, and the slots on return
  abbrev pub PageReturned : ℕ → List ℕ → Type 0
  PageReturned r now = (r ≡ page_number (length view) (length numbers) (length slots)) × (now ≡ page_written bytes view numbers slots)

  -- too few words: 18, and nothing is written
  pub page-without : length view < view_length → PageReturned 18 slots
  unfolding page_number page_written
  page-without h = let t = lt-leb view_length (length view) h in (rw t refl, rw t refl)

  -- otherwise what the page is under their view
  pub page-under : view_length ≤ length view → (v : ImageView) → v ≡ view_by view → (r : ℕ) (now : List ℕ)
      → r ≡ page_rule (length numbers) (length slots) → now ≡ page_after (sections_by bytes v) numbers slots → PageReturned r now
  unfolding page_number page_written
  page-under h v e r now p q =
      let t = le-leb view_length (length view) h in
      (rw t p, rw t (q ∙ ap (λ (w : ImageView). page_after (sections_by bytes w) numbers slots) e))

-- the view of slot k is what the lone call gives for the k-th number
slot_same : (s : Sections) (numbers slots : List ℕ) → page_rule (length numbers) (length slots) ≡ 0 → (k : ℕ) → k < length numbers
    → slot_view s (take slot_words (drop (slot_words * k) (page_after s numbers slots))) ≡ node_view s (get_or numbers k 0)
slot_same s numbers slots h k l = ap (slot_view s) ((pages-written s numbers slots h).slot k l) ∙ slot-views s (get_or numbers k 0)

-- what both calls answer under lent words of a view, by whether they are enough
by_view : (s : Sections) (numbers slots : List ℕ) (k : ℕ) → k < length numbers → (b : Bool) → cond b (page_rule (length numbers) (length slots)) 18 ≡ 0
    → cond b (node_answer (slot_view s (take slot_words (drop (slot_words * k) (cond b (page_after s numbers slots) slots))))) None
    ≡ cond b (node_answer (node_view s (get_or numbers k 0))) None
by_view s numbers slots k l true z = ap node_answer (slot_same s numbers slots z k l)
by_view s numbers slots k l false z = absurd (let e : ◌≡◌ {A = ℕ} 18 0 = z in omega arith)

pub paged_views : PagedViews
unfolding page_number page_written under
paged_views bs view numbers slots h k l = by_view (sections_by bs (view_by view)) numbers slots k l (leb view_length (length view)) h
