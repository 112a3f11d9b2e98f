-- Targets counted under lent words of a view.
use Prim.Native.Nat.{ℕ, ◌≤◌, ◌<◌}
use mathlib.Core.Path.{◌≡◌, refl, sym, ap, ◌∙◌}
use mathlib.Core.List.{List}
use mathlib.Core.Bool.{Bool, true, false}
use lib.ListN.{length, drop}
use lib.Dec.{leb}
use borrow.Author.Tests.{le-leb, lt-leb, leb-true}
use Rattle.laws.specs.Refusal.{unless}
use Rattle.laws.proofs.First.{passed}
use Rattle.image.specs.declared.ImageView.{ImageView}
use Rattle.image.specs.Sections.{Sections, node_count}
use Rattle.image.specs.Header.{sections_by}
use Rattle.image.specs.Refusals.{bad_summary}
use Rattle.target_counts.specs.Summary.{RightSummary, AddsUp, summary_rule, summary_after}
use Rattle.target_counts.proofs.Counting.{counted-summary}
use Rattle.story_image.specs.Exported.{view_length, view_by}
use Rattle.story_image.specs.Queries.{count_number, count_written}
use Rattle.story_image.specs.Accepted.{CountExports}

-- the summary on return
abbrev after : Sections → List ℕ → List ℕ
after s summary = summary_after (summary_rule s (length summary)) s summary

module _ (bytes view summary : List ℕ) where
  -- what a count returns, and the summary on return
  abbrev pub CountReturned : ℕ → List ℕ → Type 0
  CountReturned r now = (r ≡ count_number bytes view (length summary)) × (now ≡ count_written bytes view summary)

  -- too few words: 18, and nothing is written
  pub count-without : length view < view_length → CountReturned 18 summary
  unfolding count_number count_written
  count-without h = let t = lt-leb view_length (length view) h in (rw t refl, rw t refl)

  -- otherwise what the count is under their view
  pub count_under : view_length ≤ length view → (v : ImageView) → v ≡ view_by view → (r : ℕ) (now : List ℕ)
      → r ≡ summary_rule (sections_by bytes v) (length summary) → now ≡ after (sections_by bytes v) summary → CountReturned r now
  unfolding count_number count_written
  count_under h v e r now p q =
      let t = le-leb view_length (length view) h in (
        rw t (p ∙ ap (λ (w : ImageView). summary_rule (sections_by bytes w) (length summary)) e),
        rw t (q ∙ ap (λ (w : ImageView). after (sections_by bytes w) summary) e),
      )

-- ---- where the words of a right summary add up

module _ (s : Sections) (summary : List ℕ) where
  -- words past the nodes stay
  past-stays : drop (node_count s) (after s summary) ≡ drop (node_count s) summary
  unfolding summary_rule unless
  past-stays = by (leb (node_count s) (length summary)) refl
    where
      by : (b : Bool) → leb (node_count s) (length summary) ≡ b → drop (node_count s) (summary_after (unless b bad_summary) s summary) ≡ drop (node_count s) summary
      by true e = (counted-summary s summary (leb-true _ _ e)).past
      by false e = unfold summary_after in refl

  -- a summary that was counted is right
  right-after : summary_rule s (length summary) ≡ 0 → RightSummary s (after s summary)
  unfolding summary_rule
  right-after h = rw h (counted-summary s summary (leb-true _ _ (passed (leb (node_count s) (length summary)) _ h))).right

pub count-exports : (bytes view : List ℕ) (s : Sections) (summary : List ℕ) → AddsUp s
    → count_number bytes view (length summary) ≡ summary_rule s (length summary) → count_written bytes view summary ≡ after s summary
    → CountExports bytes view s summary
count-exports bytes view s summary adds number written =
    record {
      number = number;
      written = written;
      past = rw written (past-stays s summary);
      right = right;
      sum = λ h. adds (count_written bytes view summary) (right h);
    }
  where
    right : count_number bytes view (length summary) ≡ 0 → RightSummary s (count_written bytes view summary)
    right h = rw written (right-after s summary (sym number ∙ h))
