-- What a query answers under lent words of a view.
use Rattle.std.specs.Prelude.{None, Option, Some}
use Prim.Native.Nat.{ℕ, ◌≤◌, ◌<◌}
use mathlib.Core.Path.{◌≡◌, sym, ap, ◌∙◌}
use mathlib.Core.List.{List, [], ◌∷◌}
use mathlib.Core.Bool.{Bool, cond}
use lib.ListN.{length}
use borrow.Author.Tests.{le-leb, lt-leb}
use Rattle.image.specs.declared.ImageView.{ImageView}
use Rattle.list_items.specs.declared.ItemSearch.{ItemSearch}
use Rattle.list_items.specs.Search.{list_search}
use Rattle.answers.specs.AnswerWords.{Answered, answer_after}
use Rattle.answers.proofs.AnswerSlices.{unanswered, answered_as}
use Rattle.image.specs.Header.{version, sections_by}
use Rattle.story_image.specs.Exported.{words_of_view, view_length, view_by, under}
use Rattle.story_image.specs.Queries.{searched_after}

-- the words of a view of the one version there is give it back
pub view-back : (v : ImageView) → v.version ≡ version → view_by (words_of_view v) ≡ v
view-back v e =
    λ t. record {
      version = sym e t;
      ink_version = v.ink_version;
      nodes = v.nodes;
      children = v.children;
      named = v.named;
      definitions = v.definitions;
      items = v.items;
      index = v.index;
      payload = v.payload;
      strings = v.strings;
    }

module _ (view : List ℕ) (query : ImageView → Option (List ℕ)) where
  pub too_few : length view < view_length → None ≡ under view query
  unfolding under
  too_few h = sym (ap (λ (b : Bool). cond b (query (view_by view)) None) (lt-leb view_length (length view) h))

  pub enough : view_length ≤ length view → (v : ImageView) → v ≡ view_by view → query v ≡ under view query
  unfolding under
  enough h v e = ap query e ∙ sym (ap (λ (b : Bool). cond b (query (view_by view)) None) (le-leb view_length (length view) h))

  -- too few words: 18
  pub no_view : (xs : List ℕ) → length view < view_length → Answered (under view query) xs xs 18
  no_view xs h = unanswered (under view query) xs (too_few h)

  -- otherwise what the query answers under their view
  pub asked : (xs now : List ℕ) (r : ℕ) → view_length ≤ length view → (v : ImageView) → v ≡ view_by view → (o : Option (List ℕ)) → o ≡ query v
      → Answered o xs now r → Answered (under view query) xs now r
  asked xs now r h v e o q a = answered_as o (under view query) xs now r (q ∙ enough h v e) a

-- ---- the words lent for the number of definitions that were searched

module _ (bytes view name searched : List ℕ) where
  -- too few words of a view: they stay
  pub searched-without : length view < view_length → searched ≡ searched_after bytes view name searched
  unfolding searched_after
  searched-without h = rw (lt-leb view_length (length view) h)

  -- otherwise the first gets what the search counts under their view
  pub searched-under : view_length ≤ length view → (v : ImageView) → v ≡ view_by view → (r : ItemSearch) → r ≡ list_search (sections_by bytes v) name
      → (now : List ℕ) → now ≡ answer_after (Some (r.searched ∷ [])) searched → now ≡ searched_after bytes view name searched
  unfolding searched_after
  searched-under h v e r q now w =
      rw (le-leb view_length (length view) h)
      (w ∙ ap (λ (x : ItemSearch). answer_after (Some (x.searched ∷ [])) searched) (q ∙ ap (λ (u : ImageView). list_search (sections_by bytes u) name) e))
