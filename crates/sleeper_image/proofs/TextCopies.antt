-- A text copied, and its length, under lent words of a view.
use Rattle.std.specs.Prelude.{None, Option, Some, ℕ}
use Prim.Native.Nat.{ℕ, ◌≤◌, ◌<◌}
use mathlib.Core.Path.{◌≡◌, refl, sym, ap, ◌∙◌}
use mathlib.Core.List.{List}
use lib.ListN.{length}
use borrow.Author.Tests.{le-leb, lt-leb, ne_eqb}
use Rattle.answers.specs.AnswerWords.{Answered, found_answer}
use Rattle.answers.specs.Lent.{Spelled}
use Rattle.answers.proofs.AnswerSlices.{unanswered, answered_as}
use Rattle.answers.proofs.LentSlices.{unspelled, spelled_as}
use Rattle.sleeper.specs.declared.SleeperView.{SleeperView}
use Rattle.sleeper.specs.declared.Which.{Which}
use Rattle.sleeper.specs.declared.Which.TheVariants as which
use Rattle.sleeper.specs.Reader.{sleeper_sections}
use Rattle.sleeper.specs.Texts.{length_if, sleeper_text}
use Rattle.sleeper_image.specs.Exported.{view_length, view_by, under}
use Rattle.sleeper_image.specs.Texts.{text_kinds, which_by, text_under, length_words, answer_of_text_length}
use Rattle.sleeper_image.proofs.Views.{too_few}

-- ---- the length of a text, in words

length-words : (o : Option (List ℕ)) → found_answer (length_if o) ≡ length_words o
length-words None = refl
length-words (Some t) = refl

-- ---- under lent words of a view

module _ (bytes view : List ℕ) (kind a b : ℕ) where
  under_few : length view < view_length → text_under bytes view kind a b ≡ None
  unfolding text_under
  under_few h = sym (too_few view _ h)

  under_none : view_length ≤ length view → text_kinds ≤ kind → text_under bytes view kind a b ≡ None
  unfolding text_under under
  under_none h k = rw (le-leb view_length (length view) h, le-leb text_kinds kind k) refl

  pub under_some : view_length ≤ length view → kind < text_kinds → (v : SleeperView) → v ≡ view_by view → (w : Which) → w ≡ which_by kind a b
      → sleeper_text (sleeper_sections bytes v) w ≡ text_under bytes view kind a b
  unfolding text_under under
  under_some h k v e w q =
      (λ i. sleeper_text (sleeper_sections bytes (e i)) (q i)) ∙ rw (le-leb view_length (length view) h, lt-leb text_kinds kind k) refl

  -- the copy
  pub no_view : (text size : List ℕ) → length view < view_length → Spelled (text_under bytes view kind a b) text text size size 18
  no_view text size h = unspelled (text_under bytes view kind a b) text size (under_few h)

  pub no_kind : (text size : List ℕ) → view_length ≤ length view → text_kinds ≤ kind → Spelled (text_under bytes view kind a b) text text size size 18
  no_kind text size h k = unspelled (text_under bytes view kind a b) text size (under_none h k)

  pub text-asked : (text size : List ℕ) → view_length ≤ length view → kind < text_kinds → (v : SleeperView) → v ≡ view_by view → (w : Which) → w ≡ which_by kind a b
      → (text₁ size₁ : List ℕ) (r : ℕ) → Spelled (sleeper_text (sleeper_sections bytes v) w) text text₁ size size₁ r
      → Spelled (text_under bytes view kind a b) text text₁ size size₁ r
  text-asked text size h k v e w q text₁ size₁ r c = spelled_as _ (text_under bytes view kind a b) text text₁ size size₁ r (under_some h k v e w q) c

  -- the length
  pub no_length-view : (xs : List ℕ) → length view < view_length → Answered (answer_of_text_length bytes view kind a b) xs xs 18
  no_length-view xs h = unanswered (answer_of_text_length bytes view kind a b) xs (sym (ap length_words (under_few h)))

  pub no_length-kind : (xs : List ℕ) → view_length ≤ length view → text_kinds ≤ kind → Answered (answer_of_text_length bytes view kind a b) xs xs 18
  no_length-kind xs h k = unanswered (answer_of_text_length bytes view kind a b) xs (sym (ap length_words (under_none h k)))

  pub length-asked : (xs now : List ℕ) (r : ℕ) → view_length ≤ length view → kind < text_kinds → (v : SleeperView) → v ≡ view_by view
      → (w : Which) → w ≡ which_by kind a b → (c : Option ℕ) → c ≡ length_if (sleeper_text (sleeper_sections bytes v) w) → Answered (found_answer c) xs now r
      → Answered (answer_of_text_length bytes view kind a b) xs now r
  length-asked xs now r h k v e w q c l p =
      answered_as (found_answer c) (answer_of_text_length bytes view kind a b) xs now r
      (ap found_answer l ∙ length-words (sleeper_text (sleeper_sections bytes v) w) ∙ ap length_words (under_some h k v e w q)) p

-- ---- which text: the last kind

pub last-kind : (kind a b : ℕ) → (kind ≡ 0 → ⊥) → (kind ≡ 1 → ⊥) → (kind ≡ 2 → ⊥) → (kind ≡ 3 → ⊥) → (kind ≡ 4 → ⊥) → (kind ≡ 5 → ⊥) → (kind ≡ 6 → ⊥)
    → (kind ≡ 7 → ⊥) → which.Origin a b ≡ which_by kind a b
last-kind k a b d e f g h i j l =
    rw (ne_eqb k 0 d, ne_eqb k 1 e, ne_eqb k 2 f, ne_eqb k 3 g, ne_eqb k 4 h, ne_eqb k 5 i, ne_eqb k 6 j, ne_eqb k 7 l) refl
