-- The exported load: its number, and the lent words on return.
use Rattle.std.specs.Prelude.{Err, Ok, Result, ℕ}
use Prim.Native.Nat.{ℕ, ◌≤◌, ◌<◌}
use mathlib.Core.Path.{◌≡◌, sym, ap, ◌∙◌}
use mathlib.Core.List.{List}
use mathlib.Core.Bool.{Bool, true, cond}
use lib.ListN.{length}
use borrow.Author.Tests.{le-leb, lt-leb}
use Rattle.image.specs.declared.ImageView.{ImageView}
use Rattle.image.specs.Header.{view_of}
use Rattle.load.specs.Load.{load_rule, loaded_of, early, work_after}
use Rattle.load.proofs.Answers.{left_alone}
use Rattle.load.proofs.Numbered.{viewed, refused, early-without, early-some}
use Rattle.answers.proofs.LentSlices.{words_left}
use Rattle.story_image.specs.Exported.{words_of_view, view_length, lent_words, written_after}

lent_all : (view work : ℕ) → view_length ≤ view → work ≡ lent_words view work
lent_all view work h = sym (ap (λ (b : Bool). cond b work 0) (le-leb view_length view h))

lent_none : (view work : ℕ) → view < view_length → 0 ≡ lent_words view work
lent_none view work h = sym (ap (λ (b : Bool). cond b work 0) (lt-leb view_length view h))

pub no_view : (bs work view ws : List ℕ) (needed r : ℕ) → length view < view_length → r ≡ load_rule bs 0
    → (r ≡ load_rule bs (lent_words (length view) (length work))) × (work ≡ work_after needed r work) × (view ≡ written_after r ws view)
no_view bs work view ws needed r h e =
    let q : early r ≡ true = ap early e ∙ early-without bs in
    (e ∙ ap (load_rule bs) (lent_none (length view) (length work) h), left_alone needed r work q, words_left r ws view (early-some r q))

module _ (bs : List ℕ) (work : ℕ) (a : Result ImageView ℕ) (view : ℕ) (h : view_length ≤ view) (e : a ≡ loaded_of bs work) where
  pub accepted-number : (u : ImageView) → a ≡ Ok u → 0 ≡ load_rule bs (lent_words view work)
  accepted-number u q = (viewed bs work a e u q).0 ∙ ap (load_rule bs) (lent_all view work h)

  pub refused-number : (k : ℕ) → a ≡ Err k → k ≡ load_rule bs (lent_words view work)
  refused-number k q = (refused bs work a e k q).0 ∙ ap (load_rule bs) (lent_all view work h)

  pub accepted-words : (u : ImageView) (needed : ℕ) (w now : List ℕ) → a ≡ Ok u → now ≡ work_after needed (load_rule bs work) w → now ≡ work_after needed 0 w
  accepted-words u needed w now q p = p ∙ ap (λ (r : ℕ). work_after needed r w) (sym (viewed bs work a e u q).0)

  pub refused-words : (k : ℕ) (needed : ℕ) (w now : List ℕ) → a ≡ Err k → now ≡ work_after needed (load_rule bs work) w → now ≡ work_after needed k w
  refused-words k needed w now q p = p ∙ ap (λ (r : ℕ). work_after needed r w) (sym (refused bs work a e k q).0)

  pub accepted-view : (u : ImageView) (xs now : List ℕ) → a ≡ Ok u → now ≡ written_after 0 (words_of_view u) xs → now ≡ written_after 0 (words_of_view (view_of bs)) xs
  accepted-view u xs now q p = p ∙ ap (λ (v : ImageView). written_after 0 (words_of_view v) xs) (viewed bs work a e u q).1

  pub refused-view : (k : ℕ) (ws xs : List ℕ) → a ≡ Err k → xs ≡ written_after k ws xs
  refused-view k ws xs q = words_left k ws xs (refused bs work a e k q).1
