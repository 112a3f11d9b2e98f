-- The texts and the node numbers of a written image are those of its draft.
use Rattle.std.specs.Prelude.{Some}
use Prim.Native.Nat.{ℕ, ◌+◌}
use mathlib.Core.Path.{◌≡◌, refl, sym, ap, ◌∙◌}
use mathlib.Core.List.{List, [], ◌∷◌}
use mathlib.Core.Bool.{Bool, true, false, cond, ◌&&◌}
use native.Mathlib.Omega.{arith}
use lib.ListN.{length}
use lib.Dec.{leb}
use borrow.Author.Tests.{eqb-true, eq-eqb, ne_eqb}
use Rattle.laws.specs.Lists.{place_in}
use Rattle.laws.proofs.Flags.{both_true}
use Rattle.laws.proofs.Places.{place_le}
use Rattle.words.specs.Words.{NONE, is_none}
use Rattle.texts.specs.Text.{holds}
use Rattle.image.specs.Sections.{Sections, text_at, part_at, present, absent, good_in, good_text, good_optional, good_bytes}
use Rattle.draft.specs.Numbering.{old_of, new_of}
use Rattle.draft_image.specs.Strings.{text_if, offset_of}
use Rattle.views.specs.View.{span, shown, optional_text, optional_word}
use Rattle.written.proofs.Lists.{or_else}
use Rattle.draft_image.proofs.HeldTexts.{in_one}
use Rattle.written.proofs.Texts.{good-text, good_length}
use Rattle.draft_image.proofs.Blocks.{w}
use Rattle.written.proofs.Fields.{Given, few, new_is, new_in, old_in, old_new, new_old, new_zero}
use Rattle.written.proofs.Rules.{good_at, text_at_lem}
use Rattle.written_views.specs.Views.{renumbered, Renumbers, SameText, SameOptional}

-- a good text is present and inside
pub good-shown : (s : Sections) (at len : ℕ) → good_text s at len ≡ true → shown (length s.strings) at len ≡ true
unfolding good_in
good-shown s at len h = (both_true (present at len && leb (at + len) (length s.strings)) (good_bytes (part_at s.strings at len)) h).0

-- a text that is absent is not shown
none-shown : (strings at len : ℕ) → at ≡ NONE → shown strings at len ≡ false
none-shown strings at len e = rw (eq-eqb at NONE e)

module _ {s : Sections} {order : List ℕ} {kept : List (List ℕ)} (g : Given s order kept) where
  abbrev t : Sections
  t = w s order kept

  -- ---- texts

  -- a text of the draft at a and n, written at b and m
  pub text_same : (a n b m : ℕ) → good_text s a n ≡ true → holds kept (text_at s a n) ≡ true → b ≡ offset_of kept (text_at s a n) → m ≡ length (text_at s a n)
      → SameText s t (span a n) (span b m)
  text_same a n b m h k p q =
      record {
        drafted = good-shown s a n h;
        written = good-shown t b m (good_at g (text_at s a n) b m k (good-text s a n h) p q);
        len = q ∙ good_length s a n h;
        bytes = text_at_lem g (text_at s a n) b m k p q;
      }

  pub optional-same : (a n b m : ℕ) → good_optional s a n ≡ true → ((x : List ℕ) → holds (text_if s a n) x ≡ true → holds kept x ≡ true)
      → b ≡ cond (absent a n) NONE (offset_of kept (text_at s a n)) → m ≡ cond (absent a n) NONE (length (text_at s a n))
      → SameOptional s t (optional_text (length s.strings) a n) (optional_text (length t.strings) b m)
  unfolding optional_text
  optional-same a n b m h k p q = by (absent a n) refl k p q
    where
      by : (c : Bool) → absent a n ≡ c → ((x : List ℕ) → holds (cond c [] (text_at s a n ∷ [])) x ≡ true → holds kept x ≡ true)
          → b ≡ cond c NONE (offset_of kept (text_at s a n)) → m ≡ cond c NONE (length (text_at s a n))
          → SameOptional s t (optional_text (length s.strings) a n) (optional_text (length t.strings) b m)
      by true e l x y =
          rw (
            none-shown (length s.strings) a n (eqb-true a NONE (both_true (is_none a) (is_none n) e).0),
            none-shown (length t.strings) b m x,
          ) tt
      by false e l x y =
          let same = text_same a n b m (or_else (absent a n) (good_text s a n) h e) (l (text_at s a n) (in_one (text_at s a n))) x y in
          rw (same.drafted, same.written) same

  -- ---- numbers

  placed-some : (n : ℕ) → is_none (place_in order n) ≡ false
  placed-some n = ne_eqb (place_in order n) NONE (λ e. omega (arith, place_le order n, g.numbered.len, few g))

  pub new_placed : (n : ℕ) → is_none n ≡ false → new_of order n ≡ place_in order n
  unfolding new_of
  new_placed n e = rw e refl

  pub word_same : (n : ℕ) → optional_word (new_of order n) ≡ renumbered order (optional_word n)
  unfolding optional_word new_of
  word_same n = by (is_none n) refl
    where
      by : (c : Bool) → is_none n ≡ c → optional_word (new_of order n) ≡ renumbered order (optional_word n)
      by true e = rw e refl
      by false e = rw (e, placed-some n) (ap Some (sym (new_placed n e)))

  pub none-same : (n : ℕ) → is_none (new_of order n) ≡ is_none n
  none-same n = by (is_none n) refl
    where
      by : (c : Bool) → is_none n ≡ c → is_none (new_of order n) ≡ c
      by true e = unfold new_of in rw e
      by false e = rw (new_placed n e) (placed-some n)

  pub numbers-same : Renumbers s order
  numbers-same =
      record {
        root = new_is g 0 g.taken.tables.some ∙ new_zero g;
        new_inside = λ i h. omega (arith, new_is g i h, new_in g i h);
        old_inside = old_in g;
        there_and_back = λ i h. ap (λ (x : ℕ). old_of order x) (new_is g i h) ∙ old_new g i h;
        back-and-there = λ j h. new_is g (old_of order j) (old_in g j h) ∙ new_old g j h;
      }
