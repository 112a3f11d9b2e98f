-- What the exported writer returns, and the lent slices on return. The length of the image, written or needed, is the first word that is
-- lent for it.
use Rattle.std.specs.Prelude.{ℕ, ◌≡◌, List, ◌∷◌, cond, ◌&&◌, ◌||◌, length, drop, leb, eqb}
use Rattle.words.specs.Words.{NONE}
use Rattle.image.specs.Refusals.{no_room}
use Rattle.image.specs.Sections.{Sections}
use Rattle.draft.specs.Draft.{write_words}
use Rattle.draft_image.specs.Encode.{image_for, encode_rule, out_after, encode_work_after}

-- work words that count: none where no word is lent for the length
abbrev pub words_with_length : ℕ → ℕ → ℕ
words_with_length written work = cond (leb 1 written) work 0

-- the words lent for the length on return, where the answer is a number: the length with 0, and with 23 if a word can say it; words past
-- the first stay
unfoldable pub length_after : ℕ → ℕ → List ℕ → List ℕ
length_after r long written = cond (eqb r 0 || (eqb r no_room && leb long NONE)) (long ∷ drop 1 written) written

-- of a draft's sections: the number, and output, work words and length before and after
pub record Wrote (ink : ℕ) (s : Sections) (out₀ out work₀ work written₀ written : List ℕ) (r : ℕ) : Type 0 where
  pub number : r ≡ encode_rule ink s (words_with_length (length written₀) (length work₀)) (length out₀)
  pub output : out ≡ out_after r (image_for ink s) out₀
  pub words : work ≡ encode_work_after (write_words s) r work₀
  pub long : written ≡ length_after r (length (image_for ink s)) written₀
