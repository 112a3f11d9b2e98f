-- What the writer answers: the length of the image, or the number of the first rule that is broken; with 23 the length that the image
-- needs, if a word can say it.
use Rattle.std.specs.Prelude.{ℕ, ◌≤◌, ◌≡◌, List, Bool, cond, ◌&&◌, length, leb, eqb}
use Rattle.words.specs.Words.{NONE}
use Rattle.image.specs.Refusals.{no_room}
use Rattle.image.specs.Sections.{Sections}
use Rattle.draft.specs.Draft.{write_words}
use Rattle.draft_image.specs.Encode.{image_for, encode_rule, out_after, encodes}
use Rattle.promises.specs.Answers.{Answer, given, refused}
use Rattle.writer.specs.Encoded.{Encoded, Written, Short, Refused}

-- by the rule, and the length that the image has
unfoldable pub encoded_by : ℕ → ℕ → Encoded
encoded_by r long = cond (eqb r 0) (Written long) (cond (eqb r no_room && leb long NONE) (Short long) (Refused r))

-- with counts of work words and output bytes
unfoldable pub encoded_of : ℕ → Sections → ℕ → ℕ → Encoded
encoded_of ink s work room = encoded_by (encode_rule ink s work room) (length (image_for ink s))

-- the number and the value of an answer: the length of the image that was written
abbrev pub of_encoded : Encoded → Answer ℕ
of_encoded (Written long) = given long
of_encoded (Short long) = refused no_room
of_encoded (Refused r) = refused r

-- ---- from step to step

-- the image fits the output, and a word can say how long it is
abbrev pub fits_output : ℕ → Sections → ℕ → Bool
fits_output ink s room = leb (length (image_for ink s)) room && leb (length (image_for ink s)) NONE

-- the answer and the output where the number is r
pub record EncodeAnswered (ink : ℕ) (s : Sections) (r : ℕ) (out₀ out : List ℕ) (a : Encoded) : Type 0 where
  pub answer : a ≡ encoded_by r (length (image_for ink s))
  pub output : out ≡ out_after r (image_for ink s) out₀

-- with as many work words as the draft needs, or more
abbrev pub WrittenWith : ℕ → Sections → List ℕ → List ℕ → Encoded → Type 0
WrittenWith ink s out₀ out a = (work : ℕ) → write_words s ≤ work → EncodeAnswered ink s (encode_rule ink s work (length out₀)) out₀ out a

-- names on an `unfolding` line what a computation with this module needs
unfoldable pub encoded : Unit {0}
unfolding encoded_by encoded_of encodes
encoded = tt
