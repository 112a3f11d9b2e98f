-- What holds of every draft that `encode` has written: demand 3 of the output up to the length reported, with no premise but that words
-- are words and bytes are bytes.
use Rattle.std.specs.Prelude.{ℕ, ◌≤◌, ◌<◌, ◌≡◌, List, true, length, take}
use Rattle.words.specs.Words.{NONE}
use Rattle.image.specs.Refusals.{no_room}
use Rattle.image.specs.Sections.{Sections, node_count, is_container}
use Rattle.image.specs.Header.{version, sections_of}
use Rattle.index.specs.Paths.{canonical_path}
use Rattle.load.specs.Load.{load_rule, load_words}
use Rattle.draft.specs.Numbering.{numbering, old_of}
use Rattle.draft_image.specs.Encode.{image_for, encode_rule, out_after}
use Rattle.promises.specs.Answers.{given}
use Rattle.promises.specs.Promises.{Sound, OneSpelling}
use Rattle.promises.specs.Rules.{Iff}
use Rattle.promises.specs.Readers.{ImageReads}
use Rattle.promises.specs.Lookups.{Lookups}
use Rattle.written.specs.DraftRules.{EncodeRight}
use Rattle.written.specs.Written.{DraftWords}
use Rattle.written_views.specs.Views.{SameViews}
use Rattle.writer.specs.Encoded.{Written, Short, Refused}
use Rattle.writer.specs.Answer.{encoded_of, of_encoded}

-- the output's first n bytes are an image
pub record Promised (s : Sections) (image : List ℕ) : Type 0 where
  -- a load with work words enough accepts it
  pub loads : (enough : ℕ) → load_words (sections_of image) ≤ enough → load_rule image enough ≡ 0
  -- nothing sticks in it, and no query on it misses what is there
  pub sound : Sound (sections_of image)
  pub reads : ImageReads (sections_of image)
  pub lookups : Lookups (sections_of image)
  -- one spelling in its index
  pub spelling : OneSpelling (sections_of image)
  -- a reader sees in it what the author wrote, and its canonical paths are the draft's
  pub views : SameViews s (sections_of image) (numbering s)
  pub paths : (j : ℕ) → j < node_count s → is_container s (old_of (numbering s) j) ≡ true
      → canonical_path (sections_of image) j ≡ canonical_path s (old_of (numbering s) j)

-- of every answer `Written n` of `encode`, by its contract: the output is that of the clause `output`
abbrev pub EncodedKeeps : Type 0
EncodedKeeps =
    (ink : ℕ) (s : Sections) (work n : ℕ) (out : List ℕ) → s.version ≡ version → DraftWords s → of_encoded (encoded_of ink s work (length out)) ≡ given n
    → (take n (out_after (encode_rule ink s work (length out)) (image_for ink s) out) ≡ image_for ink s)
    × Promised s (take n (out_after (encode_rule ink s work (length out)) (image_for ink s) out))

-- exactly the drafts that keep the writer's rules are written, and the length reported is the image's
pub record WrittenExactly (ink : ℕ) (s : Sections) (work room : ℕ) : Type 0 where
  pub taken : Iff ((of_encoded (encoded_of ink s work room)).number ≡ 0) (EncodeRight ink s work room)
  pub reported : (n : ℕ) → of_encoded (encoded_of ink s work room) ≡ given n → n ≡ length (image_for ink s)
  -- the number is that of the first rule broken
  pub number : (of_encoded (encoded_of ink s work room)).number ≡ encode_rule ink s work room

abbrev pub EncodedExactly : Type 0
EncodedExactly = (ink : ℕ) (s : Sections) (work room : ℕ) → WrittenExactly ink s work room

-- what an output that is too short is told
pub record LengthTold (ink : ℕ) (s : Sections) (work room : ℕ) : Type 0 where
  -- with 23, the length of the image wherever a word can say it
  pub told : (of_encoded (encoded_of ink s work room)).number ≡ no_room → length (image_for ink s) ≤ NONE → encoded_of ink s work room ≡ Short (length (image_for ink s))
  -- it is the image's, and more than the output has
  pub right : (n : ℕ) → encoded_of ink s work room ≡ Short n → (n ≡ length (image_for ink s)) × (room < n)
  -- a second call with an output of so many bytes or more, and as many work words, writes the image
  pub enough : (n more : ℕ) → encoded_of ink s work room ≡ Short n → n ≤ more → encoded_of ink s work more ≡ Written n
  -- where none is told, no output is long enough
  pub never : encoded_of ink s work room ≡ Refused no_room → (more : ℕ) → encoded_of ink s work more ≡ Refused no_room

abbrev pub ShortTells : Type 0
ShortTells = (ink : ℕ) (s : Sections) (work room : ℕ) → LengthTold ink s work room
