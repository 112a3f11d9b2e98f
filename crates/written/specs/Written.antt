-- What holds of the image of every draft that the writer takes: the statements.
use Rattle.std.specs.Prelude.{ℕ, ◌^◌, ◌≤◌, ◌<◌, ◌≡◌, true}
use Rattle.laws.specs.Lists.{Below}
use Rattle.image.specs.Sections.{Sections, node_count, is_container}
use Rattle.image.specs.Header.{version, header_rule, sections_of}
use Rattle.index.specs.Paths.{canonical_path}
use Rattle.load.specs.Load.{load_rule, load_words, Accepted}
use Rattle.draft.specs.Numbering.{numbering, old_of}
use Rattle.draft_image.specs.Written.{written}
use Rattle.draft_image.specs.Encode.{image_for, encode_rule}
use Rattle.promises.specs.Promises.{Sound, OneSpelling}

-- the words of a draft are words, its bytes are bytes: what slices of u32 and u8 hold
pub record DraftWords (s : Sections) : Type 0 where
  pub nodes : Below (2 ^ 32) s.nodes
  pub children : Below (2 ^ 32) s.children
  pub named : Below (2 ^ 32) s.named
  pub definitions : Below (2 ^ 32) s.definitions
  pub items : Below (2 ^ 32) s.items
  pub payload : Below 256 s.payload
  pub strings : Below 256 s.strings

-- P holds of every ink version and draft that the writer takes, with whatever counts of work words and output bytes
abbrev pub Written : (ℕ → Sections → Type 0) → Type 0
Written P =
    (ink : ℕ) (s : Sections) (work room : ℕ) → s.version ≡ version → DraftWords s → encode_rule ink s work room ≡ 0 → P ink s

-- ---- the image loads

-- with as many work words as loading counts, or more
abbrev pub WrittenLoads : Type 0
WrittenLoads =
    Written (λ ink s. (enough : ℕ) → load_words (sections_of (image_for ink s)) ≤ enough → load_rule (image_for ink s) enough ≡ 0)

abbrev pub WrittenAccepted : Type 0
WrittenAccepted = Written (λ ink s. Accepted (image_for ink s))

-- ---- what it holds

-- its header breaks none of the rules 1 to 5
abbrev pub HeaderPasses : Type 0
HeaderPasses = Written (λ ink s. header_rule (image_for ink s) ≡ 0)

-- its bytes are bytes, of any draft
abbrev pub ImageBytes : Type 0
ImageBytes = (ink : ℕ) (s : Sections) → DraftWords s → Below 256 (image_for ink s)

-- its bytes give back the sections that were written
abbrev pub RoundTrip : Type 0
RoundTrip = Written (λ ink s. sections_of (image_for ink s) ≡ written s)

-- the canonical path of each of its containers is that of the draft's container that it was written for
abbrev pub SamePaths : Type 0
SamePaths =
    Written (λ ink s. (j : ℕ) → j < node_count s → is_container s (old_of (numbering s) j) ≡ true
    → canonical_path (sections_of (image_for ink s)) j ≡ canonical_path s (old_of (numbering s) j))

-- ---- nothing sticks

-- demand 3, all of it, holds of the image
abbrev pub WrittenSound : Type 0
WrittenSound = Written (λ ink s. Sound (sections_of (image_for ink s)))

-- one spelling in its index: each text is its target's path, no two containers have one path, each but the root has a name or a place
abbrev pub WrittenOneSpelling : Type 0
WrittenOneSpelling = Written (λ ink s. OneSpelling (sections_of (image_for ink s)))
