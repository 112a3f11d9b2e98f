-- The bytes of an image: header and sections, one after the other, with the checksum.
use Rattle.std.specs.Prelude.{ℕ, ◌+◌, List, [], ◌∷◌, ◌++◌, length, get_or}
use Rattle.laws.specs.Counted.{sum_of, join_of, counted}
use Rattle.words.specs.Words.{bytes_of, words}
use Rattle.checksum.specs.Crc.{checksum_of, crcs}
use Rattle.image.specs.Sections.{Sections, node_count, child_count, named_count, definition_count, item_count, index_count}
use Rattle.image.specs.Header.{magic, header_length, headers}

-- the entries of section k
unfoldable pub count_of : Sections → ℕ → ℕ
count_of s k =
    get_or
    (node_count s ∷ child_count s ∷ named_count s ∷ definition_count s ∷ item_count s ∷ index_count s ∷ length s.payload ∷ length s.strings ∷ [])
    k 0

-- the bytes of section k
unfoldable pub section_out : Sections → ℕ → List ℕ
section_out s k =
    get_or
    (bytes_of s.nodes ∷ bytes_of s.children ∷ bytes_of s.named ∷ bytes_of s.definitions ∷ bytes_of s.items ∷ bytes_of s.index
    ∷ s.payload ∷ s.strings ∷ [])
    k []

-- where section k begins
unfoldable pub start_of : Sections → ℕ → ℕ
start_of s k = header_length + sum_of k (λ j. length (section_out s j))

unfoldable pub body_of : Sections → List ℕ
body_of s = join_of 8 (section_out s)

-- magic; version, ink version, total length; eight pairs offset, count; checksum
unfoldable pub header_with : ℕ → Sections → ℕ → List ℕ
header_with ink s sum = magic ++ bytes_of (s.version ∷ ink ∷ start_of s 8 ∷ join_of 8 (λ k. start_of s k ∷ count_of s k ∷ []) ++ (sum ∷ []))

-- header and sections, with the checksum of all bytes but its own
unfoldable pub image_of : ℕ → Sections → List ℕ
image_of ink s = header_with ink s (checksum_of (header_with ink s 0 ++ body_of s)) ++ body_of s

-- names on an `unfolding` line what a computation with this module needs
unfoldable pub encodings : Unit {0}
unfolding count_of section_out start_of body_of header_with image_of headers counted words crcs
encodings = tt
