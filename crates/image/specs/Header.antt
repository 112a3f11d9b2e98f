-- The header: the view that it gives, the sections that a view bounds in bytes, and rows 1 to 5.
use Rattle.std.specs.Prelude.{ℕ, zero, suc, ◌+◌, ◌*◌, List, [], ◌∷◌, Bool, cond, ◌&&◌, not, length, get_or, take, leb, eqb, Result, Ok, Err}
use Rattle.laws.specs.Refusal.{unless, ◌▸◌, refusals}
use Rattle.laws.specs.Counted.{sum_of, all_of, counted}
use Rattle.words.specs.Words.{word_at, words_of, words}
use Rattle.checksum.specs.Crc.{skip_from, skip_to}
use Rattle.texts.specs.Text.{ascii, same, texts}
use Rattle.image.specs.Refusals.{bad_header, bad_version, bad_ink_version, bad_length, bad_sections}
use Rattle.image.specs.declared.Section.{Section}
use Rattle.image.specs.declared.ImageView.{ImageView}
use Rattle.image.specs.Sections.{Sections, node_size, child_size, text_entry_size, definition_size, part_at, sections}

unfoldable pub magic : List ℕ
magic = ascii "BLINKIMG"

-- the checksum ends the header
abbrev pub header_length : ℕ
header_length = skip_to

-- where the header's words stand behind the magic: of a section, offset and count
abbrev pub version_at : ℕ
version_at = 8

abbrev pub ink_version_at : ℕ
ink_version_at = 12

abbrev pub length_at : ℕ
length_at = 16

abbrev pub sections_at : ℕ
sections_at = 20

abbrev pub checksum_at : ℕ
checksum_at = skip_from

abbrev pub version : ℕ
version = 2

abbrev pub version_right : ℕ → Bool
version_right v = eqb v version

-- ---- the view

-- offset and count of section k
abbrev pub section_at : List ℕ → ℕ → Section
section_at bs k = record { offset = word_at bs (sections_at + 8 * k); count = word_at bs (sections_at + 4 + 8 * k) }

unfoldable pub view_of : List ℕ → ImageView
view_of bs =
    record {
      version = word_at bs version_at;
      ink_version = word_at bs ink_version_at;
      nodes = section_at bs 0;
      children = section_at bs 1;
      named = section_at bs 2;
      definitions = section_at bs 3;
      items = section_at bs 4;
      index = section_at bs 5;
      payload = section_at bs 6;
      strings = section_at bs 7;
    }

-- ---- the sections of a view: for any bytes and any view

-- the bytes of a section whose entries have the given size; outside the slice it counts as empty
unfoldable pub section_bytes : List ℕ → Section → ℕ → List ℕ
section_bytes bs s size = cond (leb (s.offset + s.count * size) (length bs)) (part_at bs s.offset (s.count * size)) []

-- the sections that a query on bytes and a view sees
unfoldable pub sections_by : List ℕ → ImageView → Sections
sections_by bs v =
    record {
      version = v.version;
      nodes = words_of (section_bytes bs v.nodes (node_size v.version));
      children = words_of (section_bytes bs v.children child_size);
      named = words_of (section_bytes bs v.named text_entry_size);
      definitions = words_of (section_bytes bs v.definitions definition_size);
      items = words_of (section_bytes bs v.items text_entry_size);
      index = words_of (section_bytes bs v.index text_entry_size);
      payload = section_bytes bs v.payload 1;
      strings = section_bytes bs v.strings 1;
    }

-- the sections of an image by its own header
abbrev pub sections_of : List ℕ → Sections
sections_of bs = sections_by bs (view_of bs)

-- ---- rows 1 to 5

-- bytes an entry, by version and section
unfoldable pub sizes : ℕ → List ℕ
sizes v = node_size v ∷ child_size ∷ text_entry_size ∷ definition_size ∷ text_entry_size ∷ text_entry_size ∷ 1 ∷ 1 ∷ []

-- where section k begins by the counts before it
unfoldable pub start_by : List ℕ → ℕ → ℕ
start_by bs k = header_length + sum_of k (λ j. (section_at bs j).count * get_or (sizes (word_at bs version_at)) j 0)

-- section k begins where the one before it ends, and ends in the slice
unfoldable pub section_right : List ℕ → ℕ → Bool
section_right bs k = eqb (section_at bs k).offset (start_by bs k) && leb (start_by bs (suc k)) (length bs)

-- so does each section; the last ends with the slice; there is a node
unfoldable pub laid_out : List ℕ → Bool
laid_out bs = all_of 8 (section_right bs) && eqb (start_by bs 8) (length bs) && not (eqb (section_at bs 0).count 0)

-- the known ink versions
abbrev pub first_ink_version : ℕ
first_ink_version = 18

abbrev pub last_ink_version : ℕ
last_ink_version = 21

-- signed, but these on the word are the same numbers
abbrev pub ink_right : ℕ → Bool
ink_right v = leb first_ink_version v && leb v last_ink_version

-- a whole header, with the magic
abbrev pub headed : List ℕ → Bool
headed bs = leb header_length (length bs) && same (take 8 bs) magic

unfoldable pub header_rule : List ℕ → ℕ
header_rule bs =
    unless (headed bs) bad_header
    ▸ unless (version_right (word_at bs version_at)) bad_version
    ▸ unless (ink_right (word_at bs ink_version_at)) bad_ink_version
    ▸ unless (eqb (word_at bs length_at) (length bs)) bad_length
    ▸ unless (laid_out bs) bad_sections

-- ---- opening an image

-- the view where nothing was refused
unfoldable pub opened_by : ℕ → ImageView → Result ImageView ℕ
opened_by zero v = Ok v
opened_by (suc r) v = Err (suc r)

unfoldable pub opened_of : List ℕ → Result ImageView ℕ
opened_of bs = opened_by (header_rule bs) (view_of bs)

-- names on an `unfolding` line what a computation with this module needs
unfoldable pub headers : Unit {0}
unfolding magic view_of section_bytes sections_by sizes start_by section_right laid_out header_rule opened_by opened_of sections refusals counted words texts
headers = tt
