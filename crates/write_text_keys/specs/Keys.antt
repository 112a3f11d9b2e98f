-- The texts ('keys') of the uses that a writer numbers: first texts of the draft's strings, then canonical paths of containers. A path stands
-- nowhere as bytes: it is read from its end, piece by piece up the parents. Every read is total: past the end of a list it gives 0.
use Rattle.std.specs.Prelude.{ℕ, zero, suc, ◌+◌, ◌-◌, ◌*◌, ◌^◌, ◌≤◌, List, [], ◌∷◌, ◌++◌, Bool, true, false, cond, not, ◌&&◌, length, get_or, drop, eqb, leb, ltb}
use Rattle.texts.specs.Decimal.{decimal, decimals}
use Rattle.texts.specs.Dots.{dot}
use Rattle.image.specs.Sections.{text_or_empty, sections}
use Rattle.index.specs.Paths.{no_name}
use Rattle.draft.specs.Source.{word_of}
use Rattle.write_text_keys.specs.declared.Cursor.{Cursor}
use Rattle.draft.specs.declared.layout.Layout.{Layout}

-- ---- pieces of a path

abbrev pub unnamed : ℕ → List ℕ → ℕ → Bool
unnamed version nodes x = no_name (word_of version nodes x 3) (word_of version nodes x 4)

-- how long node x's piece is: its non-empty name, else its place in decimal
unfoldable pub piece_length : ℕ → List ℕ → ℕ → ℕ
piece_length version nodes x = cond (unnamed version nodes x) (length (decimal (word_of version nodes x 1))) (word_of version nodes x 4)

-- ---- reading backward

-- at the end of node x's piece: a name's offset, or a place, with the length, and the node above
unfoldable pub at_end : ℕ → List ℕ → ℕ → Cursor
at_end version nodes x =
    record {
      named = not (unnamed version nodes x);
      at = cond (unnamed version nodes x) (word_of version nodes x 1) (word_of version nodes x 3);
      left = piece_length version nodes x;
      above = word_of version nodes x 0;
    }

-- byte i of a cursor's piece
abbrev pub piece_byte : List ℕ → Cursor → ℕ → ℕ
piece_byte strings c i = cond c.named (get_or strings (c.at + i) 0) (get_or (decimal c.at) i 0)

-- the byte before a cursor: of its piece, or the dot before the piece
unfoldable pub last_byte : List ℕ → Cursor → ℕ
last_byte strings c = cond (eqb c.left 0) dot (piece_byte strings c (c.left - 1))

-- the cursor before that byte; before a dot stands the whole piece of the node above
unfoldable pub step_back : ℕ → List ℕ → Cursor → Cursor
step_back version nodes c =
    cond (eqb c.left 0) (at_end version nodes c.above)
    (record { named = c.named; at = c.at; left = c.left - 1; above = c.above })

-- how many bytes are left of a cursor's name: none of a place, nor of a name that is not inside the strings
unfoldable pub name_left : List ℕ → Cursor → ℕ
name_left strings c = cond c.named (cond (leb (c.at + c.left) (length strings)) c.left 0) 0

-- as many bytes as the first argument says, before a cursor
unfoldable pub read_back : ℕ → ℕ → List ℕ → List ℕ → Cursor → List ℕ
read_back zero version nodes strings c = []
read_back (suc n) version nodes strings c = read_back n version nodes strings (step_back version nodes c) ++ (last_byte strings c ∷ [])

-- the cursor that many bytes back
unfoldable pub back : ℕ → ℕ → List ℕ → Cursor → Cursor
back zero version nodes c = c
back (suc n) version nodes c = back n version nodes (step_back version nodes c)

-- ---- two texts of one length, the first difference of which decides, else what follows them

unfoldable pub decided : List ℕ → List ℕ → Bool → Bool
decided [] ys later = later
decided (x ∷ xs) [] later = later
decided (x ∷ xs) (y ∷ ys) later = let r = decided xs ys later in cond (ltb x y) true (cond (ltb y x) false r)

-- what is left is one text: both cursors stand at the beginning of pieces below one node
abbrev pub alike : Cursor → Cursor → Bool
alike c d = eqb c.left 0 && eqb d.left 0 && eqb c.above d.above

-- ---- uses

-- the node whose path is use a
abbrev pub node_of : ℕ → ℕ → List ℕ → ℕ → ℕ
node_of texts paths tab a = get_or tab (paths + (a - texts)) 0

-- the length of node x's path: low and high 32 bits
abbrev pub long_of : ℕ → List ℕ → ℕ → ℕ
long_of lengths tab x = get_or tab (lengths + x + x) 0 + 2 ^ 32 * get_or tab (lengths + x + x + 1) 0

-- the text of text use a
abbrev pub used_text : List ℕ → List ℕ → ℕ → List ℕ
used_text strings tab a = text_or_empty strings (get_or tab (a + a) 0) (get_or tab (a + a + 1) 0)

-- the text of use a, by the tables of uses
unfoldable pub key_of : ℕ → List ℕ → List ℕ → ℕ → ℕ → ℕ → List ℕ → ℕ → List ℕ
key_of version nodes strings texts paths lengths tab a =
    cond (ltb a texts) (used_text strings tab a)
    (read_back (long_of lengths tab (node_of texts paths tab a)) version nodes strings (at_end version nodes (node_of texts paths tab a)))

-- how long that text is
unfoldable pub key_length : List ℕ → ℕ → ℕ → ℕ → List ℕ → ℕ → ℕ
key_length strings texts paths lengths tab a =
    cond (ltb a texts) (length (used_text strings tab a)) (long_of lengths tab (node_of texts paths tab a))

-- the cursor at its end: a text is one name, with nothing above that is ever read
unfoldable pub end_of : ℕ → List ℕ → ℕ → ℕ → List ℕ → ℕ → Cursor
end_of version nodes texts paths tab a =
    cond (ltb a texts) (record { named = true; at = get_or tab (a + a) 0; left = get_or tab (a + a + 1) 0; above = 0 })
    (at_end version nodes (node_of texts paths tab a))

-- the text of use a, in the work words
abbrev pub key_in : ℕ → List ℕ → List ℕ → Layout → List ℕ → ℕ → List ℕ
key_in version nodes strings l w a = key_of version nodes strings l.texts l.paths l.lengths (drop l.at w) a

-- the tables begin within so many work words
abbrev pub Placed : Layout → ℕ → Type 0
Placed l n = (l.at + l.paths ≤ n) × (l.at + l.lengths ≤ n)

-- ---- the length of a path by words alone

-- joined by a dot, below the root without one
abbrev pub joined_length : ℕ → ℕ → ℕ → ℕ
joined_length zero front last = last
joined_length (suc parent) front last = front + (1 + last)

-- node x's, below a path of length `front`; the root's is empty
unfoldable pub length_below : ℕ → ℕ → List ℕ → ℕ → ℕ
length_below front version nodes x = cond (eqb x 0) 0 (joined_length (word_of version nodes x 0) front (piece_length version nodes x))

-- the first argument bounds the steps up to the root
unfoldable pub length_from : ℕ → ℕ → List ℕ → ℕ → ℕ
length_from zero version nodes x = 0
length_from (suc n) version nodes x =
    let front = length_from n version nodes (word_of version nodes x 0) in length_below front version nodes x

-- names on an `unfolding` line what a computation with this module needs
unfoldable pub keyed : Unit {0}
unfolding piece_length at_end last_byte step_back name_left read_back back decided key_of key_length end_of length_below length_from sections decimals
keyed = tt
