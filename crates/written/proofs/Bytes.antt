-- The bytes of a written image are bytes, whatever the draft's words say.
use Prim.Native.Nat.{ℕ, zero, suc, ◌+◌, ◌<◌}
use mathlib.Core.List.{List, [], ◌∷◌, ◌++◌, map}
use mathlib.Core.Bool.{Bool, true, false, cond}
use native.Mathlib.Omega.{arith}
use lib.ListN.{take, drop}
use lib.Dec.{eqb}
use Rattle.laws.specs.Counted.{join_of}
use Rattle.laws.specs.Lists.{Below, flat_map}
use Rattle.laws.proofs.Members.{All, all_append}
use Rattle.words.specs.Words.{bytes_of}
use Rattle.laws.proofs.Lists.{below-head, below_tail}
use Rattle.words.proofs.Words.{bytes_below}
use Rattle.texts.specs.Text.{ascii, holds}
use Rattle.texts.specs.Decimal.{decimal}
use Rattle.texts.specs.Dots.{dot}
use Rattle.texts.proofs.Decimal.{decimal-below}
use Rattle.image.specs.Sections.{Sections, node_count, definition_count, parent_of, place_of, tag_of, f, part_at, text_at, absent}
use Rattle.image.specs.Header.{magic}
use Rattle.image.specs.Encoding.{section_out, body_of, header_with, image_of}
use Rattle.records.specs.Fields.{Field, text, optional, command, operator, node, optionalNode, container, optionalContainer, plain, at_most, children, named, payload, wrong}
use Rattle.records.specs.Records.{fields_at, number_of_named, list_items, list_origins, list_item_word, list_origin_word}
use Rattle.tree.specs.Tree.{named_text}
use Rattle.index.specs.Paths.{nameless, piece_of, piece, joined_by_dot, path_from}
use Rattle.definitions.specs.Definitions.{number_of_items, item_text_of}
use Rattle.draft.specs.Numbering.{numbering, old_of}
use Rattle.draft_image.specs.Strings.{path_of, by_path, text_if, list_texts, field_texts, node_texts, named_texts, definition_texts, uses, distinct, stored_texts}
use Rattle.draft_image.specs.Written.{list_out, payload_out, written_with, written}
use Rattle.draft_image.specs.Encode.{image_for}
use Rattle.written.specs.Written.{DraftWords, ImageBytes}
use Rattle.written.proofs.Lists.{all_joined, all_below}
use Rattle.written.proofs.Header.{eight}

abbrev Byte : ℕ → Type 0
Byte x = x < 256

-- ---- lists of bytes

below_all : (xs : List ℕ) → Below 256 xs → All Byte xs
below_all [] b = tt
below_all (x ∷ xs) b = (below-head 256 x xs b, below_all xs (below_tail 256 x xs b))

all_take : (P : ℕ → Type 0) (n : ℕ) (xs : List ℕ) → All P xs → All P (take n xs)
all_take P zero xs a = tt
all_take P (suc n) [] a = tt
all_take P (suc n) (x ∷ xs) a = (a.0, all_take P n xs a.1)

all_drop : (P : ℕ → Type 0) (n : ℕ) (xs : List ℕ) → All P xs → All P (drop n xs)
all_drop P zero xs a = a
all_drop P (suc n) [] a = tt
all_drop P (suc n) (x ∷ xs) a = all_drop P n xs a.1

-- ---- lists of texts

-- each text is bytes
abbrev Each : List (List ℕ) → Type 0
Each [] = Unit {0}
Each (t ∷ ts) = All Byte t × Each ts

each_append : (ts us : List (List ℕ)) → Each ts → Each us → Each (ts ++ us)
each_append [] us a b = b
each_append (t ∷ ts) us a b = (a.0, each_append ts us a.1 b)

each_join : (n : ℕ) (g : ℕ → List (List ℕ)) → ((j : ℕ) → Each (g j)) → Each (join_of n g)
unfolding join_of
each_join zero g a = tt
each_join (suc n) g a = each_append (join_of n g) (g n) (each_join n g a) (a n)

each_flat : (g : Field → List (List ℕ)) (xs : List Field) → ((x : Field) → Each (g x)) → Each (flat_map g xs)
unfolding flat_map
each_flat g [] a = tt
each_flat g (x ∷ xs) a = each_append (g x) (flat_map g xs) (a x) (each_flat g xs a)

each_map : (g : ℕ → List ℕ) (xs : List ℕ) → ((x : ℕ) → All Byte (g x)) → Each (map g xs)
each_map g [] a = tt
each_map g (x ∷ xs) a = (a x, each_map g xs a)

each-distinct : (kept ts : List (List ℕ)) → Each kept → Each ts → Each (distinct kept ts)
unfolding distinct
each-distinct kept [] a b = a
each-distinct kept (t ∷ ts) a b = each-distinct (cond (holds kept t) kept (kept ++ (t ∷ []))) ts (go (holds kept t)) b.1
  where
    go : (c : Bool) → Each (cond c kept (kept ++ (t ∷ [])))
    go true = a
    go false = each_append kept (t ∷ []) a (b.0, tt)

flat_bytes : (ts : List (List ℕ)) → Each ts → All Byte (flat_map (λ t. t) ts)
unfolding flat_map
flat_bytes [] a = tt
flat_bytes (t ∷ ts) a = all_append Byte t (flat_map (λ u. u) ts) a.0 (flat_bytes ts a.1)

-- ---- the texts of a draft

module _ (s : Sections) (b : DraftWords s) where
  part_bytes : (at len : ℕ) → All Byte (text_at s at len)
  unfolding part_at
  part_bytes at len = all_take Byte len (drop at s.strings) (all_drop Byte at s.strings (below_all s.strings b.strings))

  if_bytes : (at len : ℕ) → Each (text_if s at len)
  if_bytes at len = go (absent at len)
    where
      go : (c : Bool) → Each (cond c [] (text_at s at len ∷ []))
      go true = tt
      go false = (part_bytes at len, tt)

  list-bytes : (at : ℕ) → Each (list_texts s at)
  unfolding list_texts
  list-bytes at =
      each_append
      (join_of (list_items s at)
      (λ j. text_if s (list_item_word s at j 0) (list_item_word s at j 1) ++ (text_at s (list_item_word s at j 2) (list_item_word s at j 3) ∷ [])))
      (join_of (list_origins s at) (λ j. text_at s (list_origin_word s at j 0) (list_origin_word s at j 1) ∷ []))
      (each_join (list_items s at) _ (λ j. each_append (text_if s (list_item_word s at j 0) (list_item_word s at j 1)) _ (if_bytes (list_item_word s at j 0) (list_item_word s at j 1)) (part_bytes _ _, tt)))
      (each_join (list_origins s at) _ (λ j. (part_bytes _ _, tt)))

  field_bytes : (i : ℕ) (x : Field) → Each (field_texts s i x)
  unfolding field_texts
  field_bytes i (text k) = (part_bytes _ _, tt)
  field_bytes i (optional k) = if_bytes (f s i k) (f s i (k + 1))
  field_bytes i (command k) = (part_bytes _ _, tt)
  field_bytes i (operator k) = (part_bytes _ _, tt)
  field_bytes i payload = list-bytes (f s i 0)
  field_bytes i (node k) = tt
  field_bytes i (optionalNode k) = tt
  field_bytes i (container k) = tt
  field_bytes i (optionalContainer k) = tt
  field_bytes i (plain k) = tt
  field_bytes i (at_most k n) = tt
  field_bytes i children = tt
  field_bytes i named = tt
  field_bytes i wrong = tt

  piece_bytes : (i : ℕ) → All Byte (piece s i)
  unfolding piece piece_of nameless
  piece_bytes i = go (nameless s i)
    where
      go : (c : Bool) → All Byte (cond c (decimal (place_of s i)) (text_at s (f s i 0) (f s i 1)))
      go true = below_all (decimal (place_of s i)) (decimal-below (place_of s i))
      go false = part_bytes (f s i 0) (f s i 1)

  path_bytes : (n i : ℕ) → All Byte (path_from n s i)
  unfolding path_from
  path_bytes zero i = tt
  path_bytes (suc n) i = go (eqb i 0) (parent_of s i) (path_bytes n (parent_of s i))
    where
      go : (c : Bool) (p : ℕ) → All Byte (path_from n s (parent_of s i)) → All Byte (cond c [] (joined_by_dot p (path_from n s (parent_of s i)) (piece s i)))
      go true p a = tt
      go false zero a = piece_bytes i
      go false (suc p) a = all_append Byte (path_from n s (parent_of s i)) (dot ∷ piece s i) a (omega arith, piece_bytes i)

  uses-bytes : (order : List ℕ) → Each (uses s order)
  unfolding uses named_texts definition_texts
  uses-bytes order =
      let nodes = join_of (node_count s) (λ j. node_texts s (old_of order j)) in
      let entries = join_of (node_count s) (λ j. named_texts s (old_of order j)) in
      let definitions = join_of (definition_count s) (definition_texts s) in
      each_append (nodes ++ entries ++ definitions) (map (path_of s order) (by_path s order))
      (each_append (nodes ++ entries) definitions
      (each_append nodes entries
      (each_join (node_count s) _ (λ j. each_flat (field_texts s (old_of order j)) (fields_at s (old_of order j)) (field_bytes (old_of order j))))
      (each_join (node_count s) _ (λ j. each_join (number_of_named s (old_of order j)) (λ k. named_text s (old_of order j) k ∷ []) (λ k. (part_bytes _ _, tt)))))
      (each_join (definition_count s) _
      (λ d. (part_bytes _ _, each_join (number_of_items s d) (λ j. item_text_of s d j ∷ []) (λ j. (part_bytes _ _, tt))))))
      (each_map (path_of s order) (by_path s order) (λ j. path_bytes (node_count s) (old_of order j)))

  strings-bytes : All Byte (written s).strings
  unfolding written written_with stored_texts
  strings-bytes = flat_bytes (distinct [] (uses s (numbering s))) (each-distinct [] (uses s (numbering s)) tt (uses-bytes (numbering s)))

words-bytes : (ws : List ℕ) → All Byte (bytes_of ws)
words-bytes ws = below_all (bytes_of ws) (bytes_below ws)

payload-bytes : (s : Sections) → All Byte (written s).payload
unfolding written written_with payload_out
payload-bytes s = all_joined Byte (node_count s) _ (λ j h. go (old_of (numbering s) j) (eqb (tag_of s (old_of (numbering s) j)) 12))
  where
    go : (i : ℕ) (c : Bool) → All Byte (cond c (bytes_of (list_out s (numbering s) (stored_texts s (numbering s)) (f s i 0))) [])
    go i true = words-bytes _
    go i false = tt

-- ---- the image

section-bytes : (v : Sections) → All Byte v.payload → All Byte v.strings → (k : ℕ) → k < 8 → All Byte (section_out v k)
unfolding section_out
section-bytes v a b =
    eight (λ k. All Byte (section_out v k)) (words-bytes v.nodes) (words-bytes v.children) (words-bytes v.named) (words-bytes v.definitions)
    (words-bytes v.items) (words-bytes v.index) a b

header-bytes : (ink : ℕ) (v : Sections) (c : ℕ) → All Byte (header_with ink v c)
unfolding header_with
header-bytes ink v c = all_append Byte magic _ letters (words-bytes _)
  where
    letters : All Byte magic
    letters =
        unfold magic ascii in (omega arith, (omega arith, (omega arith, (omega arith, (omega arith, (omega arith, (omega arith, (omega arith, tt))))))))

-- with whatever checksum
with_bytes : (ink : ℕ) (v : Sections) (c : ℕ) → All Byte v.payload → All Byte v.strings → Below 256 (header_with ink v c ++ body_of v)
unfolding body_of
with_bytes ink v c a b =
    all_below 256 (header_with ink v c ++ join_of 8 (section_out v))
    (all_append Byte (header_with ink v c) (join_of 8 (section_out v)) (header-bytes ink v c) (all_joined Byte 8 (section_out v) (section-bytes v a b)))

pub image-bytes : ImageBytes
unfolding image_for image_of
image-bytes ink s b = with_bytes ink (written s) _ (payload-bytes s) (strings-bytes s b)
