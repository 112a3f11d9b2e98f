-- The payload as it is written: where a list's words stand, and that they are words.
use Prim.Native.Nat.{ℕ, ◌+◌, ◌*◌, ◌^◌, ◌<◌}
use mathlib.Core.Path.{◌≡◌, refl, sym, ap, ◌∙◌, subst}
use mathlib.Core.List.{List, [], ◌∷◌, ◌++◌}
use mathlib.Core.Bool.{Bool, true, false, cond, ◌&&◌}
use native.Mathlib.Omega.{arith}
use lib.ListN.{length, get_or, get_or-append}
use lib.Seq.{get_or-append-add}
use lib.Dec.{eqb, leb}
use borrow.Author.Tests.{eqb-true}
use Rattle.laws.specs.Counted.{sum_of, join_of}
use Rattle.laws.specs.Lists.{flat_map}
use Rattle.laws.proofs.First.{both, passed}
use Rattle.laws.proofs.Flags.{both_true}
use Rattle.laws.proofs.Members.{All, all_append}
use Rattle.words.specs.Words.{NONE, word_at, bytes_of}
use Rattle.words.proofs.Words.{word_at_lem, word_below, words_of_bytes, length-bytes}
use Rattle.image.specs.Sections.{Sections, node_count, tag_of, f, text_at, absent}
use Rattle.records.specs.Fields.{kinds, kind_of, fields}
use Rattle.records.specs.Records.{field_rule, first_field, payload_rule, payload_length_of, list_word, list_items, list_origins, list_item_word}
use Rattle.draft.specs.Numbering.{old_of}
use Rattle.draft_image.specs.Strings.{offset_of}
use Rattle.draft_image.specs.Written.{list_item_out, list_origin_out, list_out, payload_out, written_with}
use Rattle.draft_image.proofs.Joins.{join_read, join_len, even_read, even_len}
use Rattle.draft_image.proofs.Lengths.{payload-length}
use Rattle.written.proofs.Lists.{all_joined, all_below}
use Rattle.written.proofs.Texts.{offset_le, text-short}
use Rattle.draft_image.proofs.Blocks.{w}
use Rattle.written.proofs.Fields.{Given, old_in}

abbrev pub Small : ℕ → Type 0
Small x = x < 2 ^ 32

here : (xs : List ℕ) (a b : ℕ) → a ≡ b → get_or xs a 0 ≡ get_or xs b 0
here xs a b e = ap (λ (n : ℕ). get_or xs n 0) e

-- words of the same four bytes
word_same : (xs ys : List ℕ) (a b : ℕ) → ((k : ℕ) → k < 4 → get_or xs (a + k) 0 ≡ get_or ys (b + k) 0) → word_at xs a ≡ word_at ys b
unfolding word_at
word_same xs ys a b e =
    let first = here xs a (a + 0) (omega arith) ∙ e 0 (omega arith) ∙ here ys (b + 0) b (omega arith) in
    omega (arith, first, e 1 (omega arith), e 2 (omega arith), e 3 (omega arith))

-- ---- the words of the list whose payload starts at `at`

module _ (s : Sections) (order : List ℕ) (kept : List (List ℕ)) (at : ℕ) where
  front : List ℕ
  front = (list_items s at ∷ list_origins s at ∷ []) ++ join_of (list_items s at) (list_item_out s order kept at)

  back : List ℕ
  back = join_of (list_origins s at) (list_origin_out s order kept at)

  front_length : length front ≡ 2 + list_items s at * 5
  unfolding front
  front_length = omega (arith, even_len (list_items s at) 5 (list_item_out s order kept at) (λ m h. unfold list_item_out in refl))

  pub list-item : (j k : ℕ) → j < list_items s at → k < 5 → get_or (list_out s order kept at) (2 + j * 5 + k) 0 ≡ get_or (list_item_out s order kept at j) k 0
  unfolding list_out front back
  list-item j k h q =
      get_or-append front back 0 (2 + j * 5 + k) (omega (arith, front_length))
      ∙ here front (2 + j * 5 + k) (2 + (j * 5 + k)) (omega arith)
      ∙ (get_or-append-add (list_items s at ∷ list_origins s at ∷ []) (join_of (list_items s at) (list_item_out s order kept at)) (j * 5 + k) 0
      ∙ even_read (list_items s at) 5 (list_item_out s order kept at) (λ m i. unfold list_item_out in refl) j k h q)

  pub list-origin : (j k : ℕ) → j < list_origins s at → k < 2
      → get_or (list_out s order kept at) (2 + list_items s at * 5 + j * 2 + k) 0 ≡ get_or (list_origin_out s order kept at j) k 0
  unfolding list_out front back
  list-origin j k h q =
      here (front ++ back) (2 + list_items s at * 5 + j * 2 + k) (length front + (j * 2 + k)) (omega (arith, front_length))
      ∙ (get_or-append-add front back (j * 2 + k) 0
      ∙ even_read (list_origins s at) 2 (list_origin_out s order kept at) (λ m i. unfold list_origin_out in refl) j k h q)

module _ {s : Sections} {order : List ℕ} {kept : List (List ℕ)} (g : Given s order kept) where
  -- ---- words

  pub strings-small : length (flat_map (λ x. x) kept) < NONE
  unfolding w written_with
  strings-small = omega (arith, g.room.strings)

  pub offset_small : (t : List ℕ) → Small (offset_of kept t)
  offset_small t = omega (arith, offset_le kept t, strings-small)

  pub text-small : (at len : ℕ) → Small len → Small (length (text_at s at len))
  text-small at len h = omega (arith, text-short s at len)

  pub cond_small : (b : Bool) (x : ℕ) → Small x → Small (cond b NONE x)
  cond_small true x h = omega arith
  cond_small false x h = h

  list-word-small : (at k : ℕ) → Small (list_word s at k)
  unfolding list_word
  list-word-small at k = word_below s.payload (at + k) g.words.payload

  item-small : (at j : ℕ) → All Small (list_item_out s order kept at j)
  unfolding list_item_out
  item-small at j = (
    cond_small (absent (list_item_word s at j 0) (list_item_word s at j 1)) _ (offset_small _),
    (
      cond_small (absent (list_item_word s at j 0) (list_item_word s at j 1)) _ (text-small _ _ (list-word-small at _)),
      (offset_small _, (text-small _ _ (list-word-small at _), (list-word-small at _, tt))),
    ),
  )

  origin-small : (at j : ℕ) → All Small (list_origin_out s order kept at j)
  unfolding list_origin_out
  origin-small at j = (offset_small _, (text-small _ _ (list-word-small at _), tt))

  list-small : (at : ℕ) → All Small (list_out s order kept at)
  unfolding list_out
  list-small at =
      all_append Small ((list_items s at ∷ list_origins s at ∷ []) ++ join_of (list_items s at) (list_item_out s order kept at))
      (join_of (list_origins s at) (list_origin_out s order kept at))
      (list-word-small at 0, (list-word-small at 4, all_joined Small (list_items s at) (list_item_out s order kept at) (λ j h. item-small at j)))
      (all_joined Small (list_origins s at) (list_origin_out s order kept at) (λ j h. origin-small at j))

  -- ---- what the draft's rule says of a list

  module _ (i : ℕ) (h : i < node_count s) (e : eqb (tag_of s i) 12 ≡ true) where
    pub list_right_lem : payload_rule s (f s i 0) (f s i 1) ≡ 0
    unfolding kinds fields first_field field_rule
    list_right_lem = (both _ _ (both _ _ (subst (λ (tag : ℕ). first_field s i (fields (kind_of tag)) ≡ 0) (eqb-true (tag_of s i) 12 e) (g.taken.tables.fields i h))).0).1

    pub list-size : f s i 1 ≡ 8 + list_items s (f s i 0) * 20 + list_origins s (f s i 0) * 8
    unfolding payload_rule
    list-size = eqb-true _ _ (both_true (leb (f s i 0 + f s i 1) (length s.payload) && leb 8 (f s i 1)) _ (passed _ 10 (both _ _ list_right_lem).0)).1

    payload-list : payload_out s order kept i ≡ bytes_of (list_out s order kept (f s i 0))
    unfolding payload_out
    payload-list = rw e refl

  -- ---- where it stands

  own_length : (i : ℕ) → i < node_count s → length (payload_out s order kept i) ≡ payload_length_of s i
  own_length i h = payload-length s order kept i (g.taken.tables.fields i h)

  pub payload-count : length (w s order kept).payload ≡ sum_of (node_count s) (λ j. payload_length_of s (old_of order j))
  unfolding w written_with
  payload-count =
      join_len (node_count s) (λ j. payload_out s order kept (old_of order j)) (λ j. payload_length_of s (old_of order j))
      (λ m h. own_length (old_of order m) (old_in g m h))

  -- byte k of the payload of node j
  payload-byte : (j k : ℕ) → j < node_count s → k < payload_length_of s (old_of order j)
      → get_or (w s order kept).payload (sum_of j (λ m. payload_length_of s (old_of order m)) + k) 0 ≡ get_or (payload_out s order kept (old_of order j)) k 0
  unfolding w written_with
  payload-byte j k h q =
      join_read (node_count s) (λ m. payload_out s order kept (old_of order m)) (λ m. payload_length_of s (old_of order m))
      (λ m i. own_length (old_of order m) (old_in g m i)) j k h q

  -- word q of the list of node j
  pub payload-word : (j q : ℕ) → j < node_count s → eqb (tag_of s (old_of order j)) 12 ≡ true → q < length (list_out s order kept (f s (old_of order j) 0))
      → list_word (w s order kept) (sum_of j (λ m. payload_length_of s (old_of order m))) (4 * q) ≡ get_or (list_out s order kept (f s (old_of order j) 0)) q 0
  unfolding list_word
  payload-word j q h e r =
      let i = old_of order j in
      let out = list_out s order kept (f s i 0) in
      let at = sum_of j (λ m. payload_length_of s (old_of order m)) in
      let pay = (w s order kept).payload in
      let size : payload_length_of s i ≡ 4 * length out = sym (own_length i (old_in g j h)) ∙ ap length (payload-list i (old_in g j h) e) ∙ length-bytes out in
      let word : word_at pay (at + 4 * q) ≡ word_at (bytes_of out) (4 * q) = word_same pay (bytes_of out) (at + 4 * q) (4 * q)
      (λ k z. here pay (at + 4 * q + k) (at + (4 * q + k)) (omega arith) ∙ payload-byte j (4 * q + k) h (omega arith)
      ∙ ap (λ (l : List ℕ). get_or l (4 * q + k) 0) (payload-list i (old_in g j h) e)) in
      word
      ∙ sym (word_at_lem (bytes_of out) q (omega (arith, length-bytes out)))
      ∙ ap (λ (l : List ℕ). get_or l q 0) (words_of_bytes out (all_below (2 ^ 32) out (list-small (f s i 0))))
