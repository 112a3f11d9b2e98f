-- What is read of a list is what is written of it, for a draft whose tables are right.
use Prim.Native.Nat.{ℕ, ◌+◌, ◌*◌, ◌≤◌, ◌<◌}
use mathlib.Core.Path.{◌≡◌, refl, sym, ap, ◌∙◌, subst}
use mathlib.Core.List.{List, [], ◌∷◌, ◌++◌}
use mathlib.Core.Bool.{Bool, true, false, cond}
use native.Mathlib.Omega.{arith}
use native.Mathlib.Nat.{mul-one}
use lib.ListN.{length, get_or}
use lib.Dec.{eqb}
use borrow.Author.Tests.{eqb-true}
use Rattle.laws.specs.Counted.{sum_of, join_of}
use Rattle.laws.specs.Lists.{flat_map}
use Rattle.laws.proofs.Members.{sum_ext}
use Rattle.words.specs.Words.{word_in, word_at, bytes_of}
use Rattle.words.proofs.Words.{word_in_lem}
use Rattle.image.specs.Entries.{node_in}
use Rattle.image.specs.Sections.{Sections, tag_of, f, text_at}
use Rattle.records.specs.Fields.{kinds, kind_of, fields}
use Rattle.records.specs.Records.{fields_rule, list_word, list_items, list_origins, list_item_word, list_origin_word}
use Rattle.records.proofs.PassedRules.{ListPassed, payload-range}
use Rattle.draft_image.specs.Strings.{text_if, list_texts, field_texts, node_texts, offset_of}
use Rattle.draft_image.specs.Ready.{OffsetsAt}
use Rattle.draft_image.specs.Written.{list_item_out, list_origin_out, list_out, payload_out}
use Rattle.draft_image.proofs.Joins.{sum_const, join_same, join_length}
use Rattle.draft_image.proofs.Offsets.{offset_first, offsets-left, offsets-right, offsets-part}
use Rattle.write_tree_sections.specs.Encoded.{text_count, optional_offset}
use Rattle.write_numbering.proofs.DraftWords.{text-length}
use Rattle.write_tree_sections.proofs.FieldWords.{Optional, optional_of, optional-length, optional_offset_lem, optional-count, items-word, origins-word, item-word, item-length}
use Rattle.write_list_sections.specs.Entered.{item_texts, list_item_words, list_origin_words, list_words, node_list_words}

module _ (s : Sections) (order : List ℕ) (kept : List (List ℕ)) (w : List ℕ) (at len : ℕ) (q : ListPassed s at len) where
  abbrev item : ℕ → List (List ℕ)
  item j = text_if s (list_item_word s at j 0) (list_item_word s at j 1) ++ (text_at s (list_item_word s at j 2) (list_item_word s at j 3) ∷ [])

  abbrev origin : ℕ → List (List ℕ)
  origin j = text_at s (list_origin_word s at j 0) (list_origin_word s at j 1) ∷ []

  -- ---- words

  word_of_lem : (j k : ℕ) → j < list_items s at → k < 5 → word_in s.payload (at + 8 + j * 20 + k * 4) ≡ list_item_word s at j k
  unfolding list_word
  word_of_lem j k h l =
      let z : at + 8 + j * 20 + k * 4 ≡ at + (8 + j * 20 + k * 4) = omega arith in
      word_in_lem s.payload (at + 8 + j * 20 + k * 4) (omega (arith, q.inside, q.exact)) ∙ ap (word_at s.payload) z

  origin_len : (j : ℕ) → j < list_origins s at → word_in s.payload (at + 8 + word_in s.payload at * 20 + j * 8 + 4) ≡ list_origin_word s at j 1
  unfolding list_word
  origin_len j h =
      let n = items-word s at len q in
      let z : at + 8 + word_in s.payload at * 20 + j * 8 + 4 ≡ at + (8 + list_items s at * 20 + j * 8 + 1 * 4) = omega (arith, n) in
      word_in_lem s.payload (at + 8 + word_in s.payload at * 20 + j * 8 + 4) (omega (arith, n, q.inside, q.exact)) ∙ ap (word_at s.payload) z

  texts-before : (j : ℕ) → j ≤ list_items s at → sum_of j (λ m. length (item m)) ≡ item_texts s.payload at j
  unfolding item_texts
  texts-before j h = sum_ext j (λ m. length (item m)) (λ m. text_count (word_in s.payload (at + 8 + m * 20)) + 1) (λ m k. item-length s at len q m (omega arith))

  module _ (text : ℕ) (o : OffsetsAt kept (join_of (list_items s at) item ++ join_of (list_origins s at) origin) w text) where
    -- ---- items

    module _ (j : ℕ) (h : j < list_items s at) where
      abbrev here : ℕ
      here = text + item_texts s.payload at j

      abbrev first : ℕ
      first = list_item_word s at j 0

      abbrev name : List ℕ
      name = text_at s (list_item_word s at j 2) (list_item_word s at j 3)

      own : OffsetsAt kept (item j) w here
      own =
          subst (λ (m : ℕ). OffsetsAt kept (item j) w (text + m)) (texts-before j (omega arith))
          (offsets-part kept w text (list_items s at) item (offsets-left kept w text (join_of (list_items s at) item) (join_of (list_origins s at) origin) o) j h)

      optional : Optional s first (list_item_word s at j 1)
      optional = optional_of s first (list_item_word s at j 1) (q.item-origin j h)

      item-written : list_item_words s.payload w text at j ≡ list_item_out s order kept at j
      unfolding list_item_words list_item_out
      item-written =
          let word = item-word s at len q j h in
          let count : text_count (word_in s.payload (at + 8 + j * 20)) ≡ length (text_if s first (list_item_word s at j 1)) =
          ap text_count word ∙ sym (optional-count s first (list_item_word s at j 1) optional) in
          let a = ap (optional_offset w here) word
          ∙ optional_offset_lem s first (list_item_word s at j 1) kept w here optional (offsets-left kept w here (text_if s first (list_item_word s at j 1)) (name ∷ []) own) in
          let b = word_of_lem j 1 h (omega arith) ∙ optional-length s first (list_item_word s at j 1) optional in
          let x : get_or w (here + text_count (word_in s.payload (at + 8 + j * 20))) 0 ≡ offset_of kept name =
          ap (λ (m : ℕ). get_or w (here + m) 0) count
          ∙ offset_first kept w (here + length (text_if s first (list_item_word s at j 1))) name [] (offsets-right kept w here (text_if s first (list_item_word s at j 1)) (name ∷ []) own) in
          let y = word_of_lem j 3 h (omega arith) ∙ text-length s (list_item_word s at j 2) (list_item_word s at j 3) (q.item-name j h) in
          let v = word_of_lem j 4 h (omega arith) in
          λ t. a t ∷ b t ∷ x t ∷ y t ∷ v t ∷ []

    -- ---- origins

    abbrev behind : ℕ
    behind = text + item_texts s.payload at (word_in s.payload at)

    origins-from : OffsetsAt kept (join_of (list_origins s at) origin) w behind
    origins-from =
        let n = items-word s at len q in
        let e : text + length (join_of (list_items s at) item) ≡ behind =
        ap (λ (m : ℕ). text + m) (join_length (list_items s at) item ∙ texts-before (list_items s at) (omega arith) ∙ ap (item_texts s.payload at) (sym n)) in
        subst (λ (m : ℕ). OffsetsAt kept (join_of (list_origins s at) origin) w m) e (offsets-right kept w text (join_of (list_items s at) item) (join_of (list_origins s at) origin) o)

    origin-written : (j : ℕ) → j < list_origins s at
        → list_origin_words s.payload w behind (at + 8 + word_in s.payload at * 20) j ≡ list_origin_out s order kept at j
    unfolding list_origin_words list_origin_out
    origin-written j h =
        let e : behind + sum_of j (λ m. 1) ≡ behind + j = omega (arith, sum_const j 1, mul-one j) in
        let a = ap (λ (m : ℕ). get_or w m 0) (sym e)
        ∙ offset_first kept w (behind + sum_of j (λ m. 1)) (text_at s (list_origin_word s at j 0) (list_origin_word s at j 1)) []
        (offsets-part kept w behind (list_origins s at) origin origins-from j h) in
        let b = origin_len j h ∙ text-length s (list_origin_word s at j 0) (list_origin_word s at j 1) (q.origin j h) in
        λ t. a t ∷ b t ∷ []

    list_written : list_words s.payload w text at ≡ list_out s order kept at
    unfolding list_words list_out
    list_written =
        let n = items-word s at len q in
        let m = origins-word s at len q in
        let items = join_same (list_items s at) (list_item_words s.payload w text at) (list_item_out s order kept at) item-written in
        let origins =
        join_same (list_origins s at) (list_origin_words s.payload w behind (at + 8 + word_in s.payload at * 20)) (list_origin_out s order kept at) origin-written in
        (λ t. (n t ∷ m t ∷ []) ++ join_of (n t) (list_item_words s.payload w text at)
        ++ join_of (m t) (list_origin_words s.payload w behind (at + 8 + word_in s.payload at * 20)))
        ∙ (λ t. (list_items s at ∷ list_origins s at ∷ []) ++ items t ++ origins t)

-- ---- of a node

module _ (s : Sections) (order : List ℕ) (kept : List (List ℕ)) (w : List ℕ) (text i : ℕ) (p : fields_rule s i ≡ 0) (o : OffsetsAt kept (node_texts s i) w text) where
  own_texts : tag_of s i ≡ 12 → OffsetsAt kept (list_texts s (f s i 0)) w text
  unfolding flat_map field_texts fields kinds
  own_texts e =
      offsets-left kept w text (list_texts s (f s i 0)) []
      (subst (λ (t : ℕ). OffsetsAt kept (flat_map (field_texts s i) (fields (kind_of t))) w text) e o)

  list_out_lem : tag_of s i ≡ 12 → list_words s.payload w text (f s i 0) ≡ list_out s order kept (f s i 0)
  list_out_lem e = list_written s order kept w (f s i 0) (f s i 1) (payload-range s i e p).1 text (unfold list_texts in own_texts e)

  pub node-written : bytes_of (node_list_words s.payload w text (node_in s i)) ≡ payload_out s order kept i
  unfolding node_list_words payload_out bytes_of
  node-written = go (eqb (tag_of s i) 12) refl
    where
      go : (b : Bool) → eqb (tag_of s i) 12 ≡ b
          → bytes_of (cond b (list_words s.payload w text (f s i 0)) []) ≡ cond b (bytes_of (list_out s order kept (f s i 0))) []
      go true e = ap bytes_of (list_out_lem (eqb-true (tag_of s i) 12 e))
      go false e = refl
