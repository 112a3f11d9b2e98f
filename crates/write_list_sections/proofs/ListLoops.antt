-- The loops and calls that write the payload of lists.
use Prim.Native.Nat.{ℕ, ◌+◌, ◌*◌, ◌≤◌, ◌<◌}
use mathlib.Core.Path.{◌≡◌, refl, sym, ap, ◌∙◌}
use mathlib.Core.List.{List, [], ◌∷◌, ◌++◌, append-nil}
use native.Mathlib.Omega.{arith}
use native.Mathlib.Nat.{mul-one}
use native.Mathlib.Numerals.{add-one}
use lib.ListN.{length, get_or, length-append, take-append-drop}
use borrow.Author.Tests.{eq-eqb, ne_eqb}
use Rattle.laws.specs.Counted.{sum_of, join_of}
use Rattle.laws.proofs.Members.{sum_add}
use Rattle.words.specs.Words.{word_in, bytes_of}
use Rattle.image.specs.declared.NodeRecord.{NodeRecord}
use Rattle.records.specs.Fields.{kind_of}
use Rattle.draft_image.proofs.Joins.{sum_const, sum_below, even_len}
use Rattle.words.specs.Output.{put_at}
use Rattle.words.proofs.FilledOutput.{FilledWords, start, more-words, put_is}
use Rattle.words.proofs.EntryLoop.{Running, run_start, run_room, run_next, run_put}
use Rattle.write_tree_sections.specs.Encoded.{text_count, optional_offset, list_texts_in, texts_by}
use Rattle.write_tree_sections.proofs.TextCounts.{at_list_lem}
use Rattle.write_list_sections.specs.Entered.{item_texts, list_item_words, list_origin_words, list_words, node_list_words, PutAsBytes}

-- ---- items

module _ (payload w : List ℕ) (first text : ℕ) where
  item-sized : (j : ℕ) → length (list_item_words payload w text first j) ≡ 5
  unfolding list_item_words
  item-sized j = refl

  texts-next : (j : ℕ) → item_texts payload first (j + 1) ≡ item_texts payload first j + text_count (word_in payload (first + 8 + j * 20)) + 1
  unfolding item_texts sum_of
  texts-next j = rw add-one (omega arith)

  texts-below : (n j : ℕ) → j < n → item_texts payload first j + text_count (word_in payload (first + 8 + j * 20)) + 1 ≤ item_texts payload first n
  unfolding item_texts
  texts-below n j h = omega (arith, sum_below j n (λ m. text_count (word_in payload (first + 8 + m * 20)) + 1) h)

-- j items are written: the next one goes to `place`, and the offset of its first text is word k
pub record Listing (payload w : List ℕ) (first text n at : ℕ) (out₀ out : List ℕ) (k place j : ℕ) : Type 0 where
  pub long : length out ≡ length out₀
  pub word : k ≡ text + item_texts payload first j
  pub enough : text + item_texts payload first n ≤ length w
  pub running : Running at n (list_item_words payload w text first) out₀ out j place

module _ (payload w : List ℕ) (first text n at : ℕ) (out₀ : List ℕ) where
  pub list-start : text + item_texts payload first n ≤ length w → at + 20 * n ≤ length out₀ → Listing payload w first text n at out₀ out₀ text at 0
  list-start h q =
      record {
        long = refl;
        word = unfold item_texts sum_of in omega arith;
        enough = h;
        running =
            run_start at n (list_item_words payload w text first) out₀
            (omega (arith, even_len n 5 (list_item_words payload w text first) (λ m z. item-sized payload w first text m))) at refl;
      }

  module _ (out : List ℕ) (k place j : ℕ) (p : Listing payload w first text n at out₀ out k place j) (h : j < n) where
    pub list-room : place + 20 ≤ length out
    list-room = omega (arith, run_room at n (list_item_words payload w text first) out₀ out j place p.running h, item-sized payload w first text j)

    module _ (o c : ℕ) (e : o ≡ word_in payload (first + 8 + j * 20)) (q : c ≡ text_count o) where
      counted : c ≡ text_count (word_in payload (first + 8 + j * 20))
      counted = q ∙ ap text_count e

      -- the offsets of the item's texts are there
      pub list_inside : k + c + 1 ≤ length w
      list_inside = omega (arith, p.word, p.enough, counted, texts-below payload w first text n j h)

      pub list-next : (a b x y z : ℕ) → a ≡ optional_offset w k o → b ≡ word_in payload (first + 8 + j * 20 + 4) → x ≡ get_or w (k + c) 0
          → y ≡ word_in payload (first + 8 + j * 20 + 12) → z ≡ word_in payload (first + 8 + j * 20 + 16)
          → (out' : List ℕ) → out' ≡ put_at out place (a ∷ b ∷ x ∷ y ∷ z ∷ [])
          → Listing payload w first text n at out₀ out' (k + c + 1) (place + 20) (j + 1)
      unfolding list_item_words
      list-next a b x y z pa pb px py pz out' put =
          let a' = pa ∙ (λ t. optional_offset w (p.word t) (e t)) in
          let x' = px ∙ (λ t. get_or w (p.word t + counted t) 0) in
          let next = run_next at n (list_item_words payload w text first) out₀ out j place p.running (a ∷ b ∷ x ∷ y ∷ z ∷ []) out' (place + 20) h
          (λ t. a' t ∷ pb t ∷ x' t ∷ py t ∷ pz t ∷ []) put refl in
          record {
            long = next.long;
            word = omega (arith, p.word, counted, texts-next payload w first text j);
            enough = p.enough;
            running = next;
          }

  pub list_end : (out : List ℕ) (k place j : ℕ) → Listing payload w first text n at out₀ out k place j → n ≤ j
      → (out ≡ put_at out₀ at (join_of n (list_item_words payload w text first))) × (k ≡ text + item_texts payload first n)
  list_end out k place j p h =
      let e : j ≡ n = omega (arith, p.running.within) in
      (run_put at n (list_item_words payload w text first) out₀ out j place p.running h, p.word ∙ ap (λ (m : ℕ). text + item_texts payload first m) e)

-- ---- origins

module _ (payload w : List ℕ) (text first : ℕ) where
  origin-sized : (j : ℕ) → length (list_origin_words payload w text first j) ≡ 2
  unfolding list_origin_words
  origin-sized j = refl

  pub origins-start : (n at : ℕ) (out : List ℕ) → at + 8 * n ≤ length out → Running at n (list_origin_words payload w text first) out out 0 at
  origins-start n at out h =
      run_start at n (list_origin_words payload w text first) out (omega (arith, even_len n 2 (list_origin_words payload w text first) (λ m z. origin-sized m))) at refl

  pub origins-room : (at n : ℕ) (out₀ out : List ℕ) (j place : ℕ) → Running at n (list_origin_words payload w text first) out₀ out j place → j < n → place + 8 ≤ length out
  origins-room at n out₀ out j place p h = omega (arith, run_room at n (list_origin_words payload w text first) out₀ out j place p h, origin-sized j)

  pub origin-words : (j x y : ℕ) → x ≡ get_or w (text + j) 0 → y ≡ word_in payload (first + j * 8 + 4) → x ∷ y ∷ [] ≡ list_origin_words payload w text first j
  unfolding list_origin_words
  origin-words j x y p q = λ t. p t ∷ q t ∷ []

-- ---- a list

module _ (payload w : List ℕ) (text first at : ℕ) (out₀ : List ℕ) (a b : ℕ) (p : a ≡ word_in payload first) (q : b ≡ word_in payload (first + 4)) where
  abbrev items : List ℕ
  items = join_of a (list_item_words payload w text first)

  abbrev origins : ℕ → List ℕ
  origins k = join_of b (list_origin_words payload w k (first + 8 + a * 20))

  list_is : (k : ℕ) → k ≡ text + item_texts payload first a → list_words payload w text first ≡ (a ∷ b ∷ []) ++ items ++ origins k
  unfolding list_words
  list_is k e =
      let k' : text + item_texts payload first (word_in payload first) ≡ k = (λ t. text + item_texts payload first (sym p t)) ∙ sym e in
      λ t. (sym p t ∷ sym q t ∷ []) ++ join_of (sym p t) (list_item_words payload w text first)
      ++ join_of (sym q t) (list_origin_words payload w (k' t) (first + 8 + sym p t * 20))

  items-size : length items ≡ a * 5
  items-size = even_len a 5 (list_item_words payload w text first) (λ m z. item-sized payload w first text m)

  origins-size : (k : ℕ) → length (origins k) ≡ b * 2
  origins-size k = even_len b 2 (list_origin_words payload w k (first + 8 + a * 20)) (λ m z. origin-sized payload w k (first + 8 + a * 20) m)

  list-size : length (list_words payload w text first) ≡ 2 + a * 5 + b * 2
  list-size =
      let k : ℕ = text + item_texts payload first a in
      omega (
        arith,
        ap length (list_is k refl),
        length-append ((a ∷ b ∷ []) ++ items) (origins k),
        length-append (a ∷ b ∷ []) items,
        items-size,
        origins-size k,
      )

  -- the texts are those of the items and one an origin
  texts_are : list_texts_in payload first ≡ item_texts payload first a + b
  unfolding list_texts_in item_texts
  texts_are =
      let here : sum_of (word_in payload first) (λ j. text_count (word_in payload (first + 8 + j * 20))) ≡ sum_of a (λ j. text_count (word_in payload (first + 8 + j * 20))) =
      ap (λ (n : ℕ). sum_of n (λ j. text_count (word_in payload (first + 8 + j * 20)))) (sym p) in
      omega (arith, here, sum_add a (λ j. text_count (word_in payload (first + 8 + j * 20))) (λ j. 1), sum_const a 1, mul-one a)

  module _ (enough : text + list_texts_in payload first ≤ length w) (room : at + 4 * length (list_words payload w text first) ≤ length out₀) where
    pub head-room : at + 8 ≤ length out₀
    head-room = omega (arith, list-size)

    module _ (out₁ : List ℕ) (e₁ : out₁ ≡ put_at out₀ at (a ∷ b ∷ [])) where
      f₁ : FilledWords at (a ∷ b ∷ []) out₀ out₁
      unfolding bytes_of
      f₁ = more-words at [] out₀ out₀ (start at out₀ (omega (arith, head-room))) (a ∷ b ∷ []) at (at + 8) out₁ (omega arith) refl head-room e₁

      pub items_fit : (text + item_texts payload first a ≤ length w) × (at + 8 + 20 * a ≤ length out₁)
      items_fit = (omega (arith, texts_are), omega (arith, list-size, f₁.long))

      module _ (out₂ : List ℕ) (k : ℕ) (e₂ : (out₂ ≡ put_at out₁ (at + 8) (join_of a (list_item_words payload w text first))) × (k ≡ text + item_texts payload first a)) where
        f₂ : FilledWords at ((a ∷ b ∷ []) ++ items) out₀ out₂
        f₂ =
            more-words at (a ∷ b ∷ []) out₀ out₁ f₁ items (at + 8) (at + 8 + 4 * length items) out₂ refl refl (omega (arith, list-size, items-size)) e₂.0

        pub origins_fit : (k + b ≤ length w) × (at + 8 + a * 20 + 8 * b ≤ length out₂)
        origins_fit = (omega (arith, texts_are, e₂.1), omega (arith, list-size, f₂.long))

        pub list_put : (out₃ : List ℕ) → out₃ ≡ put_at out₂ (at + 8 + a * 20) (join_of b (list_origin_words payload w k (first + 8 + a * 20)))
            → PutAsBytes (list_words payload w text first) out₀ out₃ at (at + 8 + a * 20 + b * 8)
        list_put out₃ e₃ =
            let whole = list_is k e₂.1 in
            let f = more-words at ((a ∷ b ∷ []) ++ items) out₀ out₂ f₂ (origins k) (at + 8 + a * 20) (at + 8 + a * 20 + 4 * length (origins k)) out₃
            (omega (arith, length-append (a ∷ b ∷ []) items, items-size)) refl (omega (arith, list-size, origins-size k)) e₃ in
            record { end = omega (arith, list-size); is = rw whole (put_is at ((a ∷ b ∷ []) ++ items ++ origins k) out₀ out₃ f) }

-- ---- a node

module _ (payload w : List ℕ) (text : ℕ) (r : NodeRecord) where
  node-list : r.tag ≡ 12 → node_list_words payload w text r ≡ list_words payload w text r.f0
  unfolding node_list_words
  node-list h = rw (eq-eqb r.tag 12 h) refl

  node-none : (r.tag ≡ 12 → ⊥) → node_list_words payload w text r ≡ []
  unfolding node_list_words
  node-none d = rw (ne_eqb r.tag 12 d) refl

  pub node-asked : (at : ℕ) (out : List ℕ) → r.tag ≡ 12 → text + texts_by payload r (kind_of r.tag) ≤ length w → at + 4 * length (node_list_words payload w text r) ≤ length out
      → (text + list_texts_in payload r.f0 ≤ length w) × (at + 4 * length (list_words payload w text r.f0) ≤ length out)
  node-asked at out h p q = (omega (arith, at_list_lem payload r h), omega (arith, ap length (node-list h)))

  pub node_put : (out₀ out : List ℕ) (at k : ℕ) → r.tag ≡ 12 → PutAsBytes (list_words payload w text r.f0) out₀ out at k → PutAsBytes (node_list_words payload w text r) out₀ out at k
  node_put out₀ out at k h p = rw (node-list h) p

  pub node_stays : (out : List ℕ) (at : ℕ) → (r.tag ≡ 12 → ⊥) → PutAsBytes (node_list_words payload w text r) out out at at
  unfolding bytes_of
  node_stays out at d =
      let z : at + 0 ≡ at = omega arith in
      rw (node-none d) record { end = omega arith; is = sym (rw (append-nil, z) (take-append-drop at out)) }
