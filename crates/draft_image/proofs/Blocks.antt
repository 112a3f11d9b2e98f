-- Where the words of the written sections stand.
use Prim.Native.Nat.{ℕ, ◌+◌, ◌-◌, ◌*◌, ◌<◌}
use mathlib.Core.Path.{◌≡◌, refl, ap, ◌∙◌}
use mathlib.Core.List.{List, [], ◌∷◌, ◌++◌}
use native.Mathlib.Omega.{arith}
use native.Mathlib.Nat.{div-eq_of_eq-mul_left}
use lib.ListN.{length, get_or, replicate, length-append}
use lib.Seq.{sets, length-sets}
use Rattle.laws.specs.Counted.{sum_of}
use Rattle.laws.proofs.Members.{length_join, get_join}
use Rattle.words.specs.Words.{NONE}
use Rattle.image.specs.Sections.{Sections, common_words, node_words, text_entry_words, definition_words, node_count, child_count, named_count, definition_count, item_count, index_count, node_word, child_word, named_word, definition_word, item_word, index_word}
use Rattle.image.proofs.Widths.{words-some}
use Rattle.records.specs.Fields.{Field}
use Rattle.records.specs.Records.{fields_at, number_of_children, number_of_named}
use Rattle.tree.specs.Tree.{child_at, named_at, named_text}
use Rattle.draft.specs.Numbering.{old_of, new_of}
use Rattle.draft_image.specs.Strings.{by_path, text_words}
use Rattle.draft_image.specs.Written.{field_start, field_words, put_fields, more_words, node_out, children_out, named_out, definition_out, item_out, index_out, written_with}
use Rattle.draft_image.proofs.Joins.{sum_scale, join_read, join_len, even_read, even_len}

module _ (s : Sections) (order : List ℕ) (kept : List (List ℕ)) where
  -- the sections as they are written, shut
  unfoldable pub w : Sections
  w = written_with s order kept

  -- ---- nodes

  pub put_length : (i : ℕ) (ws : List ℕ) (xs : List Field) → length (put_fields s order kept i ws xs) ≡ length ws
  unfolding put_fields
  put_length i ws [] = refl
  put_length i ws (x ∷ xs) =
      put_length i (sets ws (field_start x) (field_words s order kept i x)) xs ∙ length-sets ws (field_start x) (field_words s order kept i x)

  more-length : (i : ℕ) → length (more_words s order kept i) ≡ node_words s.version - common_words
  unfolding more_words
  more-length i = length_join (node_words s.version - common_words) (λ k. node_word s i (common_words + k))

  pub node-length : (i : ℕ) → length (node_out s order kept i) ≡ node_words s.version
  unfolding node_out
  node-length i =
      omega (
        arith,
        length-append (put_fields s order kept i (replicate 7 NONE) (fields_at s i)) (more_words s order kept i),
        put_length i (replicate 7 NONE) (fields_at s i),
        more-length i,
        words-some s.version,
      )

  pub nodes-length : length w.nodes ≡ node_count s * node_words s.version
  unfolding w written_with
  nodes-length = even_len (node_count s) (node_words s.version) (λ j. node_out s order kept (old_of order j)) (λ m h. node-length (old_of order m))

  pub node-count : node_count w ≡ node_count s
  unfolding w written_with
  node-count = div-eq_of_eq-mul_left {n = node_words s.version} (omega (arith, words-some s.version)) nodes-length

  -- word k of node j
  pub node-word : (j k : ℕ) → j < node_count s → k < node_words s.version → node_word w j k ≡ get_or (node_out s order kept (old_of order j)) k 0
  unfolding node_word w written_with
  node-word j k h q = even_read (node_count s) (node_words s.version) (λ m. node_out s order kept (old_of order m)) (λ m i. node-length (old_of order m)) j k h q

  -- ---- ordered children

  pub children-length : (i : ℕ) → length (children_out s order kept i) ≡ number_of_children s i
  unfolding children_out
  children-length i = length_join (number_of_children s i) (λ j. new_of order (child_at s i j))

  pub child-count : child_count w ≡ sum_of (node_count s) (λ j. number_of_children s (old_of order j))
  unfolding w written_with
  child-count =
      join_len (node_count s) (λ j. children_out s order kept (old_of order j)) (λ j. number_of_children s (old_of order j)) (λ m h. children-length (old_of order m))

  -- the k-th ordered child of node j
  pub child-word : (j k : ℕ) → j < node_count s → k < number_of_children s (old_of order j)
      → child_word w (sum_of j (λ m. number_of_children s (old_of order m)) + k) ≡ new_of order (child_at s (old_of order j) k)
  unfolding child_word children_out w written_with
  child-word j k h q =
      join_read (node_count s) (λ m. children_out s order kept (old_of order m)) (λ m. number_of_children s (old_of order m)) (λ m i. children-length (old_of order m)) j k h q
      ∙ get_join 0 (number_of_children s (old_of order j)) (λ m. new_of order (child_at s (old_of order j) m)) k q

  -- ---- named children

  abbrev named-entry : ℕ → ℕ → List ℕ
  named-entry i k = text_words kept (named_text s i k) ++ (new_of order (named_at s i k 2) ∷ [])

  pub named-length : (i : ℕ) → length (named_out s order kept i) ≡ number_of_named s i * text_entry_words
  unfolding named_out
  named-length i = even_len (number_of_named s i) text_entry_words (named-entry i) (λ m h. refl)

  pub named-whole : length w.named ≡ sum_of (node_count s) (λ j. number_of_named s (old_of order j)) * text_entry_words
  unfolding w written_with
  named-whole =
      join_len (node_count s) (λ j. named_out s order kept (old_of order j)) (λ j. number_of_named s (old_of order j) * text_entry_words) (λ m h. named-length (old_of order m))
      ∙ sum_scale (node_count s) text_entry_words (λ j. number_of_named s (old_of order j))

  pub named_count_lem : named_count w ≡ sum_of (node_count s) (λ j. number_of_named s (old_of order j))
  named_count_lem = omega (arith, named-whole)

  -- word m of the k-th named entry of node j
  pub named-word : (j k m : ℕ) → j < node_count s → k < number_of_named s (old_of order j) → m < 3
      → named_word w (sum_of j (λ i. number_of_named s (old_of order i)) + k) m
      ≡ get_or (text_words kept (named_text s (old_of order j) k) ++ (new_of order (named_at s (old_of order j) k 2) ∷ [])) m 0
  unfolding named_word named_out w written_with
  named-word j k m h q r =
      ap (λ (at : ℕ). get_or w.named at 0) place
      ∙ join_read (node_count s) (λ i. named_out s order kept (old_of order i)) (λ i. number_of_named s (old_of order i) * text_entry_words) (λ i z. named-length (old_of order i)) j (k * text_entry_words + m) h
      (omega arith)
      ∙ even_read (number_of_named s (old_of order j)) text_entry_words (named-entry (old_of order j)) (λ i z. refl) k m q r
    where
      place : (sum_of j (λ i. number_of_named s (old_of order i)) + k) * text_entry_words + m ≡ sum_of j (λ i. number_of_named s (old_of order i) * text_entry_words) + (k * text_entry_words + m)
      place = omega (arith, sum_scale j text_entry_words (λ i. number_of_named s (old_of order i)))

  -- ---- definitions and items

  pub definitions-whole : length w.definitions ≡ definition_count s * definition_words
  unfolding w written_with definition_out
  definitions-whole = even_len (definition_count s) definition_words (definition_out s order kept) (λ m h. refl)

  pub definition-count : definition_count w ≡ definition_count s
  definition-count = omega (arith, definitions-whole)

  pub definition-word : (d m : ℕ) → d < definition_count s → m < definition_words → definition_word w d m ≡ get_or (definition_out s order kept d) m 0
  unfolding w written_with
  definition-word d m h q =
      unfold definition_word in even_read (definition_count s) definition_words (definition_out s order kept) (λ e i. unfold definition_out in refl) d m h q

  pub items-whole : length w.items ≡ item_count s * text_entry_words
  unfolding w written_with item_out
  items-whole = even_len (item_count s) text_entry_words (item_out s order kept) (λ m h. refl)

  pub item_count_lem : item_count w ≡ item_count s
  item_count_lem = omega (arith, items-whole)

  pub item-word : (j m : ℕ) → j < item_count s → m < text_entry_words → item_word w j m ≡ get_or (item_out s order kept j) m 0
  unfolding w written_with
  item-word j m h q = unfold item_word in even_read (item_count s) text_entry_words (item_out s order kept) (λ e i. unfold item_out in refl) j m h q

  -- ---- the index

  pub index-whole : length w.index ≡ length (by_path s order) * text_entry_words
  unfolding w written_with index_out
  index-whole = even_len (length (by_path s order)) text_entry_words (λ k. index_out s order kept (get_or (by_path s order) k 0)) (λ m h. refl)

  pub index-count : index_count w ≡ length (by_path s order)
  index-count = omega (arith, index-whole)

  pub index_word_lem : (k m : ℕ) → k < length (by_path s order) → m < text_entry_words → index_word w k m ≡ get_or (index_out s order kept (get_or (by_path s order) k 0)) m 0
  unfolding index_word w written_with
  index_word_lem k m h q = even_read (length (by_path s order)) text_entry_words (λ e. index_out s order kept (get_or (by_path s order) e 0)) (λ e i. unfold index_out in refl) k m h q
