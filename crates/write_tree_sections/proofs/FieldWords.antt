-- The words of the record that is written are those of the written section, kind by kind.
use Prim.Native.Nat.{ℕ, ◌+◌, ◌*◌, ◌<◌}
use mathlib.Core.Path.{◌≡◌, refl, sym, ap, ◌∙◌, subst}
use mathlib.Core.Bool.{true, cond, true≢false}
use mathlib.Core.List.{List, [], ◌∷◌, ◌++◌, append-nil}
use native.Mathlib.Omega.{arith}
use native.Mathlib.Decide.{ℕ_discrete}
use lib.ListN.{length, get_or, replicate, length-append}
use borrow.Author.Tests.{eq-eqb, ne_eqb}
use Rattle.laws.specs.Counted.{join_of, sum_of}
use Rattle.laws.specs.Lists.{flat_map}
use Rattle.laws.proofs.First.{both}
use Rattle.laws.proofs.Flags.{both_true}
use Rattle.laws.proofs.Members.{sum_ext, sum_add}
use Rattle.words.specs.Words.{NONE, word_at, word_in}
use Rattle.words.proofs.Words.{word_in_lem}
use Rattle.image.specs.declared.NodeRecord.{NodeRecord}
use Rattle.image.specs.Entries.{node_in}
use Rattle.image.specs.Sections.{Sections, node_count, parent_of, place_of, tag_of, f, text_at, absent, good_text, good_optional, inside}
use Rattle.image.proofs.Entries.{node_record}
use Rattle.image.proofs.Parts.{optional-present, optional_half}
use Rattle.records.specs.Fields.{Kind, Container, Choice, Command, Divert, Glue, Operator, Tag, BoolValue, IntValue, FloatValue, StringValue, ListValue, TargetValue, PointerValue, Assignment, Reference, Void, Unknown, fields, kind_of}
use Rattle.records.specs.Records.{number_of_children, number_of_named, payload_length_of, first_field, fields_rule, list_word, list_items, list_origins, list_item_word, list_origin_word}
use Rattle.records.proofs.PassedRules.{node_of_lem, text-passed, optional-passed, command_passed, operator_passed, node-passed, optional-node-passed, container-passed, optional-container-passed, payload-passed, ListPassed, list-passed}
use Rattle.draft.specs.Numbering.{new_of}
use Rattle.draft_image.specs.Strings.{text_if, list_texts, field_texts, node_texts, offset_of}
use Rattle.draft_image.specs.Written.{start_in, field_words, put_fields}
use Rattle.draft_image.specs.Ready.{NewsAt, OffsetsAt}
use Rattle.draft_image.proofs.Joins.{join_length, sum_const}
use Rattle.draft_image.proofs.Offsets.{offset_first, offsets-left, offsets-right}
use Rattle.write_numbering.specs.Numbers.{new_in}
use Rattle.write_numbering.proofs.DraftWords.{new_is, new_none, text-length}
use Rattle.write_tree_sections.specs.declared.kinds.Starts.{Starts}
use Rattle.write_tree_sections.specs.Summed.{texts_at}
use Rattle.write_tree_sections.specs.Encoded.{text_count, optional_offset, record_words, record_by_kind, list_texts_in, texts_by}

-- ---- texts

-- an optional text that passes is absent, or there and good
pub data Optional (s : Sections) (a l : ℕ) : Type 0 where
  gone : a ≡ NONE → l ≡ NONE → Optional s a l
  there : (a ≡ NONE → ⊥) → good_text s a l ≡ true → Optional s a l

module _ (s : Sections) (a l : ℕ) where
  pub optional_of : good_optional s a l ≡ true → Optional s a l
  optional_of h = by (ℕ_discrete a NONE) (ℕ_discrete l NONE)
    where
      by : Dec (a ≡ NONE) → Dec (l ≡ NONE) → Optional s a l
      by (yes p) (yes q) = gone p q
      by (yes p) (no d) = absurd (true≢false (sym h ∙ optional_half s.strings a l p d))
      by (no d) q = there d (sym (optional-present s.strings a l d) ∙ h)

  pub optional-length : Optional s a l → l ≡ cond (absent a l) NONE (length (text_at s a l))
  optional-length (gone p q) = rw (eq-eqb a NONE p, eq-eqb l NONE q) q
  optional-length (there d h) = rw (ne_eqb a NONE d) (text-length s a l h)

  -- it is one text or none
  pub optional-count : Optional s a l → length (text_if s a l) ≡ text_count a
  optional-count (gone p q) = rw (eq-eqb a NONE p, eq-eqb l NONE q) refl
  optional-count (there d h) = rw (ne_eqb a NONE d) refl

  pub optional_offset_lem : (kept : List (List ℕ)) (w : List ℕ) (at : ℕ) → Optional s a l → OffsetsAt kept (text_if s a l) w at
      → optional_offset w at a ≡ cond (absent a l) NONE (offset_of kept (text_at s a l))
  optional_offset_lem kept w at (gone p q) o = rw (eq-eqb a NONE p, eq-eqb l NONE q) refl
  optional_offset_lem kept w at (there d h) o =
      let one : text_if s a l ≡ text_at s a l ∷ [] = rw (ne_eqb a NONE d) refl in
      rw (ne_eqb a NONE d) (offset_first kept w at (text_at s a l) [] (subst (λ (ts : List (List ℕ)). OffsetsAt kept ts w at) one o))

-- ---- nodes

module _ (s : Sections) (order w : List ℕ) (new : ℕ) (news : NewsAt order w (node_count s) new) where
  new_inside : (x : ℕ) → inside s x ≡ true → new_in w new x ≡ new_of order x
  new_inside x h = new_is order w (node_count s) new x news (node_of_lem s x h).below

  new_optional : (x : ℕ) → ((x ≡ NONE → ⊥) → inside s x ≡ true) → new_in w new x ≡ new_of order x
  new_optional x h = by (ℕ_discrete x NONE)
    where
      by : Dec (x ≡ NONE) → new_in w new x ≡ new_of order x
      by (yes e) = new_none order w new x e
      by (no d) = new_inside x (h d)

  -- ---- the record of node i

  module _ (kept : List (List ℕ)) (at : ℕ) (st : Starts) (i : ℕ) (parent : new_in w new (parent_of s i) ≡ new_of order (parent_of s i))
      (ordered : st.children ≡ start_in (number_of_children s) order i) (byName : st.named ≡ start_in (number_of_named s) order i)
      (bytes : st.payload ≡ start_in (payload_length_of s) order i) where
    abbrev Fielded : Kind → Type 0
    Fielded k =
        first_field s i (fields k) ≡ 0 → OffsetsAt kept (flat_map (field_texts s i) (fields k)) w at
        → record_words s.version (record_by_kind w new at st (node_in s i) k)
        ≡ new_of order (parent_of s i) ∷ place_of s i ∷ tag_of s i ∷ put_fields s order kept i (replicate 7 NONE) (fields k)

    -- a text alone
    text-words : good_text s (f s i 0) (f s i 1) ≡ true → OffsetsAt kept (text_at s (f s i 0) (f s i 1) ∷ []) w at
        → (get_or w at 0 ≡ offset_of kept (text_at s (f s i 0) (f s i 1))) × (f s i 1 ≡ length (text_at s (f s i 0) (f s i 1)))
    text-words g o = (offset_first kept w at _ [] o, text-length s _ _ g)

    pub fielded : (k : Kind) → Fielded k
    unfolding fields field_words put_fields record_by_kind field_texts first_field flat_map
    fielded Container p o =
        let v = optional_of s (f s i 0) (f s i 1) (optional-passed s i 0 (both _ _ p).0) in
        let a = optional_offset_lem s (f s i 0) (f s i 1) kept w at v (offsets-left kept w at (text_if s (f s i 0) (f s i 1)) [] o) in
        let b = optional-length s (f s i 0) (f s i 1) v in
        λ t. parent t ∷ place_of s i ∷ tag_of s i ∷ a t ∷ b t ∷ f s i 2 ∷ ordered t ∷ f s i 4 ∷ byName t ∷ f s i 6 ∷ []
    fielded Choice p o =
        let v = optional_of s (f s i 0) (f s i 1) (optional-passed s i 0 (both _ _ p).0) in
        let a = optional_offset_lem s (f s i 0) (f s i 1) kept w at v (offsets-left kept w at (text_if s (f s i 0) (f s i 1)) [] o) in
        let b = optional-length s (f s i 0) (f s i 1) v in
        let n = new_inside (f s i 2) (both_true _ _ (container-passed s i 2 (both _ _ (both _ _ p).1).0)).0 in
        λ t. parent t ∷ place_of s i ∷ tag_of s i ∷ a t ∷ b t ∷ n t ∷ f s i 3 ∷ NONE ∷ NONE ∷ NONE ∷ []
    fielded Command p o =
        let x = text-words (command_passed s i 0 (both _ _ p).0).0 o in
        λ t. parent t ∷ place_of s i ∷ tag_of s i ∷ x.0 t ∷ x.1 t ∷ NONE ∷ NONE ∷ NONE ∷ NONE ∷ NONE ∷ []
    fielded Divert p o =
        let p2 = both _ _ (both _ _ p).1 in
        let v = optional_of s (f s i 0) (f s i 1) (optional-passed s i 0 (both _ _ p).0) in
        let u = optional_of s (f s i 3) (f s i 4) (optional-passed s i 3 (both _ _ p2.1).0) in
        let first = text_if s (f s i 0) (f s i 1) in
        let second = text_if s (f s i 3) (f s i 4) in
        let a = optional_offset_lem s (f s i 0) (f s i 1) kept w at v (offsets-left kept w at first (second ++ []) o) in
        let b = optional-length s (f s i 0) (f s i 1) v in
        let n = new_optional (f s i 2) (optional-node-passed s i 2 p2.0) in
        let after : OffsetsAt kept (second ++ []) w (at + text_count (f s i 0)) =
        subst (λ (m : ℕ). OffsetsAt kept (second ++ []) w (at + m)) (optional-count s (f s i 0) (f s i 1) v) (offsets-right kept w at first (second ++ []) o) in
        let c = optional_offset_lem s (f s i 3) (f s i 4) kept w (at + text_count (f s i 0)) u (offsets-left kept w (at + text_count (f s i 0)) second [] after) in
        let d = optional-length s (f s i 3) (f s i 4) u in
        λ t. parent t ∷ place_of s i ∷ tag_of s i ∷ a t ∷ b t ∷ n t ∷ c t ∷ d t ∷ f s i 5 ∷ f s i 6 ∷ []
    fielded Glue p o = λ t. parent t ∷ place_of s i ∷ tag_of s i ∷ NONE ∷ NONE ∷ NONE ∷ NONE ∷ NONE ∷ NONE ∷ NONE ∷ []
    fielded Operator p o =
        let x = text-words (operator_passed s i 0 (both _ _ p).0).0 o in
        λ t. parent t ∷ place_of s i ∷ tag_of s i ∷ x.0 t ∷ x.1 t ∷ NONE ∷ NONE ∷ NONE ∷ NONE ∷ NONE ∷ []
    fielded Tag p o =
        let x = text-words (text-passed s i 0 (both _ _ p).0) o in
        λ t. parent t ∷ place_of s i ∷ tag_of s i ∷ x.0 t ∷ x.1 t ∷ NONE ∷ NONE ∷ NONE ∷ NONE ∷ NONE ∷ []
    fielded BoolValue p o = λ t. parent t ∷ place_of s i ∷ tag_of s i ∷ f s i 0 ∷ NONE ∷ NONE ∷ NONE ∷ NONE ∷ NONE ∷ NONE ∷ []
    fielded IntValue p o = λ t. parent t ∷ place_of s i ∷ tag_of s i ∷ f s i 0 ∷ NONE ∷ NONE ∷ NONE ∷ NONE ∷ NONE ∷ NONE ∷ []
    fielded FloatValue p o = λ t. parent t ∷ place_of s i ∷ tag_of s i ∷ f s i 0 ∷ NONE ∷ NONE ∷ NONE ∷ NONE ∷ NONE ∷ NONE ∷ []
    fielded StringValue p o =
        let x = text-words (text-passed s i 0 (both _ _ p).0) o in
        λ t. parent t ∷ place_of s i ∷ tag_of s i ∷ x.0 t ∷ x.1 t ∷ NONE ∷ NONE ∷ NONE ∷ NONE ∷ NONE ∷ []
    fielded ListValue p o = λ t. parent t ∷ place_of s i ∷ tag_of s i ∷ bytes t ∷ f s i 1 ∷ NONE ∷ NONE ∷ NONE ∷ NONE ∷ NONE ∷ []
    fielded TargetValue p o =
        let x = text-words (text-passed s i 0 (both _ _ p).0) o in
        let n = new_inside (f s i 2) (node-passed s i 2 (both _ _ (both _ _ p).1).0) in
        λ t. parent t ∷ place_of s i ∷ tag_of s i ∷ x.0 t ∷ x.1 t ∷ n t ∷ NONE ∷ NONE ∷ NONE ∷ NONE ∷ []
    fielded PointerValue p o =
        let x = text-words (text-passed s i 0 (both _ _ p).0) o in
        λ t. parent t ∷ place_of s i ∷ tag_of s i ∷ x.0 t ∷ x.1 t ∷ f s i 2 ∷ NONE ∷ NONE ∷ NONE ∷ NONE ∷ []
    fielded Assignment p o =
        let x = text-words (text-passed s i 0 (both _ _ p).0) o in
        λ t. parent t ∷ place_of s i ∷ tag_of s i ∷ x.0 t ∷ x.1 t ∷ f s i 2 ∷ NONE ∷ NONE ∷ NONE ∷ NONE ∷ []
    fielded Reference p o =
        let p2 = both _ _ (both _ _ p).1 in
        let name = text_at s (f s i 0) (f s i 1) in
        let path = text_if s (f s i 2) (f s i 3) in
        let x = text-words (text-passed s i 0 (both _ _ p).0) (offsets-left kept w at (name ∷ []) (path ++ []) o) in
        let u = optional_of s (f s i 2) (f s i 3) (optional-passed s i 2 p2.0) in
        let a = optional_offset_lem s (f s i 2) (f s i 3) kept w (at + 1) u (offsets-left kept w (at + 1) path [] (offsets-right kept w at (name ∷ []) (path ++ []) o)) in
        let b = optional-length s (f s i 2) (f s i 3) u in
        let n = new_optional (f s i 4) (λ d. (both_true _ _ (optional-container-passed s i 4 (both _ _ p2.1).0 d)).0) in
        λ t. parent t ∷ place_of s i ∷ tag_of s i ∷ x.0 t ∷ x.1 t ∷ a t ∷ b t ∷ n t ∷ NONE ∷ NONE ∷ []
    fielded Void p o = λ t. parent t ∷ place_of s i ∷ tag_of s i ∷ NONE ∷ NONE ∷ NONE ∷ NONE ∷ NONE ∷ NONE ∷ NONE ∷ []
    fielded Unknown p o = λ t. parent t ∷ place_of s i ∷ tag_of s i ∷ NONE ∷ NONE ∷ NONE ∷ NONE ∷ NONE ∷ NONE ∷ NONE ∷ []

-- ---- how many texts a node uses

module _ (s : Sections) (at len : ℕ) (q : ListPassed s at len) where
  abbrev item : ℕ → List (List ℕ)
  item j = text_if s (list_item_word s at j 0) (list_item_word s at j 1) ++ (text_at s (list_item_word s at j 2) (list_item_word s at j 3) ∷ [])

  abbrev origin : ℕ → List (List ℕ)
  origin j = text_at s (list_origin_word s at j 0) (list_origin_word s at j 1) ∷ []

  pub items-word : word_in s.payload at ≡ list_items s at
  unfolding list_word
  items-word = let z : at ≡ at + 0 = omega arith in word_in_lem s.payload at (omega arith) ∙ ap (word_at s.payload) z

  pub origins-word : word_in s.payload (at + 4) ≡ list_origins s at
  unfolding list_word
  origins-word = word_in_lem s.payload (at + 4) (omega arith)

  pub item-word : (j : ℕ) → j < list_items s at → word_in s.payload (at + 8 + j * 20) ≡ list_item_word s at j 0
  unfolding list_word
  item-word j h =
      let z : at + 8 + j * 20 ≡ at + (8 + j * 20 + 0 * 4) = omega arith in
      word_in_lem s.payload (at + 8 + j * 20) (omega arith) ∙ ap (word_at s.payload) z

  pub item-length : (j : ℕ) → j < list_items s at → length (item j) ≡ text_count (word_in s.payload (at + 8 + j * 20)) + 1
  item-length j h =
      length-append (text_if s (list_item_word s at j 0) (list_item_word s at j 1)) _
      ∙ ap (λ (n : ℕ). n + 1)
      (optional-count s (list_item_word s at j 0) (list_item_word s at j 1) (optional_of s (list_item_word s at j 0) (list_item_word s at j 1) (q.item-origin j h)) ∙ ap text_count (sym (item-word j h)))

  list_count : list_texts_in s.payload at ≡ length (list_texts s at)
  unfolding list_texts_in list_texts
  list_count =
      let n = list_items s at in
      let present : ℕ → ℕ = λ j. text_count (word_in s.payload (at + 8 + j * 20)) in
      let items : length (join_of n item) ≡ sum_of n present + n * 1 =
      join_length n item ∙ sum_ext n (λ j. length (item j)) (λ j. present j + 1) item-length ∙ sum_add n present (λ j. 1) ∙ ap (λ (m : ℕ). sum_of n present + m) (sum_const n 1) in
      let origins : length (join_of (list_origins s at) origin) ≡ list_origins s at * 1 = join_length (list_origins s at) origin ∙ sum_const (list_origins s at) 1 in
      let counted : sum_of (word_in s.payload at) present ≡ sum_of n present = ap (λ (m : ℕ). sum_of m present) items-word in
      omega (arith, length-append (join_of n item) (join_of (list_origins s at) origin), items-word, origins-word)

module _ (s : Sections) (i : ℕ) where
  one : (a l : ℕ) → good_optional s a l ≡ true → text_count a ≡ length (text_if s a l)
  one a l h = sym (optional-count s a l (optional_of s a l h))

  pub texts-count : (k : Kind) → first_field s i (fields k) ≡ 0 → texts_by s.payload (node_in s i) k ≡ length (flat_map (field_texts s i) (fields k))
  unfolding fields field_texts first_field flat_map texts_by
  texts-count Container p = omega (arith, one (f s i 0) (f s i 1) (optional-passed s i 0 (both _ _ p).0), length-append (text_if s (f s i 0) (f s i 1)) [])
  texts-count Choice p = omega (arith, one (f s i 0) (f s i 1) (optional-passed s i 0 (both _ _ p).0), length-append (text_if s (f s i 0) (f s i 1)) [])
  texts-count Command p = refl
  texts-count Divert p =
      let first = text_if s (f s i 0) (f s i 1) in
      let second = text_if s (f s i 3) (f s i 4) in
      omega (
        arith,
        one (f s i 0) (f s i 1) (optional-passed s i 0 (both _ _ p).0),
        one (f s i 3) (f s i 4) (optional-passed s i 3 (both _ _ (both _ _ (both _ _ p).1).1).0),
        length-append first (second ++ []),
        length-append second [],
      )
  texts-count Glue p = refl
  texts-count Operator p = refl
  texts-count Tag p = refl
  texts-count BoolValue p = refl
  texts-count IntValue p = refl
  texts-count FloatValue p = refl
  texts-count StringValue p = refl
  texts-count ListValue p =
      let q = list-passed s (f s i 0) (f s i 1) (payload-passed s i (both _ _ p).0).1 in
      list_count s (f s i 0) (f s i 1) q ∙ sym (ap length (append-nil (list_texts s (f s i 0))))
  texts-count TargetValue p = refl
  texts-count PointerValue p = refl
  texts-count Assignment p = refl
  texts-count Reference p =
      let path = text_if s (f s i 2) (f s i 3) in
      omega (arith, one (f s i 2) (f s i 3) (optional-passed s i 2 (both _ _ (both _ _ p).1).0), length-append path [])
  texts-count Void p = refl
  texts-count Unknown p = refl

  -- the texts of the node, as the code counts them
  pub texts_at_lem : fields_rule s i ≡ 0 → texts_at s.version s.nodes s.payload i ≡ length (node_texts s i)
  unfolding texts_at
  texts_at_lem p =
      ap (λ (x : NodeRecord). texts_by s.payload x (kind_of x.tag)) (node_record s s.version s.nodes i refl refl)
      ∙ texts-count (kind_of (tag_of s i)) p
