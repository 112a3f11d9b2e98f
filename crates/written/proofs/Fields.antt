-- What is given of a draft, its numbering, its stored texts and the room; numbers there and back; the words of a written node.
use Prim.Native.Nat.{ℕ, suc, ◌+◌, ◌*◌, ◌≤◌, ◌<◌}
use mathlib.Core.Path.{◌≡◌, refl, sym, ap, ◌∙◌, subst}
use mathlib.Core.List.{List, [], ◌∷◌}
use mathlib.Core.Bool.{Bool, true, false, cond}
use native.Mathlib.Omega.{arith}
use native.Mathlib.Nat.{mul-le-mul_left}
use lib.ListN.{length, get_or, replicate, get_or-append}
use lib.Dec.{eqb, ltb}
use borrow.Author.Tests.{eqb-true, ne_eqb, lt-ltb, ltb-true}
use Rattle.image.specs.Header.{header_length}
use Rattle.laws.specs.Counted.{sum_of}
use Rattle.laws.specs.Lists.{place_in}
use Rattle.laws.proofs.Flags.{both_true}
use Rattle.laws.proofs.Members.{and-true, sum_ext}
use Rattle.words.specs.Words.{NONE}
use Rattle.words.proofs.Words.{length-bytes}
use Rattle.image.specs.Sections.{Sections, node_count, parent_of, place_of, tag_of, f, inside, is_container}
use Rattle.image.proofs.Widths.{words-some}
use Rattle.image.specs.Encoding.{start_of, section_out, image_of}
use Rattle.records.specs.Fields.{Kind, Container, Choice, Command, Divert, Glue, Operator, Tag, BoolValue, IntValue, FloatValue, StringValue, ListValue, TargetValue, PointerValue, Assignment, Reference, Void, Unknown, kinds, kind_of, fields, Field}
use Rattle.records.specs.Records.{fields_at, number_of_children, number_of_named, payload_length_of}
use Rattle.draft.specs.Numbering.{old_of, new_of}
use Rattle.draft_image.specs.Written.{field_start, field_words, put_fields, more_words, node_out, start_in}
use Rattle.written.specs.Written.{DraftWords}
use Rattle.draft_image.proofs.Joins.{sum_below}
use Rattle.written.proofs.Lists.{not_of}
use Rattle.tree.proofs.Numbers.{EachOnce, get_below, place-below, get_of_place, place_of_get}
use Rattle.draft_image.proofs.Lengths.{image-length}
use Rattle.written.proofs.Draft.{Taken}
use Rattle.written.proofs.Texts.{Stored}
use Rattle.draft_image.proofs.Blocks.{w, put_length, nodes-length, node-count, node-word}

-- the bytes of each section fit an image
pub record Room (v : Sections) : Type 0 where
  pub nodes : 4 * length v.nodes + header_length ≤ NONE
  pub children : 4 * length v.children + header_length ≤ NONE
  pub named : 4 * length v.named + header_length ≤ NONE
  pub definitions : 4 * length v.definitions + header_length ≤ NONE
  pub items : 4 * length v.items + header_length ≤ NONE
  pub index : 4 * length v.index + header_length ≤ NONE
  pub payload : length v.payload + header_length ≤ NONE
  pub strings : length v.strings + header_length ≤ NONE

pub roomy : (ink : ℕ) (v : Sections) → length (image_of ink v) ≤ NONE → Room v
unfolding start_of section_out
roomy ink v h =
    let at : (k : ℕ) → k < 8 → length (section_out v k) + header_length ≤ NONE = λ k q. omega (arith, image-length ink v, sum_below k 8 (λ j. length (section_out v j)) q) in
    record {
      nodes = omega (arith, at 0 (omega arith), length-bytes v.nodes);
      children = omega (arith, at 1 (omega arith), length-bytes v.children);
      named = omega (arith, at 2 (omega arith), length-bytes v.named);
      definitions = omega (arith, at 3 (omega arith), length-bytes v.definitions);
      items = omega (arith, at 4 (omega arith), length-bytes v.items);
      index = omega (arith, at 5 (omega arith), length-bytes v.index);
      payload = at 6 (omega arith);
      strings = at 7 (omega arith);
    }

pub record Given (s : Sections) (order : List ℕ) (kept : List (List ℕ)) : Type 0 where
  pub words : DraftWords s
  pub taken : Taken s
  pub numbered : EachOnce (node_count s) order
  pub stored : Stored s order kept
  pub room : Room (w s order kept)

module _ {s : Sections} {order : List ℕ} {kept : List (List ℕ)} (g : Given s order kept) where
  abbrev v : Sections
  v = w s order kept

  -- ---- numbers

  pub counted : node_count v ≡ node_count s
  counted = node-count s order kept

  pub few : node_count s < NONE
  few = omega (arith, g.room.nodes, nodes-length s order kept, mul-le-mul_left (node_count s) (words-some s.version))

  pub old_in : (j : ℕ) → j < node_count s → old_of order j < node_count s
  old_in = get_below g.numbered

  -- the place of a draft's node in the numbering
  pub old_new : (i : ℕ) → i < node_count s → old_of order (place_in order i) ≡ i
  old_new = get_of_place g.numbered

  pub new_in : (i : ℕ) → i < node_count s → place_in order i < node_count s
  new_in = place-below g.numbered

  pub new_old : (j : ℕ) → j < node_count s → place_in order (old_of order j) ≡ j
  new_old = place_of_get g.numbered

  pub old_zero : old_of order 0 ≡ 0
  old_zero = g.numbered.first

  pub new_zero : place_in order 0 ≡ 0
  new_zero = ap (place_in order) (sym old_zero) ∙ new_old 0 g.taken.tables.some

  pub zero_old : (j : ℕ) → j < node_count s → old_of order j ≡ 0 → j ≡ 0
  zero_old j h e = sym (new_old j h) ∙ ap (place_in order) e ∙ new_zero

  pub inside_lt : (i : ℕ) → inside s i ≡ true → i < node_count s
  inside_lt i h = ltb-true i (node_count s) (both_true (ltb i (node_count s)) _ h).0

  pub new_is : (i : ℕ) → i < node_count s → new_of order i ≡ place_in order i
  unfolding new_of
  new_is i h = rw (ne_eqb i NONE (λ e. omega (arith, few))) refl

  pub inside-written : (j : ℕ) → j < node_count s → inside v j ≡ true
  inside-written j h =
      and-true (ltb j (node_count v)) _ (lt-ltb j (node_count v) (omega (arith, counted))) (not_of _ (ne_eqb j NONE (λ e. omega (arith, few))))

  pub inside_new : (i : ℕ) → i < node_count s → inside v (new_of order i) ≡ true
  inside_new i h = ap (inside v) (new_is i h) ∙ inside-written (place_in order i) (new_in i h)

  -- ---- the words of a node

  pub parent-word : (j : ℕ) → j < node_count s → parent_of v j ≡ new_of order (parent_of s (old_of order j))
  parent-word j h = node-word s order kept j 0 h (omega (arith, words-some s.version)) ∙ (unfold node_out in refl)

  pub place-word : (j : ℕ) → j < node_count s → place_of v j ≡ place_of s (old_of order j)
  place-word j h = node-word s order kept j 1 h (omega (arith, words-some s.version)) ∙ (unfold node_out in refl)

  pub tag_word : (j : ℕ) → j < node_count s → tag_of v j ≡ tag_of s (old_of order j)
  tag_word j h = node-word s order kept j 2 h (omega (arith, words-some s.version)) ∙ (unfold node_out in refl)

  -- the words from f k of node j are xs
  abbrev pub Reads : ℕ → ℕ → List ℕ → Type 0
  Reads j k [] = Unit {0}
  Reads j k (x ∷ xs) = (f v j k ≡ x) × Reads j (k + 1) xs

  -- the fields of node j are those of the draft's node i, as they are written
  abbrev pub ReadsAll : ℕ → ℕ → List Field → Type 0
  ReadsAll j i [] = Unit {0}
  ReadsAll j i (x ∷ xs) = Reads j (field_start x) (field_words s order kept i x) × ReadsAll j i xs

  module _ (j i : ℕ) where
    reads-kind : (k : Kind) → ((m : ℕ) → m < 7 → f v j m ≡ get_or (put_fields s order kept i (replicate 7 NONE) (fields k)) m 0) → ReadsAll j i (fields k)
    unfolding fields field_words put_fields
    reads-kind Container h =
        ((h 0 (omega arith), (h 1 (omega arith), tt)), ((h 2 (omega arith), tt), ((h 3 (omega arith), (h 4 (omega arith), tt)), ((h 5 (omega arith), (h 6 (omega arith), tt)), tt))))
    reads-kind Choice h = ((h 0 (omega arith), (h 1 (omega arith), tt)), ((h 2 (omega arith), tt), ((h 3 (omega arith), tt), tt)))
    reads-kind Command h = ((h 0 (omega arith), (h 1 (omega arith), tt)), tt)
    reads-kind Divert h =
        ((h 0 (omega arith), (h 1 (omega arith), tt)), ((h 2 (omega arith), tt), ((h 3 (omega arith), (h 4 (omega arith), tt)), ((h 5 (omega arith), tt), ((h 6 (omega arith), tt), tt)))))
    reads-kind Glue h = tt
    reads-kind Operator h = ((h 0 (omega arith), (h 1 (omega arith), tt)), tt)
    reads-kind Tag h = ((h 0 (omega arith), (h 1 (omega arith), tt)), tt)
    reads-kind BoolValue h = ((h 0 (omega arith), tt), tt)
    reads-kind IntValue h = ((h 0 (omega arith), tt), tt)
    reads-kind FloatValue h = ((h 0 (omega arith), tt), tt)
    reads-kind StringValue h = ((h 0 (omega arith), (h 1 (omega arith), tt)), tt)
    reads-kind ListValue h = ((h 0 (omega arith), (h 1 (omega arith), tt)), tt)
    reads-kind TargetValue h = ((h 0 (omega arith), (h 1 (omega arith), tt)), ((h 2 (omega arith), tt), tt))
    reads-kind PointerValue h = ((h 0 (omega arith), (h 1 (omega arith), tt)), ((h 2 (omega arith), tt), tt))
    reads-kind Assignment h = ((h 0 (omega arith), (h 1 (omega arith), tt)), ((h 2 (omega arith), tt), tt))
    reads-kind Reference h =
        ((h 0 (omega arith), (h 1 (omega arith), tt)), ((h 2 (omega arith), (h 3 (omega arith), tt)), ((h 4 (omega arith), tt), tt)))
    reads-kind Void h = tt
    reads-kind Unknown h = (tt, tt)

  pub reads : (j : ℕ) → j < node_count s → ReadsAll j (old_of order j) (fields_at s (old_of order j))
  reads j h =
      reads-kind j (old_of order j) (kind_of (tag_of s (old_of order j)))
      (λ m q. node-word s order kept j (3 + m) h (omega (arith, words-some s.version)) ∙ shift m q)
    where
      put : List ℕ
      put = put_fields s order kept (old_of order j) (replicate 7 NONE) (fields_at s (old_of order j))

      three : (n : ℕ) → 3 + n ≡ suc (suc (suc n))
      three n = omega arith

      shift : (m : ℕ) → m < 7 → get_or (node_out s order kept (old_of order j)) (3 + m) 0 ≡ get_or put m 0
      shift m q =
          unfold node_out in rw (three m)
          (get_or-append put (more_words s order kept (old_of order j)) 0 m
          (omega (arith, put_length s order kept (old_of order j) (replicate 7 NONE) (fields_at s (old_of order j)))))

  -- a container's fields; a list's
  pub container-reads : (j : ℕ) → j < node_count s → is_container s (old_of order j) ≡ true → ReadsAll j (old_of order j) (fields Container)
  unfolding kinds
  container-reads j h e = subst (λ (tag : ℕ). ReadsAll j (old_of order j) (fields (kind_of tag))) (eqb-true (tag_of s (old_of order j)) 1 e) (reads j h)

  pub list-reads : (j : ℕ) → j < node_count s → eqb (tag_of s (old_of order j)) 12 ≡ true → ReadsAll j (old_of order j) (fields ListValue)
  unfolding kinds
  list-reads j h e = subst (λ (tag : ℕ). ReadsAll j (old_of order j) (fields (kind_of tag))) (eqb-true (tag_of s (old_of order j)) 12 e) (reads j h)

  pub container-same : (j : ℕ) → j < node_count s → is_container v j ≡ is_container s (old_of order j)
  container-same j h = ap (λ (tag : ℕ). eqb tag 1) (tag_word j h)

  -- ---- counts, and their sums over the nodes before

  if_same : (a : Bool) (x y : ℕ) → (a ≡ true → x ≡ y) → cond a x 0 ≡ cond a y 0
  if_same true x y e = e refl
  if_same false x y e = refl

  pub children_of : (j : ℕ) → j < node_count s → number_of_children v j ≡ number_of_children s (old_of order j)
  unfolding number_of_children fields field_words
  children_of j h =
      rw (container-same j h)
      (if_same (is_container s (old_of order j)) (f v j 4) (f s (old_of order j) 4) (λ e. (container-reads j h e).1.1.0.1.0))

  pub named_of : (j : ℕ) → j < node_count s → number_of_named v j ≡ number_of_named s (old_of order j)
  unfolding number_of_named fields field_words
  named_of j h =
      rw (container-same j h)
      (if_same (is_container s (old_of order j)) (f v j 6) (f s (old_of order j) 6) (λ e. (container-reads j h e).1.1.1.0.1.0))

  pub payload_of : (j : ℕ) → j < node_count s → payload_length_of v j ≡ payload_length_of s (old_of order j)
  unfolding payload_length_of fields field_words
  payload_of j h =
      rw (tag_word j h)
      (if_same (eqb (tag_of s (old_of order j)) 12) (f v j 1) (f s (old_of order j) 1) (λ e. (list-reads j h e).0.1.0))

  -- a start as it is written is the sum before node j in the image
  pub start_is : (b : ℕ → ℕ) (j : ℕ) → j < node_count s → start_in b order (old_of order j) ≡ sum_of j (λ m. b (old_of order m))
  unfolding start_in
  start_is b j h = ap (λ (n : ℕ). sum_of n (λ m. b (old_of order m))) (new_old j h)

  pub sum_written : (a b : ℕ → ℕ) → ((j : ℕ) → j < node_count s → a j ≡ b (old_of order j)) → (j : ℕ) → j < node_count s → sum_of j a ≡ start_in b order (old_of order j)
  sum_written a b e j h = sum_ext j a (λ m. b (old_of order m)) (λ m q. e m (omega arith)) ∙ sym (start_is b j h)
