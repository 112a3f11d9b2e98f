-- The rules of entries by the tests that the code makes, one at a time.
use Prim.Native.Nat.{ℕ, ◌+◌, ◌*◌, ◌/◌, ◌≤◌, ◌<◌}
use mathlib.Core.Path.{◌≡◌, refl, ap, ◌∙◌}
use mathlib.Core.List.{List, []}
use mathlib.Core.Bool.{Bool, true, false}
use native.Mathlib.Omega.{arith}
use native.Mathlib.Nat.{add-zero}
use lib.ListN.{length, get_or}
use lib.Dec.{eqb}
use borrow.Author.Tests.{eq-eqb, ne_eqb}
use Rattle.laws.specs.Refusal.{unless, ◌▸◌}
use Rattle.laws.proofs.First.{pass, fail}
use Rattle.laws.proofs.Flags.{both_true}
use Rattle.words.specs.Words.{words_of}
use Rattle.words.proofs.Words.{length-words}
use Rattle.texts.specs.Text.{rising}
use Rattle.image.specs.declared.TextEntry.{TextEntry}
use Rattle.image.specs.Entries.{text_entry_of, entry_text_from}
use Rattle.image.proofs.Tests.{inside-true}
use Rattle.image.proofs.RisingTexts.{rising-like}
use Rattle.image.specs.Sections.{Sections, node_words, child_size, text_entry_size, node_count, node_word, parent_of, inside, inside_among, inside_container, good_text, good_in, f, child_word, named_word, child_count, named_count}
use Rattle.image.specs.Tags.{container_tag}
use Rattle.tree.specs.Tree.{child_at, named_at, named_text, right_child, child_rule, named_rule}
use Rattle.tree.specs.Parts.{parts_of, named_node}

-- ---- a node in the bytes of the nodes

module _ (version : ℕ) (ns : List ℕ) (x : ℕ) where
  abbrev here : Sections
  here = parts_of version ns [] [] []

  -- by the count that the code reads
  pub inside_is : (count : ℕ) (b : Bool) → count ≡ node_count here → b ≡ inside_among count x → b ≡ inside here x
  inside_is count b e h = h ∙ ap (λ (n : ℕ). inside_among n x) e

  pub inside-below : inside here x ≡ true → x < node_count here
  inside-below h = (inside-true (node_count here) x h).0

  -- ---- a container

  pub outside-container : inside here x ≡ false → inside_container here x ≡ false
  outside-container h = rw h refl

  pub tag_container : (t : ℕ) → inside here x ≡ true → t ≡ node_word here x 2 → inside_container here x ≡ eqb t container_tag
  tag_container t h e = rw (h, e) refl

  -- ---- an ordered child

  module _ (i j : ℕ) where
    pub outside-child : inside here x ≡ false → right_child here x i j ≡ false
    outside-child h = rw h refl

    module _ (p : ℕ) (h : inside here x ≡ true) (e : p ≡ node_word here x 0) where
      pub astray_child : (p ≡ i → ⊥) → right_child here x i j ≡ false
      astray_child o = rw (h, ← e, ne_eqb p i o) refl

      pub place-child : (q : ℕ) → p ≡ i → q ≡ node_word here x 1 → right_child here x i j ≡ eqb q j
      place-child q o k = rw (h, ← e, eq-eqb p i o, k) refl

-- ---- a named entry

-- entry j of container i, read at `at`
module _ (version : ℕ) (ns ms ss : List ℕ) (i j at : ℕ) (entry : TextEntry) where
  abbrev parts : Sections
  parts = parts_of version ns [] ms ss

  pub record Reading : Type 0 where
    pub where_at : at ≡ f parts i 5 + j
    pub read : entry ≡ text_entry_of (words_of ms) at

  module _ (r : Reading) where
    offset_is : named_at parts i j 0 ≡ entry.offset
    unfolding named_word text_entry_of
    offset_is = rw (r.read, r.where_at, add-zero) refl

    length_is : named_at parts i j 1 ≡ entry.len
    unfolding named_word text_entry_of
    length_is = rw (r.read, r.where_at) refl

    pub value_is : named_at parts i j 2 ≡ entry.value
    unfolding named_word text_entry_of
    value_is = rw (r.read, r.where_at) refl

    text_is : good_text parts (named_at parts i j 0) (named_at parts i j 1) ≡ good_in ss entry.offset entry.len
    text_is = rw (offset_is, length_is) refl

    pub bad_text_lem : good_in ss entry.offset entry.len ≡ false → named_rule parts i j ≡ 14
    unfolding named_rule
    bad_text_lem e = rw (text_is, e) (unfold unless ◌▸◌ in refl)

    module _ (t : good_in ss entry.offset entry.len ≡ true) (first : ℕ) (start : first ≡ f parts i 5) where
      text-here : (k : ℕ) → entry_text_from (words_of ms) ss first k ≡ named_text parts i k
      unfolding entry_text_from named_word text_entry_of
      text-here k = rw (start, add-zero) refl

      abbrev rises : Bool
      rises = rising (entry_text_from (words_of ms) ss first) j

      order_is : rises ≡ rising (named_text parts i) j
      order_is = rising-like (entry_text_from (words_of ms) ss first) (named_text parts i) text-here j

      pub bad_order : rises ≡ false → named_rule parts i j ≡ 14
      unfolding named_rule
      bad_order e = rw (text_is, t, ← order_is, e) (unfold unless ◌▸◌ in refl)

      module _ (o : rises ≡ true) where
        target_is : inside_container parts (named_at parts i j 2) ≡ inside_container (parts_of version ns [] [] []) entry.value
        unfolding node_word
        target_is = rw value_is refl

        pub bad_target : inside_container (parts_of version ns [] [] []) entry.value ≡ false → named_rule parts i j ≡ 9
        unfolding named_rule
        bad_target e = rw (text_is, t, ← order_is, o, target_is, e) (unfold unless ◌▸◌ in refl)

        module _ (b : inside_container (parts_of version ns [] [] []) entry.value ≡ true) (p : ℕ)
            (q : p ≡ get_or (words_of ns) (entry.value * node_words version + 0) 0) where
          parent_is : parent_of parts (named_at parts i j 2) ≡ p
          unfolding node_word
          parent_is = rw (value_is, q) refl

          pub bad_parent : (p ≡ i → ⊥) → named_rule parts i j ≡ 14
          unfolding named_rule
          bad_parent e = rw (text_is, t, ← order_is, o, target_is, b, parent_is, ne_eqb p i e) (unfold unless ◌▸◌ in refl)

          pub right-named : p ≡ i → named_rule parts i j ≡ 0
          unfolding named_rule
          right-named e = rw (text_is, t, ← order_is, o, target_is, b, parent_is, eq-eqb p i e) (unfold unless ◌▸◌ in refl)

-- a container is a node
pub container-below : (version : ℕ) (ns : List ℕ) (x : ℕ) → inside_container (parts_of version ns [] [] []) x ≡ true
    → x < length (words_of ns) / node_words version
container-below version ns x b = inside-below version ns x (both_true (inside (parts_of version ns [] [] []) x) _ b).0

-- ---- an ordered child, by the word that the code reads

module _ (version : ℕ) (ns cs : List ℕ) (i j start x : ℕ) (e : start ≡ f (parts_of version ns cs [] []) i 3) (read : x ≡ get_or (words_of cs) (start + j) 0) where
  pub child_is : x ≡ child_at (parts_of version ns cs [] []) i j
  unfolding child_word
  child_is = rw (read, e) refl

  rule_is : child_rule (parts_of version ns cs [] []) i j ≡ unless (right_child (parts_of version ns [] [] []) x i j) 14
  unfolding child_rule node_word
  rule_is = rw child_is refl

  pub child-passes : right_child (parts_of version ns [] [] []) x i j ≡ true → child_rule (parts_of version ns cs [] []) i j ≡ 0
  child-passes h = rule_is ∙ pass _ 14 h

  pub child-fails : right_child (parts_of version ns [] [] []) x i j ≡ false → child_rule (parts_of version ns cs [] []) i j ≡ 14
  child-fails h = rule_is ∙ fail _ 14 h

-- the word of a child is there
pub child-bytes : (version : ℕ) (ns cs : List ℕ) (k : ℕ) → k < child_count (parts_of version ns cs [] []) → child_size * k + child_size ≤ length cs
child-bytes version ns cs k h = omega (arith, length-words cs)

-- the words of a named entry are there
pub named-bytes : (version : ℕ) (ns ms ss : List ℕ) (k : ℕ) → k < named_count (parts_of version ns [] ms ss) → text_entry_size * k + text_entry_size ≤ length ms
named-bytes version ns ms ss k h = omega (arith, length-words ms)

-- ---- the node of a named entry, by the entry that the code reads

pub named_is : (version : ℕ) (ns ms ss : List ℕ) (i j start : ℕ) (entry : TextEntry) → start ≡ f (parts_of version ns [] ms ss) i 5
    → entry ≡ text_entry_of (words_of ms) (start + j) → entry.value ≡ named_node (parts_of version ns [] ms ss) i j
unfolding named_word text_entry_of
named_is version ns ms ss i j start entry e read = rw (read, e) refl
