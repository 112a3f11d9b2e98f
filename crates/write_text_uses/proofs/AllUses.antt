-- The three runs of uses, of nodes, named entries and definitions, are all the uses of a draft.
use Prim.Native.Nat.{ℕ, ◌+◌, ◌-◌, ◌/◌, ◌≤◌}
use mathlib.Core.Path.{◌≡◌, refl, ap}
use mathlib.Core.List.{List, [], ◌∷◌, ◌++◌}
use native.Mathlib.Omega.{arith}
use lib.ListN.{length, length-append}
use Rattle.laws.specs.Lists.{flat_map}
use Rattle.image.specs.Sections.{Sections, node_words, definition_words, node_word, named_word, definition_word, item_word}
use Rattle.records.specs.Fields.{Field, text, optional, command, operator, node, optionalNode, container, optionalContainer, plain, at_most, children, named, payload, wrong}
use Rattle.records.specs.Records.{number_of_named, list_word}
use Rattle.draft.specs.Source.{draft_of, nodes_only}
use Rattle.draft.specs.Numbering.{old_of}
use Rattle.draft_image.proofs.Joins.{join_same}
use Rattle.write_text_uses.specs.Uses.{list_item_pairs, list_origin_pairs, list_pairs, field_pairs, node_pairs, named_pairs, definition_pairs, all_node_pairs, all_named_pairs, all_definition_pairs, use_words, words_from, Room, Put, named_only, definitions_only, Olds, Readable, Collectable, Collected}
use Rattle.write_text_uses.proofs.Pairs.{pairs_length, uses_pairs}
use Rattle.write_text_uses.proofs.Puts.{put_long, put_both, order-kept}

flat_same : (g h : Field → List ℕ) → ((x : Field) → g x ≡ h x) → (xs : List Field) → flat_map g xs ≡ flat_map h xs
unfolding flat_map
flat_same g h e [] = refl
flat_same g h e (x ∷ xs) = rw (e x, flat_same g h e xs) refl

-- what a draft's other sections are says nothing of its texts' words
module _ (version : ℕ) (nodes kids entries definitions items bytes strings : List ℕ) where
  abbrev s : Sections
  s = draft_of version nodes kids entries definitions items bytes strings

  field_same : (i : ℕ) (x : Field) → field_pairs s i x ≡ field_pairs (nodes_only version nodes bytes) i x
  unfolding field_pairs node_word list_pairs list_item_pairs list_origin_pairs list_word
  field_same i (text k) = refl
  field_same i (optional k) = refl
  field_same i (command k) = refl
  field_same i (operator k) = refl
  field_same i payload = refl
  field_same i (node k) = refl
  field_same i (optionalNode k) = refl
  field_same i (container k) = refl
  field_same i (optionalContainer k) = refl
  field_same i (plain k) = refl
  field_same i (at_most k n) = refl
  field_same i children = refl
  field_same i named = refl
  field_same i wrong = refl

  node-same : (i : ℕ) → node_pairs s i ≡ node_pairs (nodes_only version nodes bytes) i
  unfolding node_word
  node-same i = flat_same (field_pairs s i) (field_pairs (nodes_only version nodes bytes) i) (field_same i) _

  named-same : (i : ℕ) → named_pairs s i ≡ named_pairs (named_only version nodes entries) i
  unfolding named_pairs number_of_named node_word named_word
  named-same i = refl

  definition-same : (d : ℕ) → definition_pairs s d ≡ definition_pairs (definitions_only definitions items) d
  unfolding definition_pairs definition_word item_word
  definition-same d = refl

  pub uses_are : (order : List ℕ) → use_words s order
      ≡ all_node_pairs (nodes_only version nodes bytes) order ++ all_named_pairs (named_only version nodes entries) order ++ all_definition_pairs (definitions_only definitions items)
  unfolding use_words all_node_pairs all_named_pairs all_definition_pairs
  uses_are order =
      let a = join_same (length nodes / node_words version) (λ j. node_pairs s (old_of order j)) (λ j. node_pairs (nodes_only version nodes bytes) (old_of order j)) (λ j h. node-same (old_of order j)) in
      let b = join_same (length nodes / node_words version) (λ j. named_pairs s (old_of order j)) (λ j. named_pairs (named_only version nodes entries) (old_of order j)) (λ j h. named-same (old_of order j)) in
      let c = join_same (length definitions / definition_words) (definition_pairs s) (definition_pairs (definitions_only definitions items)) (λ d h. definition-same d) in
      λ i. a i ++ b i ++ c i

-- ---- the three calls

module _ (version : ℕ) (nodes entries definitions items bytes w₀ : List ℕ) (order at : ℕ) where
  abbrev n : ℕ
  n = length nodes / node_words version

  abbrev olds : List ℕ
  olds = words_from w₀ order n

  abbrev first : List ℕ
  first = all_node_pairs (nodes_only version nodes bytes) olds

  abbrev second : List ℕ
  second = all_named_pairs (named_only version nodes entries) olds

  abbrev third : List ℕ
  third = all_definition_pairs (definitions_only definitions items)

  module _ (a : Collectable version nodes entries definitions items bytes w₀ order at) where
    size : at + (length first + length second + length third) ≤ order
    size =
        omega (
          arith,
          a.below,
          ap length (uses_are version nodes [] entries definitions items bytes [] olds),
          length-append (first ++ second) third,
          length-append first second,
        )

    pub nodes-asked : Readable (nodes_only version nodes bytes) olds × (order + n ≤ length w₀) × (at + length first ≤ order)
    nodes-asked = (a.read, a.numbers, omega (arith, size))

    module _ (w₁ : List ℕ) (k₁ : ℕ) (p : Put first w₀ at w₁ k₁) where
      long₁ : length w₁ ≡ length w₀
      long₁ = put_long first w₀ at w₁ k₁ (omega (arith, size, a.numbers)) p

      kept : words_from w₁ order n ≡ olds
      kept = order-kept w₀ order n a.numbers first at w₁ k₁ (omega (arith, size)) p

      pub named-asked : Olds n (words_from w₁ order n) × (order + n ≤ length w₁) × (k₁ + length (all_named_pairs (named_only version nodes entries) (words_from w₁ order n)) ≤ order)
      named-asked = rw kept (a.read.olds, omega (arith, long₁, a.numbers), omega (arith, size, p.end))

      module _ (w₂ : List ℕ) (k₂ : ℕ) (q : Put (all_named_pairs (named_only version nodes entries) (words_from w₁ order n)) w₁ k₁ w₂ k₂) where
        q' : Put second w₁ k₁ w₂ k₂
        q' = rw kept at q

        both : Put (first ++ second) w₀ at w₂ k₂
        both = put_both first second w₀ at w₁ k₁ w₂ k₂ (omega (arith, size, a.numbers, length-append first second)) p q'

        pub definitions-asked : Room third w₂ k₂
        definitions-asked =
            record {
              fits =
                  omega (
                    arith,
                    size,
                    a.numbers,
                    both.end,
                    length-append first second,
                    put_long (first ++ second) w₀ at w₂ k₂ (omega (arith, size, a.numbers, length-append first second)) both,
                  );
            }

        module _ (w₃ : List ℕ) (k₃ : ℕ) (r : Put third w₂ k₂ w₃ k₃) where
          all : Put (first ++ second ++ third) w₀ at w₃ k₃
          all =
              put_both (first ++ second) third w₀ at w₂ k₂ w₃ k₃
              (omega (arith, size, a.numbers, length-append (first ++ second) third, length-append first second)) both r

          pub begins : at ≤ k₃
          begins = omega (arith, all.end)

          pub collected : (kids strings : List ℕ) → Collected (draft_of version nodes kids entries definitions items bytes strings) olds w₀ at w₃ ((k₃ - at) / 2)
          collected kids strings =
              let s = draft_of version nodes kids entries definitions items bytes strings in
              let e = uses_are version nodes kids entries definitions items bytes strings olds in
              record {
                count = omega (arith, all.end, ap length e, pairs_length (uses_pairs s olds));
                is = rw e all.is;
              }
