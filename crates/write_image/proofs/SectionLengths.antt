-- The sections of a written image: how long each is, and where it begins.
use Prim.Native.Nat.{ℕ, ◌+◌, ◌*◌, ◌<◌}
use mathlib.Core.Path.{◌≡◌, refl, ap, ◌∙◌}
use mathlib.Core.List.{List}
use native.Mathlib.Omega.{arith}
use lib.ListN.{length}
use Rattle.laws.specs.Counted.{sum_of}
use Rattle.words.proofs.Words.{length-bytes}
use Rattle.image.specs.Header.{header_length}
use Rattle.image.specs.Sections.{Sections, node_words, text_entry_words, definition_words, node_size, child_size, text_entry_size, definition_size, node_count, child_count, named_count, definition_count, item_count}
use Rattle.image.proofs.Widths.{size-words}
use Rattle.image.specs.Encoding.{section_out, start_of}
use Rattle.records.specs.Records.{number_of_children, number_of_named, payload_length_of}
use Rattle.records.proofs.PassedRules.{used_up_lem}
use Rattle.draft.specs.Draft.{tables_rule, reach_rule}
use Rattle.draft.specs.Numbering.{numbering, old_of}
use Rattle.draft.proofs.Rules.{tables}
use Rattle.draft.proofs.ReachedNodes.{reached, Numbered, numbered}
use Rattle.draft_image.specs.Strings.{by_path, stored_texts}
use Rattle.draft_image.specs.Written.{payload_out, written_with, written}
use Rattle.draft_image.specs.Encode.{image_for}
use Rattle.draft_image.proofs.Joins.{join_len, all_get}
use Rattle.draft_image.proofs.Blocks.{w, nodes-length, child-count, named-whole, definitions-whole, items-whole, index-whole}
use Rattle.draft_image.proofs.Lengths.{image-length, payload-length}
use Rattle.write_text_uses.specs.Uses.{stored_bytes}
use Rattle.write_text_uses.proofs.Sums.{sum_ordered}
use Rattle.write_image.specs.Length.{image_length}

-- ---- the sections of a draft whose tables are right and whose nodes are all reached

-- the image's containers
abbrev container_count : Sections → ℕ
container_count s = length (by_path s (numbering s))

pub record Sized (s v : Sections) : Type 0 where
  pub versioned : v.version ≡ s.version
  pub nodes : length v.nodes ≡ node_count s * node_words s.version
  pub children : length v.children ≡ child_count s
  pub named : length v.named ≡ named_count s * text_entry_words
  pub definitions : length v.definitions ≡ definition_count s * definition_words
  pub items : length v.items ≡ item_count s * text_entry_words
  pub index : length v.index ≡ container_count s * text_entry_words
  pub payload : length v.payload ≡ length s.payload
  pub strings : v.strings ≡ stored_bytes s

module _ (s : Sections) (p : tables_rule s ≡ 0) (q : reach_rule s ≡ 0) where
  abbrev order : List ℕ
  order = numbering s

  abbrev kept : List (List ℕ)
  kept = stored_texts s (numbering s)

  pub once : Numbered (node_count s) order
  once = numbered s (tables s p) (reached s q)

  pub old_below : (j : ℕ) → j < node_count s → old_of order j < node_count s
  old_below j h = all_get (λ x. x < node_count s) order j once.within (tables s p).some

  payload-whole : length (w s order kept).payload ≡ length s.payload
  unfolding w written_with
  payload-whole =
      join_len (node_count s) (λ j. payload_out s order kept (old_of order j)) (λ j. payload_length_of s (old_of order j)) (λ m h. payload-length s order kept (old_of order m) ((tables s p).fields (old_of order m) (old_below m h)))
      ∙ sum_ordered (node_count s) order once (payload_length_of s) ∙ (used_up_lem s (tables s p).used).payload

  sized_with : Sized s (w s order kept)
  sized_with =
      let all = used_up_lem s (tables s p).used in
      record {
        versioned = unfold w written_with in refl;
        nodes = nodes-length s order kept;
        children = child-count s order kept ∙ sum_ordered (node_count s) order once (number_of_children s) ∙ all.children;
        named = named-whole s order kept ∙ ap (λ (x : ℕ). x * text_entry_words) (sum_ordered (node_count s) order once (number_of_named s) ∙ all.named);
        definitions = definitions-whole s order kept;
        items = items-whole s order kept;
        index = index-whole s order kept;
        payload = payload-whole;
        strings = unfold w written_with in refl;
      }

  pub sized : Sized s (written s)
  unfolding written w
  sized = sized_with

-- ---- where each section begins

pub record Starts (s v : Sections) : Type 0 where
  pub nodes : start_of v 0 ≡ header_length
  pub children : start_of v 1 ≡ header_length + node_count s * node_size s.version
  pub named : start_of v 2 ≡ header_length + node_count s * node_size s.version + child_count s * child_size
  pub definitions : start_of v 3 ≡ header_length + node_count s * node_size s.version + child_count s * child_size + named_count s * text_entry_size
  pub items : start_of v 4 ≡ header_length + node_count s * node_size s.version + child_count s * child_size + named_count s * text_entry_size + definition_count s * definition_size
  pub index : start_of v 5 ≡ header_length + node_count s * node_size s.version + child_count s * child_size + named_count s * text_entry_size + definition_count s * definition_size + item_count s * text_entry_size
  pub payload : start_of v 6
      ≡ header_length + node_count s * node_size s.version + child_count s * child_size + named_count s * text_entry_size + definition_count s * definition_size + item_count s * text_entry_size + container_count s * text_entry_size
  pub strings : start_of v 7
      ≡ header_length + node_count s * node_size s.version + child_count s * child_size + named_count s * text_entry_size + definition_count s * definition_size + item_count s * text_entry_size + container_count s * text_entry_size
      + length s.payload
  pub end : start_of v 8 ≡ image_length s

pub starts : (s v : Sections) → Sized s v → Starts s v
unfolding start_of sum_of section_out
starts s v z =
    let a = length-bytes v.nodes in
    let wide = size-words (node_count s) s.version in
    let b = length-bytes v.children in
    let c = length-bytes v.named in
    let d = length-bytes v.definitions in
    let e = length-bytes v.items in
    let g = length-bytes v.index in
    let h = ap length z.strings in
    record {
      nodes = omega arith;
      children = omega arith;
      named = omega arith;
      definitions = omega arith;
      items = omega arith;
      index = omega arith;
      payload = omega arith;
      strings = omega arith;
      end = omega arith;
    }

pub length_is : (ink : ℕ) (s : Sections) → tables_rule s ≡ 0 → reach_rule s ≡ 0 → length (image_for ink s) ≡ image_length s
unfolding image_for
length_is ink s p q = image-length ink (written s) ∙ (starts s (written s) (sized s p q)).end
