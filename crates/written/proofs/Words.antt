-- The words of the written sections are words, and the sections are whole entries.
use Prim.Native.Nat.{ℕ, ◌+◌, ◌*◌, ◌^◌, ◌≤◌, ◌<◌}
use mathlib.Core.Path.{◌≡◌, sym, ◌∙◌, refl}
use mathlib.Core.List.{List, [], ◌∷◌}
use native.Mathlib.Omega.{arith}
use lib.ListN.{length, get_or, replicate}
use lib.Seq.{sets}
use Rattle.laws.specs.Counted.{sum_of}
use Rattle.laws.specs.Lists.{place_in}
use Rattle.laws.proofs.Members.{All, all_append}
use Rattle.laws.proofs.Places.{place_le}
use Rattle.words.specs.Words.{NONE, is_none}
use Rattle.laws.proofs.Lists.{below_at}
use Rattle.image.specs.Sections.{Sections, node_words, text_entry_words, definition_words, node_count, definition_count, item_count, node_word, parent_of, f, named_word, definition_word, item_word, absent}
use Rattle.image.specs.Header.{version}
use Rattle.image.specs.Encoding.{start_of}
use Rattle.records.specs.Fields.{Field, text, optional, command, operator, node, optionalNode, container, optionalContainer, plain, at_most, children, named, payload, wrong}
use Rattle.records.specs.Records.{fields_at, number_of_children, number_of_named, payload_length_of}
use Rattle.tree.specs.Tree.{child_at, named_at}
use Rattle.draft.specs.Numbering.{old_of, new_of}
use Rattle.draft_image.specs.Strings.{by_path, path_of}
use Rattle.draft_image.specs.Written.{field_start, field_words, put_fields, more_words, node_out, children_out, named_out, definition_out, item_out, index_out, start_in, written_with}
use Rattle.draft_image.proofs.Joins.{sum_below}
use Rattle.written.proofs.Lists.{all_joined, all_sets, all_below}
use Rattle.written.proofs.Header.{WholeSections}
use Rattle.written.proofs.Texts.{offset_inside}
use Rattle.draft_image.proofs.Blocks.{w, nodes-length, child-count, named-whole, definitions-whole, items-whole, index-whole}
use Rattle.written.proofs.Fields.{Given, counted, few, start_is}
use Rattle.written.proofs.Payload.{Small, offset_small, text-small, cond_small, strings-small, payload-count}
use Rattle.written.proofs.Index.{index-node}

module _ {s : Sections} {order : List ℕ} {kept : List (List ℕ)} (g : Given s order kept) where
  abbrev v : Sections
  v = w s order kept

  node-small : (i k : ℕ) → Small (node_word s i k)
  unfolding node_word
  node-small i k = below_at (2 ^ 32) (i * node_words s.version + k) s.nodes (omega arith) g.words.nodes

  named_small : (j k : ℕ) → Small (named_word s j k)
  unfolding named_word
  named_small j k = below_at (2 ^ 32) (j * text_entry_words + k) s.named (omega arith) g.words.named

  definition-small : (j k : ℕ) → Small (definition_word s j k)
  unfolding definition_word
  definition-small j k = below_at (2 ^ 32) (j * definition_words + k) s.definitions (omega arith) g.words.definitions

  item-small : (j k : ℕ) → Small (item_word s j k)
  unfolding item_word
  item-small j k = below_at (2 ^ 32) (j * text_entry_words + k) s.items (omega arith) g.words.items

  new_small : (i : ℕ) → Small (new_of order i)
  unfolding new_of
  new_small i = cond_small g (is_none i) (place_in order i) (omega (arith, place_le order i, g.numbered.len, few g))

  module _ (j : ℕ) (h : j < node_count s) where
    abbrev i : ℕ
    i = old_of order j

    start_small : (b : ℕ → ℕ) → sum_of (node_count s) (λ m. b (old_of order m)) < 2 ^ 32 → Small (start_in b order i)
    start_small b q = omega (arith, start_is g b j h, sum_below j (node_count s) (λ m. b (old_of order m)) h)

    field_small : (x : Field) → All Small (field_words s order kept i x)
    unfolding field_words
    field_small (text k) = (offset_small g _, (text-small g _ _ (node-small i _), tt))
    field_small (optional k) = (
      cond_small g (absent (f s i k) (f s i (k + 1))) _ (offset_small g _),
      (cond_small g (absent (f s i k) (f s i (k + 1))) _ (text-small g _ _ (node-small i _)), tt),
    )
    field_small (command k) = (offset_small g _, (text-small g _ _ (node-small i _), tt))
    field_small (operator k) = (offset_small g _, (text-small g _ _ (node-small i _), tt))
    field_small (node k) = (new_small (f s i k), tt)
    field_small (optionalNode k) = (new_small (f s i k), tt)
    field_small (container k) = (new_small (f s i k), tt)
    field_small (optionalContainer k) = (new_small (f s i k), tt)
    field_small (plain k) = (node-small i _, tt)
    field_small (at_most k n) = (node-small i _, tt)
    field_small children = (start_small (number_of_children s) (omega (arith, child-count s order kept, g.room.children)), (node-small i _, tt))
    field_small named = (start_small (number_of_named s) (omega (arith, named-whole s order kept, g.room.named)), (node-small i _, tt))
    field_small payload = (start_small (payload_length_of s) (omega (arith, payload-count g, g.room.payload)), (node-small i _, tt))
    field_small wrong = tt

    put_small : (ws : List ℕ) (xs : List Field) → All Small ws → All Small (put_fields s order kept i ws xs)
    unfolding put_fields
    put_small ws [] a = a
    put_small ws (x ∷ xs) a = put_small (sets ws (field_start x) (field_words s order kept i x)) xs (all_sets Small ws (field_start x) (field_words s order kept i x) a (field_small x))

    more-small : All Small (more_words s order kept i)
    unfolding more_words
    more-small = all_joined Small _ _ (λ k q. (node-small i _, tt))

    out_small : All Small (node_out s order kept i)
    unfolding node_out
    out_small =
        let n : NONE < 2 ^ 32 = omega arith in (
          new_small (parent_of s i),
          (
            node-small i 1,
            (
              node-small i 2,
              all_append Small (put_fields s order kept i (replicate 7 NONE) (fields_at s i)) (more_words s order kept i)
                  (put_small (replicate 7 NONE) (fields_at s i) (n, (n, (n, (n, (n, (n, (n, tt)))))))) more-small,
            ),
          ),
        )

  index-small : (k : ℕ) → k < length (by_path s order) → All Small (index_out s order kept (get_or (by_path s order) k 0))
  unfolding index_out
  index-small k h =
      let t = path_of s order (get_or (by_path s order) k 0) in
      (offset_small g t, (omega (arith, offset_inside kept t (g.stored.index k h), strings-small g), (omega (arith, (index-node g k h).0, few g), tt)))

  -- ---- the sections are whole

  version-kept : v.version ≡ s.version
  unfolding w written_with
  version-kept = refl

  pub whole : s.version ≡ version → start_of v 8 ≤ NONE → WholeSections v
  whole two fit =
      record {
        versioned = version-kept ∙ two;
        some = omega (arith, counted g, g.taken.tables.some);
        nodes = nodes-length s order kept ∙ (λ i. sym (counted g) i * node_words (sym version-kept i));
        named = omega (arith, named-whole s order kept);
        definitions = omega (arith, definitions-whole s order kept);
        items = omega (arith, items-whole s order kept);
        index = omega (arith, index-whole s order kept);
        node-words = all_below (2 ^ 32) v.nodes (unfold w written_with in (all_joined Small (node_count s) (λ j. node_out s order kept (old_of order j)) out_small));
        child-words = all_below (2 ^ 32) v.children (unfold w written_with children_out in (all_joined Small (node_count s) _
            (λ j h. all_joined Small _ _ (λ m q. (new_small (child_at s (old_of order j) m), tt)))));
        named-words = all_below (2 ^ 32) v.named (unfold w written_with named_out in (all_joined Small (node_count s) _
            (λ j h. all_joined Small _ _ (λ m q. (offset_small g _, (text-small g _ _ (named_small _ _), (new_small (named_at s (old_of order j) m 2), tt)))))));
        definition-words = all_below (2 ^ 32) v.definitions (unfold w written_with definition_out in (all_joined Small (definition_count s) _
            (λ d h. (offset_small g _, (text-small g _ _ (definition-small d 1), (definition-small d 2, (definition-small d 3, tt)))))));
        item-words = all_below (2 ^ 32) v.items (unfold w written_with item_out in (all_joined Small (item_count s) _
            (λ j h. (offset_small g _, (text-small g _ _ (item-small j 1), (item-small j 2, tt))))));
        index-words = all_below (2 ^ 32) v.index (unfold w written_with in (all_joined Small (length (by_path s order)) _ index-small));
        fits = omega arith;
      }
