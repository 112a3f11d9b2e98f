-- What is known before an image is written, in the terms of those who write its sections.
use Prim.Native.Nat.{ℕ, zero, suc, ◌+◌, ◌*◌, ◌/◌, ◌^◌, ◌≤◌, ◌<◌}
use mathlib.Core.Path.{◌≡◌, refl, sym, ap, ◌∙◌, subst}
use mathlib.Core.List.{List, [], ◌∷◌, ◌++◌, map}
use native.Mathlib.Omega.{arith}
use lib.ListN.{length, get_or, take, length-append, length-map}
use lib.Seq.{take-suc, take_all}
use Rattle.laws.specs.Counted.{sum_of, join_of}
use Rattle.laws.specs.Lists.{place_in}
use Rattle.laws.proofs.Members.{sum_ext}
use Rattle.words.specs.Words.{bytes_of}
use Rattle.words.proofs.Words.{length-bytes}
use Rattle.image.specs.Sections.{Sections, node_words, text_entry_words, definition_words, node_size, child_size, text_entry_size, definition_size, node_count, child_count, named_count, definition_count, item_count, node_word, definition_word}
use Rattle.image.proofs.Widths.{size-words, nodes-fewer}
use Rattle.image.specs.Encoding.{section_out}
use Rattle.records.specs.Records.{number_of_children, number_of_named, payload_length_of}
use Rattle.records.proofs.PassedRules.{used_up_lem}
use Rattle.tree.proofs.Numbers.{get_below, place_of_get}
use Rattle.draft.specs.Source.{draft_of}
use Rattle.draft.specs.Draft.{tables_rule, reach_rule}
use Rattle.draft.specs.Numbering.{numbering, old_of}
use Rattle.draft.proofs.Rules.{tables, items_all}
use Rattle.draft.proofs.ReachedNodes.{Numbered}
use Rattle.draft_image.specs.Strings.{node_texts, uses, by_path, path_of, distinct, stored_texts, offset_of}
use Rattle.draft_image.specs.Written.{index_out, written_with, written}
use Rattle.draft_image.specs.Ready.{NewsAt, OffsetsAt, node_uses, named_uses, definition_uses, text_uses}
use Rattle.draft_image.proofs.Joins.{join_length, join_same}
use Rattle.draft_image.proofs.Offsets.{offsets-left, offsets-right}
use Rattle.write_text_uses.specs.Uses.{stored_bytes}
use Rattle.draft.specs.declared.layout.Layout.{Layout}
use Rattle.write_tree_sections.specs.Held.{OrderFits, NamedFit, children_in_order, named_in_order, payload_in_order}
use Rattle.write_paths.specs.PathIndex.{IndexFit, PathsAt, LengthsAt}
use Rattle.words.specs.Output.{over}
use Rattle.write_text_uses.proofs.Sums.{sum_ordered}
use Rattle.write_text_uses.proofs.Bounds.{uses-bound, named-exact}
use Rattle.write_tree_sections.specs.Summed.{texts_at, used_by, NodesFit}
use Rattle.write_tree_sections.proofs.FieldWords.{texts_at_lem}
use Rattle.write_tree_sections.specs.Put.{NodesPut, ChildrenPut, NamedPut}
use Rattle.write_list_sections.specs.Put.{DefinitionsPut, ItemsPut, PayloadPut}
use Rattle.write_list_sections.specs.Entered.{texts_before, items_before_in, payload_words, PayloadFits}
use Rattle.write_list_sections.proofs.DefinitionWords.{uses_are}
use Rattle.write_list_sections.proofs.PayloadLoop.{pay_room}
use Rattle.write_text_keys.specs.Keys.{key_in}
use Rattle.write_interning.specs.Uses.{texts_of, stored_of, texts_joined, Offsets}
use Rattle.write_image.specs.Length.{image_length}
use Rattle.write_image.specs.Given.{DraftPlanned, Indexed, Keyed, TreeReady, ListsReady, TextsReady, tree_out, lists_out, texts_out, definitions_at}
use Rattle.write_image.proofs.SectionLengths.{Sized, sized, once}

-- the first of a list's texts, one by one
taken : (n : ℕ) (xs : List (List ℕ)) → n ≤ length xs → join_of n (λ k. get_or xs k [] ∷ []) ≡ take n xs
unfolding join_of
taken zero xs h = refl
taken (suc n) xs h = ap (λ (l : List (List ℕ)). l ++ (get_or xs n [] ∷ [])) (taken n xs (omega arith)) ∙ sym (take-suc xs n [] (omega arith))

-- ---- the bytes of each section

pub record Measured (s : Sections) : Type 0 where
  pub nodes : length (section_out (written s) 0) ≡ node_count s * node_size s.version
  pub children : length (section_out (written s) 1) ≡ child_count s * child_size
  pub named : length (section_out (written s) 2) ≡ named_count s * text_entry_size
  pub definitions : length (section_out (written s) 3) ≡ definition_count s * definition_size
  pub items : length (section_out (written s) 4) ≡ item_count s * text_entry_size
  pub index : length (section_out (written s) 5) ≡ length (by_path s (numbering s)) * text_entry_size
  pub payload : length (section_out (written s) 6) ≡ length s.payload
  pub strings : length (section_out (written s) 7) ≡ length (stored_bytes s)

by_sizes : (s : Sections) → Sized s (written s) → Measured s
unfolding section_out
by_sizes s z =
    let v = written s in
    record {
      nodes = omega (arith, length-bytes v.nodes, z.nodes, size-words (node_count s) s.version);
      children = omega (arith, length-bytes v.children, z.children);
      named = omega (arith, length-bytes v.named, z.named);
      definitions = omega (arith, length-bytes v.definitions, z.definitions);
      items = omega (arith, length-bytes v.items, z.items);
      index = omega (arith, length-bytes v.index, z.index);
      payload = z.payload;
      strings = ap length z.strings;
    }

-- ---- how many texts are used

pub uses-length : (s : Sections) (order : List ℕ) → length (uses s order) ≡ length (text_uses s order) + length (by_path s order)
unfolding uses
uses-length s order =
    length-append (text_uses s order) (map (path_of s order) (by_path s order))
    ∙ ap (λ (m : ℕ). length (text_uses s order) + m) (length-map (by_path s order) (path_of s order))

-- fewer than the image has bytes
pub uses-fewer : (s : Sections) → tables_rule s ≡ 0 → reach_rule s ≡ 0 → length (uses s (numbering s)) ≤ image_length s
uses-fewer s p q =
    omega (arith, uses-bound s (numbering s) p (once s p q), uses-length s (numbering s), nodes-fewer (node_count s) s.version)

module _ (s : Sections) (w : List ℕ) (l : Layout) (t : DraftPlanned s w l) where
  abbrev order : List ℕ
  order = numbering s

  abbrev kept : List (List ℕ)
  kept = stored_texts s (numbering s)

  pub measured : Measured s
  measured = by_sizes s (sized s t.tables t.reach)

  -- the three runs of sections
  pub tree-length : length (tree_out s) ≡ node_count s * node_size s.version + child_count s * child_size + named_count s * text_entry_size
  tree-length =
      let m = measured in
      let sec = section_out (written s) in
      omega (arith, m.nodes, m.children, m.named, length-append (sec 0 ++ sec 1) (sec 2), length-append (sec 0) (sec 1))

  pub lists_length : length (lists_out s) ≡ definition_count s * definition_size + item_count s * text_entry_size + length (by_path s order) * text_entry_size
  lists_length =
      let m = measured in
      let sec = section_out (written s) in
      omega (arith, m.definitions, m.items, m.index, length-append (sec 3 ++ sec 4) (sec 5), length-append (sec 3) (sec 4))

  pub texts-length : length (texts_out s) ≡ length s.payload + length (stored_bytes s)
  texts-length =
      let m = measured in
      let sec = section_out (written s) in
      omega (arith, m.payload, m.strings, length-append (sec 6) (sec 7))

  -- ---- numbers

  pub numbers-once : Numbered (node_count s) order
  numbers-once = once s t.tables t.reach

  pub place-back : (j : ℕ) → j < node_count s → place_in order (old_of order j) ≡ j
  place-back j h = place_of_get numbers-once j h

  pub old_inside : (j : ℕ) → j < node_count s → old_of order j < node_count s
  old_inside j h = get_below numbers-once j h

  pub word-inside : (j : ℕ) → j < node_count s → get_or w (l.order + j) 0 < node_count s
  word-inside j h = omega (arith, t.olds j h, old_inside j h)

  sum_words : (b : ℕ → ℕ) → sum_of (node_count s) (λ m. b (get_or w (l.order + m) 0)) ≡ sum_of (node_count s) b
  sum_words b =
      sum_ext (node_count s) (λ m. b (get_or w (l.order + m) 0)) (λ m. b (old_of order m)) (λ m h. ap b (t.olds m h))
      ∙ sum_ordered (node_count s) order numbers-once b

  -- ---- offsets of texts, run by run

  text-offsets : OffsetsAt kept (text_uses s order) w l.offsets
  unfolding uses
  text-offsets = offsets-left kept w l.offsets (text_uses s order) (map (path_of s order) (by_path s order)) t.offsets

  front-offsets : OffsetsAt kept (node_uses s order ++ named_uses s order) w l.offsets
  front-offsets = offsets-left kept w l.offsets (node_uses s order ++ named_uses s order) (definition_uses s) text-offsets

  pub node-offsets : OffsetsAt kept (node_uses s order) w l.offsets
  node-offsets = offsets-left kept w l.offsets (node_uses s order) (named_uses s order) front-offsets

  pub named-offsets : OffsetsAt kept (named_uses s order) w (l.offsets + length (node_uses s order))
  named-offsets = offsets-right kept w l.offsets (node_uses s order) (named_uses s order) front-offsets

  pub definition-offsets : OffsetsAt kept (definition_uses s) w (definitions_at s l)
  definition-offsets =
      let e : l.offsets + length (node_uses s order ++ named_uses s order) ≡ definitions_at s l = omega (arith, length-append (node_uses s order) (named_uses s order)) in
      subst (OffsetsAt kept (definition_uses s) w) e (offsets-right kept w l.offsets (node_uses s order ++ named_uses s order) (definition_uses s) text-offsets)

  pub path-offsets : OffsetsAt kept (map (path_of s order) (by_path s order)) w (l.offsets + l.texts)
  unfolding uses
  path-offsets = rw t.texts (offsets-right kept w l.offsets (text_uses s order) (map (path_of s order) (by_path s order)) t.offsets)

  -- ---- how many texts there are

  pub text-uses-length : length (text_uses s order) ≡ length (node_uses s order) + length (named_uses s order) + length (definition_uses s)
  text-uses-length =
      omega (
        arith,
        length-append (node_uses s order ++ named_uses s order) (definition_uses s),
        length-append (node_uses s order) (named_uses s order),
      )

  -- there is an offset for each
  pub texts_end : l.offsets + length (node_uses s order) + length (named_uses s order) + length (definition_uses s) + length (by_path s order) ≤ length w
  texts_end = omega (arith, t.offsets_end, uses-length s order, text-uses-length)

  -- one a named entry
  pub named-length : length (named_uses s order) ≡ named_count s
  named-length = named-exact s (tables s t.tables) order numbers-once

-- ---- what the writers of the first sections ask

module _ (version : ℕ) (nodes children named definitions items payload strings w : List ℕ) (l : Layout) where
  abbrev s : Sections
  s = draft_of version nodes children named definitions items payload strings

  module _ (t : DraftPlanned s w l) where
    pub children_sum : children_in_order version nodes w l.order (length nodes / node_words version) ≡ length children
    unfolding number_of_children node_word
    children_sum = sum_words s w l t (number_of_children s) ∙ (used_up_lem s (tables s t.tables).used).children

    pub named_sum : named_in_order version nodes w l.order (length nodes / node_words version) ≡ named_count s
    unfolding number_of_named node_word
    named_sum = sum_words s w l t (number_of_named s) ∙ (used_up_lem s (tables s t.tables).used).named

    pub payload_sum : payload_in_order version nodes w l.order (length nodes / node_words version) ≡ length payload
    unfolding payload_length_of node_word
    payload_sum = sum_words s w l t (payload_length_of s) ∙ (used_up_lem s (tables s t.tables).used).payload

    -- the texts of the nodes
    pub texts_sum : used_by version nodes w l.order payload (length nodes / node_words version) ≡ length (node_uses s (numbering s))
    texts_sum =
        sum_ext (node_count s) (λ m. texts_at version nodes payload (get_or w (l.order + m) 0)) (λ m. length (node_texts s (old_of (numbering s) m)))
        (λ m h. ap (texts_at version nodes payload) (t.olds m h) ∙ texts_at_lem s (old_of (numbering s) m) ((tables s t.tables).fields _ (old_inside s w l t m h)))
        ∙ sym (join_length (node_count s) (λ m. node_texts s (old_of (numbering s) m)))

    pub order-fits : OrderFits version nodes w l
    order-fits = record { olds = word-inside s w l t; order_end = t.order_end; new_start = t.new_start }

    pub nodes_fit : NodesFit version nodes payload w l
    nodes_fit =
        record {
          order = order-fits;
          children = omega (arith, children_sum, t.long);
          named = omega (arith, named_sum, t.long);
          bytes = omega (arith, payload_sum, t.long);
          texts = omega (arith, texts_sum, t.offsets_end, uses-length s (numbering s), text-uses-length s w l t);
        }

    pub named_fit : (text : ℕ) → text ≡ l.offsets + length (node_uses s (numbering s)) → NamedFit version nodes w l text
    named_fit text e =
        record {
          order = record { olds = word-inside s w l t; order_end = t.order_end; new_start = t.new_start };
          texts = omega (arith, named_sum, named-length s w l t, t.offsets_end, uses-length s (numbering s), text-uses-length s w l t);
        }

    -- ---- definitions, items, index

    pub definitions-texts : definitions_at s l + texts_before definitions (length definitions / definition_words) ≤ length w
    definitions-texts = omega (arith, uses_are s, t.offsets_end, uses-length s (numbering s), text-uses-length s w l t)

    pub items_sum : items_before_in definitions (length definitions / definition_words) ≡ item_count s
    unfolding items_before_in definition_word
    items_sum = items_all s (tables s t.tables)

    pub index_fit : (count : ℕ) → Indexed s w l count → IndexFit w l count
    index_fit count i =
        record {
          nodes = i.boxes_end;
          offsets = omega (arith, t.offsets_end, t.texts, uses-length s (numbering s), i.all);
          lengths = i.lengths-start;
          new = t.new_start;
        }

    -- ---- payload and strings

    pub payload-fits : PayloadFits version nodes payload w l.order l.offsets
    payload-fits = record { olds = word-inside s w l t; order_end = t.order_end; texts = nodes_fit.texts }

    pub payload-room : 4 * length (join_of (length nodes / node_words version) (payload_words version nodes payload w l.order l.offsets)) ≡ length payload
    payload-room =
        pay_room s version nodes payload w l.order l.offsets (numbering s) (stored_texts s (numbering s)) payload-fits refl refl refl t.tables t.olds
        (node-offsets s w l t)
        ∙ (unfold written written_with section_out in (measured s w l t).payload)

    pub uses-small : length (uses s (numbering s)) < 2 ^ 32
    uses-small = omega (arith, uses-fewer s t.tables t.reach, t.long)

    module _ (q : Keyed s w l) where
      abbrev key : ℕ → List ℕ
      key = key_in version nodes strings l w

      texts_are : texts_of key l.offsets ≡ uses s (numbering s)
      texts_are =
          join_same l.offsets (λ a. key a ∷ []) (λ a. get_or (uses s (numbering s)) a [] ∷ []) (λ a h. ap (λ (x : List ℕ). x ∷ []) (q.keys a h))
          ∙ taken l.offsets (uses s (numbering s)) (omega (arith, q.all))
          ∙ take_all l.offsets (uses s (numbering s)) (omega (arith, q.all))

      pub stored_are : stored_of key l.offsets ≡ stored_texts s (numbering s)
      unfolding stored_of stored_texts
      stored_are = ap (distinct []) texts_are

      pub key_offsets : Offsets key l.offsets w
      key_offsets a h =
          t.offsets a (omega (arith, q.all)) ∙ sym (λ i. offset_of (stored_are i) (q.keys a h i))

-- ---- what a section's writer gives, of a draft of which all is known

module _ (version : ℕ) (nodes children named definitions items payload strings w : List ℕ) (l : Layout) (out₀ out : List ℕ) (t : DraftPlanned (draft_of version nodes children named definitions items payload strings) w l) where
  abbrev d : Sections
  d = draft_of version nodes children named definitions items payload strings

  abbrev sec : ℕ → List ℕ
  sec = section_out (written d)

  pub nodes_put : (text : ℕ) → NodesPut version nodes payload w l out₀ out text
      → (out ≡ over (sec 0) out₀) × (text ≡ l.offsets + length (node_uses d (numbering d)))
  unfolding section_out written written_with
  nodes_put text e =
      e d (numbering d) (stored_texts d (numbering d)) refl refl refl t.tables t.shape (place-back d w l t) t.olds t.news (node-offsets d w l t)

  pub children_put : ChildrenPut version nodes children w l out₀ out → out ≡ over (sec 1) out₀
  unfolding section_out written written_with
  children_put e = e d (numbering d) (stored_texts d (numbering d)) refl refl refl t.tables t.olds t.news

  pub named_put : (text : ℕ) → text ≡ l.offsets + length (node_uses d (numbering d))
      → NamedPut version nodes named w l text out₀ out → out ≡ over (sec 2) out₀
  unfolding section_out written written_with
  named_put text q e =
      e d (numbering d) (stored_texts d (numbering d)) refl refl refl t.tables t.olds t.news
      (subst (OffsetsAt (stored_texts d (numbering d)) (named_uses d (numbering d)) w) (sym q) (named-offsets d w l t))

  pub definitions_put : (text : ℕ) → text ≡ definitions_at d l → DefinitionsPut definitions w text out₀ out → out ≡ over (sec 3) out₀
  unfolding section_out written written_with
  definitions_put text q e =
      e d (numbering d) (stored_texts d (numbering d)) refl t.tables
      (subst (OffsetsAt (stored_texts d (numbering d)) (definition_uses d) w) (sym q) (definition-offsets d w l t))

  pub items_put : (text : ℕ) → text ≡ definitions_at d l → ItemsPut definitions items w text out₀ out → out ≡ over (sec 4) out₀
  unfolding section_out written written_with
  items_put text q e =
      e d (numbering d) (stored_texts d (numbering d)) refl refl t.tables
      (subst (OffsetsAt (stored_texts d (numbering d)) (definition_uses d) w) (sym q) (definition-offsets d w l t))

  pub index_put : (count : ℕ) → Indexed d w l count
      → ((s : Sections) (order : List ℕ) (kept : List (List ℕ)) → count ≡ length (by_path s order) → ((j : ℕ) → j < node_count s → old_of order j < node_count s)
      → ((j : ℕ) → j < node_count s → place_in order (old_of order j) ≡ j) → NewsAt order w (node_count s) l.new → PathsAt s order w (l.at + l.paths)
      → LengthsAt s order w (l.at + l.lengths) → OffsetsAt kept (map (path_of s order) (by_path s order)) w (l.offsets + l.texts)
      → out ≡ over (bytes_of (join_of (length (by_path s order)) (λ k. index_out s order kept (get_or (by_path s order) k 0)))) out₀)
      → out ≡ over (sec 5) out₀
  unfolding section_out written written_with
  index_put count i e =
      e d (numbering d) (stored_texts d (numbering d)) i.all (old_inside d w l t) (place-back d w l t) t.news i.boxes i.lengths
      (path-offsets d w l t)

  pub payload_put : PayloadPut version nodes payload w l.order l.offsets out₀ out → out ≡ over (sec 6) out₀
  unfolding section_out written written_with
  payload_put e = e d (numbering d) (stored_texts d (numbering d)) refl refl refl t.tables t.olds (node-offsets d w l t)

  pub strings_put : Keyed d w l → out ≡ over (texts_joined (stored_of (key_in version nodes strings l w) l.offsets)) out₀ → out ≡ over (sec 7) out₀
  unfolding section_out written written_with
  strings_put q e = e ∙ ap (λ (kept : List (List ℕ)). over (texts_joined kept) out₀) (stored_are version nodes children named definitions items payload strings w l t q)

-- ---- the room of three runs of sections, by the draft's counts

pub tree-room : (version : ℕ) (nodes children named payload w : List ℕ) (l : Layout) (room : ℕ) → TreeReady version nodes children named payload w l room
    → length nodes / node_words version * node_size version + length children * child_size + length named / text_entry_words * text_entry_size ≤ room
tree-room version nodes children named payload w l room r =
    omega (arith, r.fits, tree-length (draft_of version nodes children named r.definitions r.items payload r.strings) w l r.told)

pub lists-room : (definitions items w : List ℕ) (l : Layout) (text count room : ℕ) → ListsReady definitions items w l text count room
    → length definitions / definition_words * definition_size + length items / text_entry_words * text_entry_size + count * text_entry_size ≤ room
lists-room definitions items w l text count room r =
    omega (arith, r.fits, r.indexed.all, lists_length (draft_of r.version r.nodes r.children r.named definitions items r.payload r.strings) w l r.told)

pub texts-room : (version : ℕ) (nodes payload strings w : List ℕ) (l : Layout) (room : ℕ) (r : TextsReady version nodes payload strings w l room)
    → length payload + length (stored_bytes (draft_of version nodes r.children r.named r.definitions r.items payload strings)) ≤ room
texts-room version nodes payload strings w l room r =
    omega (arith, r.fits, texts-length (draft_of version nodes r.children r.named r.definitions r.items payload strings) w l r.told)

-- of whatever draft has this payload and these texts
pub texts_fit : (version : ℕ) (nodes payload strings w : List ℕ) (l : Layout) (room : ℕ) → TextsReady version nodes payload strings w l room
    → (children named definitions items : List ℕ) (t : DraftPlanned (draft_of version nodes children named definitions items payload strings) w l)
    → Keyed (draft_of version nodes children named definitions items payload strings) w l
    → length payload + length (stored_bytes (draft_of version nodes children named definitions items payload strings)) ≤ room
texts_fit version nodes payload strings w l room r children named definitions items t q =
    let one = stored_are version nodes r.children r.named r.definitions r.items payload strings w l r.told r.keyed in
    let two = stored_are version nodes children named definitions items payload strings w l t q in
    let same : length (stored_bytes (draft_of version nodes children named definitions items payload strings))
    ≡ length (stored_bytes (draft_of version nodes r.children r.named r.definitions r.items payload strings)) =
    ap (λ (kept : List (List ℕ)). length (texts_joined kept)) (sym two ∙ one) in
    omega (arith, texts-room version nodes payload strings w l room r)
