-- The rules of row 21 by the tests that the code makes.
use Prim.Native.Nat.{ℕ, ◌+◌, ◌*◌, ◌/◌, ◌≤◌, ◌<◌}
use mathlib.Core.Path.{◌≡◌, refl, sym, ap, ◌∙◌}
use mathlib.Core.List.{List, []}
use mathlib.Core.Bool.{Bool, true, false, cond, not, ◌&&◌}
use native.Mathlib.Omega.{arith}
use lib.ListN.{length, get_or}
use lib.Dec.{eqb}
use borrow.Author.Tests.{not-true, not-false, eq-eqb, ne_eqb}
use Rattle.laws.specs.Refusal.{unless, passes, ◌▸◌, first_of}
use Rattle.laws.specs.Counted.{all_of}
use Rattle.laws.proofs.First.{pass, fail}
use Rattle.laws.proofs.Flags.{both_true}
use Rattle.laws.proofs.Chains.{stop, go}
use Rattle.laws.proofs.Members.{all_ext}
use Rattle.texts.specs.Text.{rising}
use Rattle.image.specs.declared.NodeRecord.{NodeRecord}
use Rattle.image.specs.declared.TextEntry.{TextEntry}
use Rattle.image.specs.declared.Definition.{Definition}
use Rattle.image.specs.Sections.{Sections, node_words, text_entry_words, definition_words, inside_among, node_word, child_word, parent_of, place_of, tag_of, f, inside, is_container, inside_container, good_text, part_at}
use Rattle.image.proofs.Tests.{inside-true}
use Rattle.image.specs.Entries.{text_entry_of, definition_of, entry_text_from, definition_text_in, node_in, named_in}
use Rattle.image.proofs.Entries.{IsNode, is_node, named-entry, item-entry, definition-entry}
use Rattle.records.specs.Records.{number_of_children, number_of_named, parent_rule}
use Rattle.records.specs.Shown.{ShowsParent, tag_in}
use Rattle.tree.specs.Tree.{child_at, named_at, named_text, right_child, child_rule, named_rule, entries_rule}
use Rattle.definitions.specs.Definitions.{definition_text, item_text, item_text_of, first_item, number_of_items}
use Rattle.draft.specs.Source.{draft_of, word_of}
use Rattle.draft.specs.Draft.{relation_rule, order_rule}
use Rattle.draft.specs.Shown.{right_container, named_right, TreePassed, ListsPassed}
use Rattle.draft.proofs.Runs.{as_passes, passes-unless, passes-both, passes_all, unless-both, unless_all, rising-upto}

-- ---- a node by its words

module _ (v : ℕ) (ns : List ℕ) where
  -- sections that have nodes alone
  abbrev alone : Sections
  alone = draft_of v ns [] [] [] [] [] []

  module _ (x i j : ℕ) (b : Bool) (e : b ≡ inside_among (length ns / node_words v) x) where
    pub child-outside : not b ≡ true → false ≡ right_child alone x i j
    child-outside q = ap (λ (t : Bool). t && eqb (parent_of alone x) i && eqb (place_of alone x) j) (sym (sym e ∙ not-true b q))

    module _ (q : not b ≡ false) (p : ℕ) (k : p ≡ word_of v ns x 0) where
      parent_is : p ≡ parent_of alone x
      unfolding node_word
      parent_is = k

      by_parent : right_child alone x i j ≡ (eqb p i && eqb (place_of alone x) j)
      by_parent =
          ap (λ (t : Bool). t && eqb (parent_of alone x) i && eqb (place_of alone x) j) (sym e ∙ not-false b q)
          ∙ ap (λ (n : ℕ). eqb n i && eqb (place_of alone x) j) (sym parent_is)

      pub child_astray : (p ≡ i → ⊥) → false ≡ right_child alone x i j
      child_astray d = sym (by_parent ∙ ap (λ (t : Bool). t && eqb (place_of alone x) j) (ne_eqb p i d))

      pub child-placed : p ≡ i → (n : ℕ) → n ≡ word_of v ns x 1 → eqb n j ≡ right_child alone x i j
      unfolding node_word
      child-placed d n r = sym (by_parent ∙ ap (λ (t : Bool). t && eqb (place_of alone x) j) (eq-eqb p i d) ∙ ap (λ (m : ℕ). eqb m j) (sym r))

  module _ (n i tag : ℕ) (e : tag ≡ tag_in alone n) where
    container_is : inside_container alone n ≡ eqb tag 1
    unfolding tag_in
    container_is = by (inside alone n) e
      where
        by : (b : Bool) → tag ≡ cond b (tag_of alone n) 0 → (b && is_container alone n) ≡ eqb tag 1
        by true q = ap (λ (x : ℕ). eqb x 1) (sym q)
        by false q = ap (λ (x : ℕ). eqb x 1) (sym q)

    pub no_container_lem : (tag ≡ 1 → ⊥) → false ≡ right_container v ns n i
    no_container_lem d = sym (ap (λ (t : Bool). t && eqb (parent_of alone n) i) (container_is ∙ ne_eqb tag 1 d))

    pub its_container : tag ≡ 1 → (p : ℕ) → p ≡ word_of v ns n 0 → eqb p i ≡ right_container v ns n i
    unfolding node_word
    its_container d p k =
        sym (ap (λ (t : Bool). t && eqb (parent_of alone n) i) (container_is ∙ eq-eqb tag 1 d) ∙ ap (λ (x : ℕ). eqb x i) (sym k))

    -- a node that has a tag is one
    pub container-there : tag ≡ 1 → n < length ns / node_words v
    container-there d = (inside-true (length ns / node_words v) n (both_true (inside alone n) _ (container_is ∙ eq-eqb tag 1 d)).0).0

-- ---- a named entry

module _ (v : ℕ) (ns ms ts : List ℕ) (i first j : ℕ) (b : Bool) (e : b ≡ rising (entry_text_from ms ts first) j) where
  pub entry-falls : not b ≡ true → false ≡ named_right v ns ms ts i first j
  unfolding named_right
  entry-falls q = ap (λ (t : Bool). t && right_container v ns (text_entry_of ms (first + j)).value i) (sym (sym e ∙ not-true b q))

  pub entry-leads : not b ≡ false → (entry : TextEntry) (r : Bool) → entry ≡ text_entry_of ms (first + j) → r ≡ right_container v ns entry.value i
      → r ≡ named_right v ns ms ts i first j
  unfolding named_right
  entry-leads q entry r p k =
      k ∙ ap (λ (x : TextEntry). right_container v ns x.value i) p
      ∙ ap (λ (t : Bool). t && right_container v ns (text_entry_of ms (first + j)).value i) (sym (sym e ∙ not-false b q))

-- ---- the rules of node i

-- one that is no container has no entries
pub no_entries : (s : Sections) (i : ℕ) → (tag_of s i ≡ 1 → ⊥) → entries_rule s i ≡ 0
unfolding entries_rule number_of_children number_of_named first_of ◌▸◌
no_entries s i d =
    ap (λ (t : Bool). first_of (cond t (f s i 4) 0) (child_rule s i) ▸ first_of (cond t (f s i 6) 0) (named_rule s i)) (ne_eqb (tag_of s i) 1 d)

pub plain-entries : (v : ℕ) (ns cs ms ts : List ℕ) (i tag : ℕ) → tag ≡ word_of v ns i 2 → (tag ≡ 1 → ⊥) → entries_rule (draft_of v ns cs ms [] [] [] ts) i ≡ 0
unfolding node_word
plain-entries v ns cs ms ts i tag e d = no_entries (draft_of v ns cs ms [] [] [] ts) i (λ q. d (e ∙ q))

module _ {v : ℕ} (ns cs ms ts : List ℕ) (g : TreePassed (draft_of v ns cs ms [] [] [] ts)) (i : ℕ) (h : i < length ns / node_words v) (r : NodeRecord)
    (node : r ≡ node_in (draft_of v ns cs ms [] [] [] ts) i) where
  abbrev s : Sections
  s = draft_of v ns cs ms [] [] [] ts

  node-words : IsNode s i r
  node-words = is_node s i r node

  pub parent-told : (count tag : ℕ) → count ≡ length ns / node_words v → tag ≡ tag_in (alone v ns) r.parent
      → ShowsParent s i r count tag
  unfolding tag_in node_word
  parent-told count tag k e =
      record { node = node; count = k; parent = e ∙ ap (λ (x : NodeRecord). tag_in (alone v ns) x.parent) node }

  by_passing : relation_rule s i ≡ unless (passes (parent_rule s i) && passes (entries_rule s i)) 21
  unfolding relation_rule
  by_passing = rw (as_passes 21 (parent_rule s i), as_passes 21 (entries_rule s i)) (unless-both (passes (parent_rule s i)) (passes (entries_rule s i)) 20)

  -- ---- of a container

  module _ (t : r.tag ≡ 1) where
    container : is_container s i ≡ true
    container = eq-eqb (tag_of s i) 1 (sym node-words.tag ∙ t)

    pub children-range : r.f3 + r.f4 ≤ length cs
    children-range = omega (arith, (g.ranges i h container).children, node-words.f3, node-words.f4)

    pub named-range : (r.f5 + r.f6) * text_entry_words ≤ length ms
    named-range = omega (arith, (g.ranges i h container).named, node-words.f5, node-words.f6)

    -- the tests of ordered children, of named ones
    abbrev children-tests : Bool
    children-tests = all_of r.f4 (λ j. right_child (alone v ns) (get_or cs (r.f3 + j) 0) i j)

    abbrev named-tests : Bool
    named-tests = all_of r.f6 (named_right v ns ms ts i r.f5)

    child-test : (j : ℕ) → right_child (alone v ns) (get_or cs (r.f3 + j) 0) i j ≡ passes (child_rule s i j)
    unfolding child_rule child_word node_word
    child-test j =
        ap (λ (k : ℕ). right_child (alone v ns) (get_or cs (k + j) 0) i j) node-words.f3 ∙ sym (passes-unless (right_child s (child_at s i j) i j) 13)

    children-pass : children-tests ≡ passes (first_of (number_of_children s i) (child_rule s i))
    unfolding number_of_children
    children-pass =
        passes_all r.f4 (λ j. right_child (alone v ns) (get_or cs (r.f3 + j) 0) i j) (child_rule s i) (λ j k. child-test j)
        ∙ ap (λ (n : ℕ). passes (first_of n (child_rule s i))) node-words.f4
        ∙ ap (λ (b : Bool). passes (first_of (cond b (f s i 4) 0) (child_rule s i))) (sym container)

    -- the words of the j-th named entry
    entry_is : (j : ℕ) → text_entry_of ms (r.f5 + j) ≡ named_in s (f s i 5 + j)
    entry_is j = named-entry s ms (r.f5 + j) refl ∙ ap (λ (k : ℕ). named_in s (k + j)) node-words.f5

    good-entry : (j : ℕ) → j < r.f6 → good_text s (named_at s i j 0) (named_at s i j 1) ≡ true
    good-entry j k = g.texts (f s i 5 + j) (omega (arith, named-range, node-words.f5))

    entry-text : (j : ℕ) → j < r.f6 → entry_text_from ms ts r.f5 j ≡ named_text s i j
    unfolding entry_text_from
    entry-text j k = ap (λ (x : TextEntry). part_at ts x.offset x.len) (entry_is j)

    named-test : (j : ℕ) → j < r.f6 → named_right v ns ms ts i r.f5 j ≡ passes (named_rule s i j)
    unfolding named_right named_rule node_word
    named-test j k =
        rw (
          rising-upto (entry_text_from ms ts r.f5) (named_text s i) j (λ m l. entry-text m (omega arith)),
          entry_is j,
          passes-both (unless (good_text s (named_at s i j 0) (named_at s i j 1)) 14) (unless (rising (named_text s i) j) 14 ▸ unless (inside_container s (named_at s i j 2)) 9 ▸ unless (eqb (parent_of s (named_at s i j 2)) i) 14),
          passes-both (unless (rising (named_text s i) j) 14) (unless (inside_container s (named_at s i j 2)) 9 ▸ unless (eqb (parent_of s (named_at s i j 2)) i) 14),
          passes-both (unless (inside_container s (named_at s i j 2)) 9) (unless (eqb (parent_of s (named_at s i j 2)) i) 14),
          passes-unless (good_text s (named_at s i j 0) (named_at s i j 1)) 13,
          passes-unless (rising (named_text s i) j) 13,
          passes-unless (inside_container s (named_at s i j 2)) 8,
          passes-unless (eqb (parent_of s (named_at s i j 2)) i) 13,
          good-entry j k,
        )
        refl

    named-pass : named-tests ≡ passes (first_of (number_of_named s i) (named_rule s i))
    unfolding number_of_named
    named-pass =
        passes_all r.f6 (named_right v ns ms ts i r.f5) (named_rule s i) named-test
        ∙ ap (λ (n : ℕ). passes (first_of n (named_rule s i))) node-words.f6
        ∙ ap (λ (b : Bool). passes (first_of (cond b (f s i 6) 0) (named_rule s i))) (sym container)

  -- ---- its entries, by the answers

  pub plain-node : (r.tag ≡ 1 → ⊥) → true ≡ passes (entries_rule s i)
  plain-node d = sym (ap passes (no_entries s i (λ q. d (node-words.tag ∙ q))))

  module _ (t : r.tag ≡ 1) where
    by_tests : passes (entries_rule s i) ≡ (children-tests t && named-tests t)
    unfolding entries_rule
    by_tests =
        passes-both (first_of (number_of_children s i) (child_rule s i)) (first_of (number_of_named s i) (named_rule s i))
        ∙ ap (λ (b : Bool). b && passes (first_of (number_of_named s i) (named_rule s i))) (sym (children-pass t)) ∙ ap (λ (b : Bool). children-tests t && b) (sym (named-pass t))

    module _ (a : Bool) (p : a ≡ children-tests t) where
      pub wrong-children : not a ≡ true → false ≡ passes (entries_rule s i)
      wrong-children q = sym (by_tests ∙ ap (λ (b : Bool). b && named-tests t) (sym p ∙ not-true a q))

      pub by_named : not a ≡ false → (b : Bool) → b ≡ named-tests t → b ≡ passes (entries_rule s i)
      by_named q b k = k ∙ sym (by_tests ∙ ap (λ (x : Bool). x && named-tests t) (sym p ∙ not-false a q))

  -- ---- its rules, by the answers

  module _ (x : ℕ) (e : x ≡ parent_rule s i) where
    pub wrong-parent : (x ≡ 0 → ⊥) → 21 ≡ relation_rule s i
    wrong-parent d =
        sym (by_passing ∙ ap (λ (t : Bool). unless (t && passes (entries_rule s i)) 21) (ne_eqb (parent_rule s i) 0 (λ z. d (e ∙ z))) ∙ fail false 21 refl)

    module _ (z : x ≡ 0) (b : Bool) (k : b ≡ passes (entries_rule s i)) where
      by_entries : relation_rule s i ≡ unless b 21
      by_entries =
          by_passing ∙ ap (λ (t : Bool). unless (t && passes (entries_rule s i)) 21) (eq-eqb (parent_rule s i) 0 (sym e ∙ z)) ∙ ap (λ (t : Bool). unless t 21) (sym k)

      pub right-node : b ≡ true → 0 ≡ relation_rule s i
      right-node u = sym (by_entries ∙ pass b 21 u)

      pub wrong-entries : b ≡ false → 21 ≡ relation_rule s i
      wrong-entries u = sym (by_entries ∙ fail b 21 u)

-- ---- the order of definition d and its items

module _ (ds is ts : List ℕ) (g : ListsPassed (draft_of 0 [] [] [] ds is [] ts)) (d : ℕ) (h : d < length ds / definition_words) where
  abbrev lists : Sections
  lists = draft_of 0 [] [] [] ds is [] ts

  definition-text : (k : ℕ) → k ≤ d → definition_text_in ds ts k ≡ definition_text lists k
  unfolding definition_text_in
  definition-text k l = ap (λ (x : Definition). part_at ts x.offset x.len) (definition-entry lists ds k refl)

  module _ (a : Bool) (p : a ≡ rising (definition_text_in ds ts) d) where
    rises_is : rising (definition_text lists) d ≡ a
    rises_is = sym (p ∙ rising-upto (definition_text_in ds ts) (definition_text lists) d definition-text)

    pub definition-falls : not a ≡ true → 21 ≡ order_rule lists d
    unfolding order_rule
    definition-falls q = stop (rising (definition_text lists) d) a 21 _ refl (sym rises_is) q

    module _ (q : not a ≡ false) (entry : Definition) (r : entry ≡ definition_of ds d) where
      first_is : entry.first ≡ first_item lists d
      first_is = ap (λ (x : Definition). x.first) (r ∙ definition-entry lists ds d refl)

      count_is : entry.count ≡ number_of_items lists d
      count_is = ap (λ (x : Definition). x.count) (r ∙ definition-entry lists ds d refl)

      pub items-range : (entry.first + entry.count) * text_entry_words ≤ length is
      items-range = omega (arith, g.ranges d h, first_is, count_is)

      item-text : (j : ℕ) → j < entry.count → entry_text_from is ts entry.first j ≡ item_text_of lists d j
      unfolding entry_text_from
      item-text j k =
          ap (λ (x : TextEntry). part_at ts x.offset x.len) (item-entry lists is (entry.first + j) refl)
          ∙ ap (λ (n : ℕ). item_text lists (n + j)) first_is

      module _ (b : Bool) (k : b ≡ all_of entry.count (rising (entry_text_from is ts entry.first))) where
        items_are : first_of (number_of_items lists d) (λ j. unless (rising (item_text_of lists d) j) 21) ≡ unless b 21
        items_are =
            unless_all (number_of_items lists d) 20 (rising (item_text_of lists d))
            ∙ ap (λ (n : ℕ). unless (all_of n (rising (item_text_of lists d))) 21) (sym count_is)
            ∙ ap (λ (x : Bool). unless x 21)
            (sym (k ∙ all_ext entry.count (rising (entry_text_from is ts entry.first)) (rising (item_text_of lists d))
            (λ j l. rising-upto (entry_text_from is ts entry.first) (item_text_of lists d) j (λ m n. item-text m (omega arith)))))

        pub items-rise : b ≡ true → 0 ≡ order_rule lists d
        unfolding order_rule
        items-rise u = go (rising (definition_text lists) d) a 21 _ 0 (sym rises_is) q (sym (items_are ∙ pass b 21 u))

        pub items_fall : b ≡ false → 21 ≡ order_rule lists d
        unfolding order_rule
        items_fall u = go (rising (definition_text lists) d) a 21 _ 21 (sym rises_is) q (sym (items_are ∙ fail b 21 u))
