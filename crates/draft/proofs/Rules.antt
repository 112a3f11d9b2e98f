-- What the rules 19 and 21 say of a draft that breaks none of them, one fact at a time.
use Prim.Native.Nat.{ℕ, zero, ◌+◌, ◌*◌, ◌%◌, ◌/◌, ◌≤◌, ◌<◌}
use mathlib.Core.Path.{◌≡◌, refl, sym, ap, ◌∙◌}
use native.Mathlib.Nat.{add-zero, div-add-mod'}
use mathlib.Core.Bool.{true, ◌&&◌, ◌||◌}
use native.Mathlib.Omega.{arith}
use lib.ListN.{length}
use lib.Dec.{eqb, leb}
use borrow.Author.Tests.{eqb-true, eqb-false, leb-true, ne_eqb, not-true}
use Rattle.laws.specs.Refusal.{unless, counts_as, ◌▸◌, first_of}
use Rattle.laws.proofs.First.{both, passed, as_zero, first_all}
use Rattle.laws.proofs.Flags.{both_true}
use Rattle.laws.proofs.Members.{All}
use Rattle.texts.specs.Text.{rising}
use Rattle.image.specs.Sections.{Sections, node_words, text_entry_words, definition_words, node_count, child_count, named_count, definition_count, item_count, parent_of, f, child_word, named_word, good_text, inside, is_container}
use Rattle.image.specs.Refusals.{bad_draft}
use Rattle.records.specs.Records.{number_of_children, number_of_named, fields_rule, parent_rule, root_right, used_up}
use Rattle.records.proofs.PassedRules.{Node, node_of_lem, ranges as fields-ranges}
use Rattle.tree.specs.Tree.{child_at, named_at, entry_nodes, entries_rule}
use Rattle.tree.specs.Parts.{EntriesOwned, Fit}
use Rattle.tree.proofs.Entries.{entry-each, child-container, named-container, counts}
use Rattle.definitions.specs.Definitions.{good_definition, good_item, first_item, number_of_items, items_before, items_right, items_used_up, definition_text, item_text_of}
use Rattle.draft.specs.Draft.{whole_entries, draft_node_rule, draft_child_rule, draft_named_rule, draft_definition_rule, draft_item_rule, entry_tables_rule, tables_rule, relation_rule, order_rule, shape_rule}

-- ---- 19

-- each section is whole entries
pub record Entries (s : Sections) : Type 0 where
  pub nodes : length s.nodes ≡ node_count s * node_words s.version
  pub named : length s.named ≡ named_count s * text_entry_words
  pub definitions : length s.definitions ≡ definition_count s * definition_words
  pub items : length s.items ≡ item_count s * text_entry_words

-- the texts and numbers that a draft's tables hold, by a rule of each node's fields which for containers is the record rule
pub record TablesBy (s : Sections) (rule : ℕ → ℕ) : Type 0 where
  pub some : zero < node_count s
  pub fields : (i : ℕ) → i < node_count s → rule i ≡ 0
  pub containers : (i : ℕ) → i < node_count s → is_container s i ≡ true → fields_rule s i ≡ 0
  pub parents : (i : ℕ) → i < node_count s → 0 < i → inside s (parent_of s i) ≡ true
  pub used : used_up s ≡ true
  pub children : (j : ℕ) → j < child_count s → inside s (child_word s j) ≡ true
  pub named-texts : (j : ℕ) → j < named_count s → good_text s (named_word s j 0) (named_word s j 1) ≡ true
  pub named-nodes : (j : ℕ) → j < named_count s → inside s (named_word s j 2) ≡ true
  pub definitions : (d : ℕ) → d < definition_count s → (good_definition s d ≡ true) × (items_right s d ≡ true)
  pub items-used : items_used_up s ≡ true
  pub items : (j : ℕ) → j < item_count s → good_item s j ≡ true

-- by the record rules
abbrev pub Tables : Sections → Type 0
Tables s = TablesBy s (fields_rule s)

-- the sections are whole, and there is a node
pub record Checked (s : Sections) : Type 0 where
  pub nodes : length s.nodes % node_words s.version ≡ 0
  pub named : length s.named % text_entry_words ≡ 0
  pub definitions : length s.definitions % definition_words ≡ 0
  pub items : length s.items % text_entry_words ≡ 0
  pub some : zero < node_count s

pub checked : (s : Sections) → whole_entries s ≡ true → Checked s
unfolding whole_entries
checked s h =
    let e = both_true (eqb (length s.nodes % node_words s.version) 0 && eqb (length s.named % text_entry_words) 0 && eqb (length s.definitions % definition_words) 0 && eqb (length s.items % text_entry_words) 0) _ h in
    let d = both_true (eqb (length s.nodes % node_words s.version) 0 && eqb (length s.named % text_entry_words) 0 && eqb (length s.definitions % definition_words) 0) _ e.0 in
    let c = both_true (eqb (length s.nodes % node_words s.version) 0 && eqb (length s.named % text_entry_words) 0) _ d.0 in
    let b = both_true (eqb (length s.nodes % node_words s.version) 0) _ c.0 in
    record {
      nodes = eqb-true _ _ b.0;
      named = eqb-true _ _ b.1;
      definitions = eqb-true _ _ c.1;
      items = eqb-true _ _ d.1;
      some = positive (node_count s) (eqb-false (node_count s) 0 (not-true (eqb (node_count s) 0) e.1));
    }
  where
    positive : (n : ℕ) → (n ≡ 0 → ⊥) → zero < n
    positive n d = omega arith

whole-nodes : (n w : ℕ) → n % w ≡ 0 → n ≡ n / w * w
whole-nodes n w e = sym (div-add-mod' n w) ∙ ap (λ (x : ℕ). n / w * w + x) e ∙ add-zero (n / w * w)

-- row 19 by a rule of the nodes' fields
abbrev pub tables_rule_by : Sections → (ℕ → ℕ) → ℕ
tables_rule_by s rule =
    unless (whole_entries s) bad_draft
    ▸ first_of (node_count s) (λ i. counts_as bad_draft (rule i) ▸ unless (eqb i 0 || inside s (parent_of s i)) bad_draft)
    ▸ entry_tables_rule s

module _ (s : Sections) (rule : ℕ → ℕ) (p : tables_rule_by s rule ≡ 0) where
  pub tables_by : ((i : ℕ) → is_container s i ≡ true → rule i ≡ fields_rule s i) → TablesBy s rule
  unfolding draft_child_rule draft_named_rule draft_definition_rule draft_item_rule
  tables_by same =
      -- whole entries, nodes, leftovers, children, named, definitions, items used up, items
      let t0 = both _ _ p in
      let t1 = both _ _ t0.1 in
      let t2 = both _ _ t1.1 in
      let t3 = both _ _ t2.1 in
      let t4 = both _ _ t3.1 in
      let t5 = both _ _ t4.1 in
      let t6 = both _ _ t5.1 in
      record {
        some = (checked s (passed _ 18 t0.0)).some;
        fields = λ i h. as_zero 18 _ (both _ _ (first_all _ _ t1.0 i h)).0;
        containers = λ i h c. sym (same i c) ∙ as_zero 18 _ (both _ _ (first_all _ _ t1.0 i h)).0;
        parents = λ i h k. below_root i k (passed _ 18 (both _ _ (first_all _ _ t1.0 i h)).1);
        used = passed _ 18 t2.0;
        children = λ j h. passed _ 18 (first_all _ _ t3.0 j h);
        named-texts = λ j h. passed _ 18 (both _ _ (first_all _ _ t4.0 j h)).0;
        named-nodes = λ j h. passed _ 18 (both _ _ (first_all _ _ t4.0 j h)).1;
        definitions = λ d h. let q = both _ _ (first_all _ _ t5.0 d h) in (passed _ 18 q.0, passed _ 18 q.1);
        items-used = passed _ 18 t6.0;
        items = λ j h. passed _ 18 (first_all _ _ t6.1 j h);
      }
    where
      below_root : (i : ℕ) → 0 < i → (eqb i 0 || inside s (parent_of s i)) ≡ true → inside s (parent_of s i) ≡ true
      below_root i k q = rw (ne_eqb i 0 (λ e. omega arith)) at q

  pub whole_by : Entries s
  whole_by =
      let c = checked s (passed _ 18 (both _ _ p).0) in
      record {
        nodes = whole-nodes (length s.nodes) (node_words s.version) c.nodes;
        named = omega (arith, c.named);
        definitions = omega (arith, c.definitions);
        items = omega (arith, c.items);
      }

module _ (s : Sections) (p : tables_rule s ≡ 0) where
  pub tables : Tables s
  unfolding tables_rule draft_node_rule
  tables = tables_by s (fields_rule s) p (λ i c. refl)

  pub whole : Entries s
  unfolding tables_rule draft_node_rule
  whole = whole_by s (fields_rule s) p

-- ---- what the tables give

module _ (s : Sections) {rule : ℕ → ℕ} (t : TablesBy s rule) where
  pub entries-counts : EntriesOwned s
  entries-counts = counts s t.some t.used

  pub tables_fit : Fit s
  tables_fit =
      record {
        counts = entries-counts;
        ranges = λ i h c. let all = fields-ranges s i c (t.containers i h c) in record { children = all.children_end; named = all.named_end };
      }

  pub parent-node : (i : ℕ) → i < node_count s → 0 < i → Node s (parent_of s i)
  parent-node i h k = node_of_lem s (parent_of s i) (t.parents i h k)

  pub child-node : (j : ℕ) → j < child_count s → Node s (child_word s j)
  child-node j h = node_of_lem s (child_word s j) (t.children j h)

  pub named-node : (j : ℕ) → j < named_count s → Node s (named_word s j 2)
  named-node j h = node_of_lem s (named_word s j 2) (t.named-nodes j h)

  -- ---- the entries of container i

  module _ (i : ℕ) (h : i < node_count s) where
    pub child_in : (j : ℕ) → j < number_of_children s i → f s i 3 + j < child_count s
    unfolding number_of_children
    child_in j k = go (child-container s i j k) k
      where
        go : is_container s i ≡ true → j < number_of_children s i → f s i 3 + j < child_count s
        go c q = let l : j < f s i 4 = rw c at q in omega (arith, (tables_fit.ranges i h c).children)

    pub named_in : (j : ℕ) → j < number_of_named s i → f s i 5 + j < named_count s
    unfolding number_of_named
    named_in j k = go (named-container s i j k) k
      where
        go : is_container s i ≡ true → j < number_of_named s i → f s i 5 + j < named_count s
        go c q = let l : j < f s i 6 = rw c at q in omega (arith, (tables_fit.ranges i h c).named)

    pub child_at_lem : (j : ℕ) → j < number_of_children s i → Node s (child_at s i j)
    child_at_lem j k = child-node (f s i 3 + j) (child_in j k)

    pub named-text_at : (j : ℕ) → j < number_of_named s i → good_text s (named_at s i j 0) (named_at s i j 1) ≡ true
    named-text_at j k = t.named-texts (f s i 5 + j) (named_in j k)

    pub named_at_lem : (j : ℕ) → j < number_of_named s i → Node s (named_at s i j 2)
    named_at_lem j k = named-node (f s i 5 + j) (named_in j k)

    pub entries_below : All (λ x. x < node_count s) (entry_nodes s i)
    entries_below = entry-each s i (λ x. x < node_count s) (λ j k. (child_at_lem j k).below) (λ j k. (named_at_lem j k).below)

  -- ---- the items of definition d

  module _ (d : ℕ) (h : d < definition_count s) where
    pub items-start : first_item s d ≡ items_before s d
    items-start = eqb-true _ _ (both_true (leb (first_item s d + number_of_items s d) (item_count s)) _ (t.definitions d h).1).1

    pub items_end : first_item s d + number_of_items s d ≤ item_count s
    items_end = leb-true _ _ (both_true (leb (first_item s d + number_of_items s d) (item_count s)) _ (t.definitions d h).1).0

    pub item-good : (j : ℕ) → j < number_of_items s d → good_item s (first_item s d + j) ≡ true
    item-good j k = t.items (first_item s d + j) (omega (arith, items_end))

  pub items_all : items_before s (definition_count s) ≡ item_count s
  unfolding items_used_up
  items_all = eqb-true _ _ t.items-used

-- ---- 21

pub record Shape (s : Sections) : Type 0 where
  pub root : root_right s ≡ true
  pub parents : (i : ℕ) → i < node_count s → parent_rule s i ≡ 0
  pub entries : (i : ℕ) → i < node_count s → entries_rule s i ≡ 0
  pub rising-definitions : (d : ℕ) → d < definition_count s → rising (definition_text s) d ≡ true
  pub rising-items : (d : ℕ) → d < definition_count s → (j : ℕ) → j < number_of_items s d → rising (item_text_of s d) j ≡ true

pub shape : (s : Sections) → shape_rule s ≡ 0 → Shape s
unfolding shape_rule relation_rule order_rule
shape s p =
    let rest = both _ _ (both _ _ p).1 in
    record {
      root = passed _ 20 (both _ _ p).0;
      parents = λ i h. as_zero 20 _ (both _ _ (first_all _ _ rest.0 i h)).0;
      entries = λ i h. as_zero 20 _ (both _ _ (first_all _ _ rest.0 i h)).1;
      rising-definitions = λ d h. passed _ 20 (both _ _ (first_all _ _ rest.1 d h)).0;
      rising-items = λ d h j k. passed _ 20 (first_all _ _ (both _ _ (first_all _ _ rest.1 d h)).1 j k);
    }
