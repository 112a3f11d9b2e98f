-- What the code reads of an entry is what there is: out of the bytes of a section, and what a found entry tells.
use Rattle.std.specs.Prelude.{None, Option, Some}
use Prim.Native.Nat.{ℕ, ◌/◌, ◌≤◌, ◌<◌}
use mathlib.Core.Path.{◌≡◌, refl, sym, ap, ◌∙◌}
use mathlib.Core.List.{List}
use mathlib.Core.Bool.{Bool, true, false, not, cond}
use native.Mathlib.Omega.{arith}
use lib.ListN.{length, get_or}
use lib.Dec.{ltb}
use borrow.Author.Tests.{lt-ltb, le-ltb, eq-eqb, ne_eqb, not-true, not-false}
use Rattle.laws.proofs.Flags.{and-false}
use Rattle.words.specs.Words.{words_of}
use Rattle.words.proofs.Words.{length-words}
use Rattle.image.specs.declared.NodeRecord.{NodeRecord}
use Rattle.image.specs.declared.TextEntry.{TextEntry}
use Rattle.image.specs.declared.Definition.{Definition}
use Rattle.image.specs.declared.ImageView.{ImageView}
use Rattle.image.specs.Sections.{Sections, node_words, text_entry_words, node_size, child_size, text_entry_size, definition_size, node_count, child_count, named_count, definition_count, item_count, tag_of, child_word, inside, inside_among, inside_container}
use Rattle.image.specs.Header.{section_bytes, sections_by}
use Rattle.image.specs.Entries.{record_of, text_entry_of, definition_of, node_in, named_in, item_in, definition_in}
use Rattle.image.proofs.Tests.{inside-true}
use Rattle.image.proofs.Entries.{node_record, named-entry, item-entry, definition-entry}
use Rattle.image.proofs.Views.{version_by, nodes_by_lem, children_by, named_by_lem, definitions_by, items_by}
use Rattle.image.proofs.Parts.{text-entry-count, definition-count}
use Rattle.views.specs.Found.{node_found, container_found, child_found, named_found, definition_found, item_found, entry_found}

-- ---- out of the bytes of a view's section

module _ (bs : List ℕ) (v : ImageView) (part : List ℕ) where
  module _ (e : part ≡ section_bytes bs v.nodes (node_size v.version)) (i count : ℕ) (c : count ≡ length (words_of part) / node_words v.version) where
    pub count-here : count ≡ node_count (sections_by bs v)
    unfolding sections_by
    count-here = c ∙ ap (λ (x : List ℕ). length (words_of x) / node_words v.version) e

    module _ (b : Bool) (h : b ≡ inside_among count i) where
      pub inside-here : b ≡ inside (sections_by bs v) i
      inside-here = h ∙ ap (λ (n : ℕ). inside_among n i) count-here

      pub node-none : not b ≡ true → None ≡ node_found (sections_by bs v) i
      unfolding node_found
      node-none n = rw (← inside-here, not-true b n)

      pub node-read : not b ≡ false → (r : NodeRecord) → r ≡ record_of v.version (words_of part) i → Some r ≡ node_found (sections_by bs v) i
      unfolding node_found
      node-read n r q =
          rw (← inside-here, not-false b n)
          (ap Some (q ∙ node_record (sections_by bs v) v.version (words_of part) i (version_by bs v) (nodes_by_lem bs v ∙ ap words_of (sym e))))

      pub node-below : not b ≡ false → i < length (words_of part) / node_words v.version
      node-below n = (inside-true (length (words_of part) / node_words v.version) i (ap (λ (x : ℕ). inside_among x i) (sym c) ∙ sym h ∙ not-false b n)).0

  module _ (e : part ≡ section_bytes bs v.children child_size) (k : ℕ) where
    child-count : child_count (sections_by bs v) ≡ length part / child_size
    unfolding sections_by
    child-count = rw (← e) (length-words part)

    pub child-past : length part / child_size ≤ k → None ≡ child_found (sections_by bs v) k
    unfolding child_found
    child-past h = rw (child-count, le-ltb k (length part / child_size) h)

    pub child-read : k < length part / child_size → (w : ℕ) → w ≡ get_or (words_of part) k 0 → Some w ≡ child_found (sections_by bs v) k
    unfolding child_found child_word
    child-read h w q = rw (child-count, lt-ltb k (length part / child_size) h, children_by bs v, ← e, q)

  module _ (e : part ≡ section_bytes bs v.definitions definition_size) (d : ℕ) where
    pub definitions-count : definition_count (sections_by bs v) ≡ length part / definition_size
    unfolding sections_by
    definitions-count = rw (← e) (definition-count part)

    pub definition-past : length part / definition_size ≤ d → None ≡ definition_found (sections_by bs v) d
    unfolding definition_found
    definition-past h = rw (definitions-count, le-ltb d (length part / definition_size) h)

    pub definition-read : d < length part / definition_size → (r : Definition) → r ≡ definition_of (words_of part) d
        → Some r ≡ definition_found (sections_by bs v) d
    unfolding definition_found
    definition-read h r q =
        rw (definitions-count, lt-ltb d (length part / definition_size) h)
        (ap Some (q ∙ definition-entry (sections_by bs v) (words_of part) d (definitions_by bs v ∙ ap words_of (sym e))))

pub entry_past : (part : List ℕ) (k : ℕ) → length part / text_entry_size ≤ k → None ≡ entry_found part k
unfolding entry_found
entry_past part k h = rw (text-entry-count part, le-ltb k (length part / text_entry_size) h)

pub entry_read : (part : List ℕ) (k : ℕ) → k < length part / text_entry_size → (r : TextEntry) → r ≡ text_entry_of (words_of part) k → Some r ≡ entry_found part k
unfolding entry_found
entry_read part k h r q = rw (text-entry-count part, lt-ltb k (length part / text_entry_size) h, q)

module _ (bs : List ℕ) (v : ImageView) (k : ℕ) where
  pub named-read : entry_found (section_bytes bs v.named text_entry_size) k ≡ named_found (sections_by bs v) k
  unfolding entry_found named_found
  named-read =
      λ j. cond (ltb k (length (sym (named_by_lem bs v) j) / text_entry_words))
      (Some (named-entry (sections_by bs v) (words_of (section_bytes bs v.named text_entry_size)) k (named_by_lem bs v) j)) None

  pub item-read : entry_found (section_bytes bs v.items text_entry_size) k ≡ item_found (sections_by bs v) k
  unfolding entry_found item_found
  item-read =
      λ j. cond (ltb k (length (sym (items_by bs v) j) / text_entry_words))
      (Some (item-entry (sections_by bs v) (words_of (section_bytes bs v.items text_entry_size)) k (items_by bs v) j)) None

-- ---- what an answer tells of the test that it was made by

module _ {A X : Type 0} (made : X → A) (none : A) (apart : (x : X) → made x ≡ none → ⊥) (equal : (x y : X) → made x ≡ made y → x ≡ y) where
  pub missing : (b : Bool) (x : X) (r : A) → r ≡ cond b (made x) none → r ≡ none → b ≡ false
  missing true x r e h = absurd (apart x (sym e ∙ h))
  missing false x r e h = refl

  pub there : (b : Bool) (x y : X) (r : A) → r ≡ cond b (made x) none → r ≡ made y → (b ≡ true) × (y ≡ x)
  there true x y r e h = (refl, equal y x (sym h ∙ e))
  there false x y r e h = absurd (apart y (sym h ∙ e))

-- of a node
record_apart : (x : NodeRecord) → Some x ≡ None → ⊥
record_apart x h = let z : ◌≡◌ {A = ℕ} 0 1 = cc in omega arith

record_equal : (x y : NodeRecord) → Some x ≡ Some y → x ≡ y
record_equal x y h = cc

entry-apart : (x : TextEntry) → Some x ≡ None → ⊥
entry-apart x h = let z : ◌≡◌ {A = ℕ} 0 1 = cc in omega arith

entry-equal : (x y : TextEntry) → Some x ≡ Some y → x ≡ y
entry-equal x y h = cc

definition-apart : (x : Definition) → Some x ≡ None → ⊥
definition-apart x h = let z : ◌≡◌ {A = ℕ} 0 1 = cc in omega arith

definition-equal : (x y : Definition) → Some x ≡ Some y → x ≡ y
definition-equal x y h = cc

module _ (s : Sections) (i : ℕ) (r : Option NodeRecord) where
  pub no_node : r ≡ node_found s i → r ≡ None → inside s i ≡ false
  unfolding node_found
  no_node e h = missing Some None record_apart record_equal (inside s i) (node_in s i) r e h

  pub a_node : r ≡ node_found s i → (x : NodeRecord) → r ≡ Some x → (inside s i ≡ true) × (x ≡ node_in s i)
  unfolding node_found
  a_node e x h = there Some None record_apart record_equal (inside s i) (node_in s i) x r e h

  pub no_container_lem : r ≡ container_found s i → r ≡ None → inside_container s i ≡ false
  unfolding container_found
  no_container_lem e h = missing Some None record_apart record_equal (inside_container s i) (node_in s i) r e h

  pub a_container : r ≡ container_found s i → (x : NodeRecord) → r ≡ Some x → (inside_container s i ≡ true) × (x ≡ node_in s i)
  unfolding container_found
  a_container e x h = there Some None record_apart record_equal (inside_container s i) (node_in s i) x r e h

  -- a container, by the node and its tag
  pub none_contains : r ≡ node_found s i → r ≡ None → None ≡ container_found s i
  unfolding container_found
  none_contains e h = rw (no_node e h)

  pub one_contains : r ≡ node_found s i → (x : NodeRecord) → r ≡ Some x → x.tag ≡ 1 → Some x ≡ container_found s i
  unfolding container_found
  one_contains e x h t =
      rw ((a_node e x h).0, eq-eqb (tag_of s i) 1 (sym (ap (λ (y : NodeRecord). y.tag) (a_node e x h).1) ∙ t)) (ap Some (a_node e x h).1)

  pub other_contains : r ≡ node_found s i → (x : NodeRecord) → r ≡ Some x → (x.tag ≡ 1 → ⊥) → None ≡ container_found s i
  unfolding container_found
  other_contains e x h t =
      rw (ne_eqb (tag_of s i) 1 (λ q. t (ap (λ (y : NodeRecord). y.tag) (a_node e x h).1 ∙ q)), and-false (inside s i))

module _ (s : Sections) (k : ℕ) (r : Option TextEntry) where
  pub no_named : r ≡ named_found s k → r ≡ None → ltb k (named_count s) ≡ false
  unfolding named_found
  no_named e h = missing Some None entry-apart entry-equal (ltb k (named_count s)) (named_in s k) r e h

  pub a_named : r ≡ named_found s k → (x : TextEntry) → r ≡ Some x → (ltb k (named_count s) ≡ true) × (x ≡ named_in s k)
  unfolding named_found
  a_named e x h = there Some None entry-apart entry-equal (ltb k (named_count s)) (named_in s k) x r e h

  pub no_item : r ≡ item_found s k → r ≡ None → ltb k (item_count s) ≡ false
  unfolding item_found
  no_item e h = missing Some None entry-apart entry-equal (ltb k (item_count s)) (item_in s k) r e h

  pub an_item : r ≡ item_found s k → (x : TextEntry) → r ≡ Some x → (ltb k (item_count s) ≡ true) × (x ≡ item_in s k)
  unfolding item_found
  an_item e x h = there Some None entry-apart entry-equal (ltb k (item_count s)) (item_in s k) x r e h

module _ (s : Sections) (d : ℕ) (r : Option Definition) where
  pub no_definition : r ≡ definition_found s d → r ≡ None → ltb d (definition_count s) ≡ false
  unfolding definition_found
  no_definition e h = missing Some None definition-apart definition-equal (ltb d (definition_count s)) (definition_in s d) r e h

  pub a_definition : r ≡ definition_found s d → (x : Definition) → r ≡ Some x → (ltb d (definition_count s) ≡ true) × (x ≡ definition_in s d)
  unfolding definition_found
  a_definition e x h = there Some None definition-apart definition-equal (ltb d (definition_count s)) (definition_in s d) x r e h
