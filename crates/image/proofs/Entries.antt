-- What the code reads out of a section's words are the words of that entry: of a node, a named entry, a definition, an item, an index entry.
use Prim.Native.Nat.{ℕ}
use mathlib.Core.Path.{◌≡◌, ap, ◌∙◌}
use mathlib.Core.List.{List}
use native.Mathlib.Nat.{add-zero}
use Rattle.image.specs.declared.NodeRecord.{NodeRecord}
use Rattle.image.specs.Sections.{Sections, node_word, parent_of, place_of, tag_of, f, named_word, definition_word, item_word, index_word}
use Rattle.image.specs.Entries.{record_of, text_entry_of, definition_of, node_in, named_in, item_in, index_in, definition_in}

-- ---- whole entries

pub node_record : (s : Sections) (version : ℕ) (ws : List ℕ) (i : ℕ) → s.version ≡ version → s.nodes ≡ ws → record_of version ws i ≡ node_in s i
unfolding record_of node_word
node_record s version ws i e q = rw (← q, ← e, add-zero)

pub named-entry : (s : Sections) (ws : List ℕ) (j : ℕ) → s.named ≡ ws → text_entry_of ws j ≡ named_in s j
unfolding text_entry_of named_word
named-entry s ws j q = rw (← q, add-zero)

pub item-entry : (s : Sections) (ws : List ℕ) (j : ℕ) → s.items ≡ ws → text_entry_of ws j ≡ item_in s j
unfolding text_entry_of item_word
item-entry s ws j q = rw (← q, add-zero)

pub index-entry : (s : Sections) (ws : List ℕ) (j : ℕ) → s.index ≡ ws → text_entry_of ws j ≡ index_in s j
unfolding text_entry_of index_word
index-entry s ws j q = rw (← q, add-zero)

pub definition-entry : (s : Sections) (ws : List ℕ) (j : ℕ) → s.definitions ≡ ws → definition_of ws j ≡ definition_in s j
unfolding definition_of definition_word
definition-entry s ws j q = rw (← q, add-zero)

-- ---- a node word by word, as a record of facts that search and omega read

pub record IsNode (s : Sections) (i : ℕ) (r : NodeRecord) : Type 0 where
  pub parent : r.parent ≡ parent_of s i
  pub place : r.place ≡ place_of s i
  pub tag : r.tag ≡ tag_of s i
  pub f0 : r.f0 ≡ f s i 0
  pub f1 : r.f1 ≡ f s i 1
  pub f2 : r.f2 ≡ f s i 2
  pub f3 : r.f3 ≡ f s i 3
  pub f4 : r.f4 ≡ f s i 4
  pub f5 : r.f5 ≡ f s i 5
  pub f6 : r.f6 ≡ f s i 6

pub is_node : (s : Sections) (i : ℕ) (r : NodeRecord) → r ≡ node_in s i → IsNode s i r
is_node s i r e =
    record {
      parent = ap (λ (x : NodeRecord). x.parent) e;
      place = ap (λ (x : NodeRecord). x.place) e;
      tag = ap (λ (x : NodeRecord). x.tag) e;
      f0 = ap (λ (x : NodeRecord). x.f0) e;
      f1 = ap (λ (x : NodeRecord). x.f1) e;
      f2 = ap (λ (x : NodeRecord). x.f2) e;
      f3 = ap (λ (x : NodeRecord). x.f3) e;
      f4 = ap (λ (x : NodeRecord). x.f4) e;
      f5 = ap (λ (x : NodeRecord). x.f5) e;
      f6 = ap (λ (x : NodeRecord). x.f6) e;
    }

-- a record read out of the words of the nodes
pub read-node : (s : Sections) (version : ℕ) (ws : List ℕ) (i : ℕ) (r : NodeRecord) → s.version ≡ version → s.nodes ≡ ws → r ≡ record_of version ws i
    → IsNode s i r
read-node s version ws i r e q h = is_node s i r (h ∙ node_record s version ws i e q)
