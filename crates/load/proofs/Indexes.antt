-- Rows 16 and 17 of a view's sections, out of the rules of their parts, and what those ask.
use Prim.Native.Nat.{ℕ, ◌≤◌}
use mathlib.Core.Path.{◌≡◌, sym, ap, ◌∙◌}
use mathlib.Core.List.{List, []}
use native.Mathlib.Omega.{arith}
use lib.ListN.{drop}
use Rattle.laws.specs.Refusal.{◌▸◌}
use Rattle.laws.proofs.First.{second}
use Rattle.laws.proofs.Chains.{refused}
use Rattle.laws.proofs.Lists.{drop_more}
use Rattle.words.specs.Words.{words_of}
use Rattle.image.specs.declared.ImageView.{ImageView}
use Rattle.image.specs.Sections.{Sections, node_size, text_entry_size, definition_size, node_count}
use Rattle.image.specs.Header.{section_bytes, sections_by}
use Rattle.image.proofs.Views.{version_by, nodes_by_lem, index_by, definitions_by, items_by, strings_by}
use Rattle.tree.specs.Tree.{tree_rule}
use Rattle.tree.specs.Reach.{AllClimb}
use Rattle.tree.proofs.ParentSteps.{tree-climbs}
use Rattle.index.specs.Index.{index_rule}
use Rattle.definitions.specs.Definitions.{definitions_rule}
use Rattle.index.specs.Parts.{index_parts}
use Rattle.definitions.specs.Parts.{definition_parts}
use Rattle.index.proofs.Index.{index-parts, count-like}
use Rattle.index.proofs.Extended.{climbs-like}
use Rattle.definitions.proofs.Definitions.{definitions-parts}
use Rattle.load.specs.Load.{records_rule, load_words}
use Rattle.load.proofs.Rows.{recorded, root-some}

-- ---- what the index asks of nodes and work words

module _ (bs : List ℕ) (v : ImageView) (ns : List ℕ) (n : ns ≡ section_bytes bs v.nodes (node_size v.version)) where
  abbrev parts : Sections
  parts = index_parts v.version ns [] []

  same_nodes : (sections_by bs v).nodes ≡ parts.nodes
  same_nodes = nodes_by_lem bs v ∙ ap words_of (sym n)

  pub index-climbs : records_rule (sections_by bs v) ≡ 0 → tree_rule (sections_by bs v) ≡ 0 → AllClimb parts
  index-climbs e t =
      climbs-like (sections_by bs v) parts (version_by bs v) same_nodes
      (tree-climbs (sections_by bs v) (root-some bs v (recorded (sections_by bs v) e).rooted) t)

  nodes_fit : node_count parts ≤ load_words (sections_by bs v)
  nodes_fit = let c : node_count (sections_by bs v) ≡ node_count parts = count-like (sections_by bs v) parts (version_by bs v) same_nodes in omega arith

  pub index-room : (w : ℕ) → load_words (sections_by bs v) ≤ w → node_count parts ≤ w
  index-room w h = let f = nodes_fit in omega arith

  pub index-rest : (w₀ w : List ℕ) → drop (node_count parts) w ≡ drop (node_count parts) w₀ → drop (load_words (sections_by bs v)) w ≡ drop (load_words (sections_by bs v)) w₀
  index-rest w₀ w e = drop_more (node_count parts) (load_words (sections_by bs v)) w w₀ nodes_fit e

-- ---- what it answers

module _ (bs : List ℕ) (v : ImageView) (ns is ss : List ℕ) (n : ns ≡ section_bytes bs v.nodes (node_size v.version)) (x : is ≡ section_bytes bs v.index text_entry_size)
    (t : ss ≡ section_bytes bs v.strings 1) (q : ℕ) (e : q ≡ index_rule (index_parts v.version ns is ss)) where
  index_is : q ≡ index_rule (sections_by bs v)
  index_is =
      e
      ∙ sym
      (index-parts (sections_by bs v) v.version ns is ss (version_by bs v) (nodes_by_lem bs v ∙ ap words_of (sym n)) (index_by bs v ∙ ap words_of (sym x))
      (strings_by bs v ∙ sym t))

  pub index-refused : (q ≡ 0 → ⊥) → q ≡ (index_rule (sections_by bs v) ▸ definitions_rule (sections_by bs v))
  index-refused d = refused (index_rule (sections_by bs v)) (definitions_rule (sections_by bs v)) q index_is d

  pub index-passed : (r : ℕ) (ds ts : List ℕ) → q ≡ 0 → ds ≡ section_bytes bs v.definitions definition_size → ts ≡ section_bytes bs v.items text_entry_size
      → r ≡ definitions_rule (definition_parts ds ts ss) → r ≡ (index_rule (sections_by bs v) ▸ definitions_rule (sections_by bs v))
  index-passed r ds ts z d y u =
      u
      ∙ sym
      (definitions-parts (sections_by bs v) ds ts ss (definitions_by bs v ∙ ap words_of (sym d)) (items_by bs v ∙ ap words_of (sym y))
      (strings_by bs v ∙ sym t))
      ∙ sym (second (index_rule (sections_by bs v)) (definitions_rule (sections_by bs v)) (sym index_is ∙ z))
