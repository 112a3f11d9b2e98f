-- The sections of a view in bytes: what each is, and how many entries it has where it lies in the bytes.
use Prim.Native.Nat.{ℕ, ◌+◌, ◌*◌, ◌/◌, ◌≤◌}
use mathlib.Core.Path.{◌≡◌, refl, sym, ◌∙◌}
use mathlib.Core.List.{List}
use native.Mathlib.Omega.{arith}
use native.Mathlib.Nat.{mul-one, div-one}
use lib.ListN.{length}
use Rattle.words.specs.Words.{words_of}
use Rattle.image.specs.declared.Section.{Section}
use Rattle.image.specs.declared.ImageView.{ImageView}
use Rattle.image.specs.Sections.{node_words, node_count, child_count, named_count, definition_count, item_count, index_count}
use Rattle.image.specs.Header.{section_bytes, sections_by}
use Rattle.image.proofs.Parts.{section-length, entry-count}
use Rattle.image.proofs.Widths.{words-some}

-- ---- the fields of a view's sections

module _ (bs : List ℕ) (v : ImageView) where
  pub version_by : (sections_by bs v).version ≡ v.version
  unfolding sections_by
  version_by = refl

  pub nodes_by_lem : (sections_by bs v).nodes ≡ words_of (section_bytes bs v.nodes (4 * node_words v.version))
  unfolding sections_by
  nodes_by_lem = refl

  pub children_by : (sections_by bs v).children ≡ words_of (section_bytes bs v.children 4)
  unfolding sections_by
  children_by = refl

  pub named_by_lem : (sections_by bs v).named ≡ words_of (section_bytes bs v.named 12)
  unfolding sections_by
  named_by_lem = refl

  pub definitions_by : (sections_by bs v).definitions ≡ words_of (section_bytes bs v.definitions 16)
  unfolding sections_by
  definitions_by = refl

  pub items_by : (sections_by bs v).items ≡ words_of (section_bytes bs v.items 12)
  unfolding sections_by
  items_by = refl

  pub index_by : (sections_by bs v).index ≡ words_of (section_bytes bs v.index 12)
  unfolding sections_by
  index_by = refl

  pub payload_by : (sections_by bs v).payload ≡ section_bytes bs v.payload 1
  unfolding sections_by
  payload_by = refl

  pub strings_by : (sections_by bs v).strings ≡ section_bytes bs v.strings 1
  unfolding sections_by
  strings_by = refl

-- ---- counts

-- a section of entries of the given size lies in the bytes
abbrev pub Within : List ℕ → Section → ℕ → Type 0
Within bs s size = s.offset + s.count * size ≤ length bs

-- every section of a view does
pub record Inside (bs : List ℕ) (v : ImageView) : Type 0 where
  pub nodes : Within bs v.nodes (4 * node_words v.version)
  pub children : Within bs v.children 4
  pub named : Within bs v.named 12
  pub definitions : Within bs v.definitions 16
  pub items : Within bs v.items 12
  pub index : Within bs v.index 12
  pub payload : Within bs v.payload 1
  pub strings : Within bs v.strings 1

-- the counts of a view are those of its sections
pub record SectionCounts (bs : List ℕ) (v : ImageView) : Type 0 where
  pub nodes : node_count (sections_by bs v) ≡ v.nodes.count
  pub children : child_count (sections_by bs v) ≡ v.children.count
  pub named : named_count (sections_by bs v) ≡ v.named.count
  pub definitions : definition_count (sections_by bs v) ≡ v.definitions.count
  pub items : item_count (sections_by bs v) ≡ v.items.count
  pub index : index_count (sections_by bs v) ≡ v.index.count
  pub payload : length (sections_by bs v).payload ≡ v.payload.count
  pub strings : length (sections_by bs v).strings ≡ v.strings.count

-- a section of entries of n words
pub section-count : (bs : List ℕ) (s : Section) (n : ℕ) → 1 ≤ n → Within bs s (4 * n) → length (words_of (section_bytes bs s (4 * n))) / n ≡ s.count
section-count bs s n h w = entry-count (section_bytes bs s (4 * n)) n s.count h (section-length bs s (4 * n) w)

pub counts : (bs : List ℕ) (v : ImageView) → Inside bs v → SectionCounts bs v
unfolding sections_by
counts bs v i =
    record {
      nodes = section-count bs v.nodes (node_words v.version) (omega (arith, words-some v.version)) i.nodes;
      children = sym (div-one _) ∙ section-count bs v.children 1 (omega arith) i.children;
      named = section-count bs v.named 3 (omega arith) i.named;
      definitions = section-count bs v.definitions 4 (omega arith) i.definitions;
      items = section-count bs v.items 3 (omega arith) i.items;
      index = section-count bs v.index 3 (omega arith) i.index;
      payload = section-length bs v.payload 1 i.payload ∙ mul-one v.payload.count;
      strings = section-length bs v.strings 1 i.strings ∙ mul-one v.strings.count;
    }
