-- What is read out of the bytes of a view's sections: counts, and the tag of a node.
use Prim.Native.Nat.{ℕ, ◌+◌, ◌*◌, ◌/◌, ◌<◌}
use mathlib.Core.Path.{◌≡◌, sym, ap, ◌∙◌}
use mathlib.Core.List.{List}
use mathlib.Core.Bool.{Bool, true, false, cond}
use lib.ListN.{length, get_or}
use Rattle.words.specs.Words.{words_of}
use Rattle.words.proofs.Words.{length-words}
use Rattle.image.specs.declared.EntryCounts.{EntryCounts}
use Rattle.image.specs.declared.ImageView.{ImageView}
use Rattle.image.specs.declared.Section.{Section}
use Rattle.image.specs.Sections.{Sections, node_words, text_entry_words, node_size, child_size, text_entry_size, definition_size, node_count, node_word, tag_of, inside, inside_among}
use Rattle.image.specs.Header.{section_bytes, sections_by}
use Rattle.records.specs.Shown.{tag_in, counts_of}
use Rattle.image.proofs.Tests.{inside-true}
use Rattle.image.proofs.Parts.{text-entry-count, definition-count}

-- ---- counts

module _ (bs : List ℕ) (v : ImageView) where
  texts-read : (xs : List ℕ) (section : Section) → xs ≡ section_bytes bs section text_entry_size
      → length xs / text_entry_size ≡ length (words_of (section_bytes bs section text_entry_size)) / text_entry_words
  texts-read xs section e =
      ap (λ (x : List ℕ). length x / text_entry_size) e ∙ sym (text-entry-count (section_bytes bs section text_entry_size))

  pub counts-read : (ns cs ms ds is xs ps ts : List ℕ) (count : ℕ) → ns ≡ section_bytes bs v.nodes (node_size v.version)
      → cs ≡ section_bytes bs v.children child_size → ms ≡ section_bytes bs v.named text_entry_size → ds ≡ section_bytes bs v.definitions definition_size
      → is ≡ section_bytes bs v.items text_entry_size → xs ≡ section_bytes bs v.index text_entry_size → ps ≡ section_bytes bs v.payload 1
      → ts ≡ section_bytes bs v.strings 1 → count ≡ length (words_of ns) / node_words v.version
      → ◌≡◌ {A = EntryCounts} (record { nodes = count; children = length cs / child_size; named = length ms / text_entry_size; definitions = length ds / definition_size; items = length is / text_entry_size; index = length xs / text_entry_size; payload = length ps; strings = length ts }) (counts_of (sections_by bs v))
  unfolding sections_by
  counts-read ns cs ms ds is xs ps ts count n c m d i x p t e =
      λ k.
      record {
        nodes = (e ∙ ap (λ (y : List ℕ). length (words_of y) / node_words v.version) n) k;
        children = (ap (λ (y : List ℕ). length y / child_size) c ∙ sym (length-words (section_bytes bs v.children child_size))) k;
        named = texts-read ms v.named m k;
        definitions =
            (ap (λ (y : List ℕ). length y / definition_size) d ∙ sym (definition-count (section_bytes bs v.definitions definition_size))) k;
        items = texts-read is v.items i k;
        index = texts-read xs v.index x k;
        payload = length (p k);
        strings = length (t k);
      }

-- ---- the tag of node n

module _ (s : Sections) (version : ℕ) (ns : List ℕ) (n : ℕ) (versioned : s.version ≡ version) (nodes : s.nodes ≡ words_of ns) where
  pub node-total : node_count s ≡ length (words_of ns) / node_words version
  node-total = rw (versioned, nodes)

  -- by the count that the code reads
  module _ (count : ℕ) (c : count ≡ length (words_of ns) / node_words version) (b : Bool) (e : b ≡ inside_among count n) where
    there : b ≡ inside s n
    there = e ∙ ap (λ (k : ℕ). inside_among k n) (c ∙ sym node-total)

    pub tag_outside : b ≡ false → 0 ≡ tag_in s n
    unfolding tag_in
    tag_outside h = ap (λ (t : Bool). cond t (tag_of s n) 0) (sym h ∙ there)

    tag_word : get_or (words_of ns) (n * node_words version + 2) 0 ≡ tag_of s n
    unfolding node_word
    tag_word = rw (versioned, nodes)

    pub tag_inside : (x : ℕ) → b ≡ true → x ≡ get_or (words_of ns) (n * node_words version + 2) 0 → x ≡ tag_in s n
    unfolding tag_in
    tag_inside x h q = q ∙ tag_word ∙ ap (λ (t : Bool). cond t (tag_of s n) 0) (sym h ∙ there)

-- a number that the code found inside is below the count
pub inside-below : (count n : ℕ) (b : Bool) (total : ℕ) → count ≡ total → b ≡ inside_among count n → b ≡ true → n < total
inside-below count n b total c e h = (inside-true total n (ap (λ (k : ℕ). inside_among k n) (sym c) ∙ sym e ∙ h)).0
