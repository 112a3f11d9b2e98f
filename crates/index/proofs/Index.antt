-- The index where nothing is refused: what each entry is, that its texts are sorted and differ, and that sections alike in what it reads are refused alike.
use Prim.Native.Nat.{ℕ, zero, suc, ◌/◌, ◌<◌}
use mathlib.Core.Path.{◌≡◌, refl, sym, ap, ◌∙◌}
use mathlib.Core.List.{List}
use mathlib.Core.Bool.{true}
use lib.ListN.{length}
use Rattle.laws.specs.Refusal.{first_of, unless, ◌▸◌}
use Rattle.laws.proofs.First.{both, passed, first_all, first_of_lem}
use Rattle.words.specs.Words.{words_of}
use Rattle.texts.specs.Text.{before, rising}
use Rattle.image.specs.Sections.{Sections, text_entry_words, node_word, parent_of, index_word, index_count, node_count, good_text, inside_container}
use Rattle.index.specs.Paths.{piece, path_from, canonical_path, name_or_place, name_or_place_from, fits}
use Rattle.index.specs.Index.{index_text, index_entry_rule, index_rule}
use Rattle.index.specs.Parts.{index_parts, path_node_of}
use Rattle.index.proofs.Paths.{fits_one}
use Rattle.image.proofs.RisingTexts.{rising-before, rising-once, rising-like}
use Rattle.laws.proofs.RuleRuns.{first-like}

-- ---- an entry that passes

pub record Entry (s : Sections) (j : ℕ) : Type 0 where
  pub text : good_text s (index_word s j 0) (index_word s j 1) ≡ true
  pub target : inside_container s (index_word s j 2) ≡ true
  pub order : rising (index_text s) j ≡ true
  pub fit : fits s (index_word s j 2) (index_text s j) ≡ true

pub entry-passed : (s : Sections) (j : ℕ) → index_entry_rule s j ≡ 0 → Entry s j
unfolding index_entry_rule
entry-passed s j p =
    let text = good_text s (index_word s j 0) (index_word s j 1) in
    let target = inside_container s (index_word s j 2) in
    let order = rising (index_text s) j in
    let fit = fits s (index_word s j 2) (index_text s j) in
    let a = both (unless text 10) (unless target 9 ▸ unless order 16 ▸ unless fit 16) p in
    let b = both (unless target 9) (unless order 16 ▸ unless fit 16) a.1 in
    let c = both (unless order 16) (unless fit 16) b.1 in
    record { text = passed text 9 a.0; target = passed target 8 b.0; order = passed order 15 c.0; fit = passed fit 15 c.1 }

pub entry-passes : (s : Sections) (j : ℕ) → Entry s j → index_entry_rule s j ≡ 0
unfolding index_entry_rule unless ◌▸◌
entry-passes s j e = rw (e.text, e.target, e.order, e.fit)

-- ---- the whole index

pub index-passed : (s : Sections) → index_rule s ≡ 0 → (j : ℕ) → j < index_count s → Entry s j
unfolding index_rule
index-passed s p j h = entry-passed s j (first_all (index_count s) (index_entry_rule s) p j h)

pub index-passes : (s : Sections) → ((j : ℕ) → j < index_count s → Entry s j) → index_rule s ≡ 0
unfolding index_rule
index-passes s e = first_of_lem (index_count s) (index_entry_rule s) (λ j h. entry-passes s j (e j h))

module _ (s : Sections) (p : index_rule s ≡ 0) where
  -- each text comes before all that follow
  pub index-before : (j k : ℕ) → j < k → k < index_count s → before (index_text s j) (index_text s k) ≡ true
  index-before = rising-before (index_text s) (index_count s) (λ j h. (index-passed s p j h).order)

  -- no text stands twice
  pub index-once : (j k : ℕ) → j < index_count s → k < index_count s → index_text s j ≡ index_text s k → j ≡ k
  index-once = rising-once (index_text s) (index_count s) (λ j h. (index-passed s p j h).order)

  -- the text of an entry is its target's path
  pub index-path : (j : ℕ) → j < index_count s → index_text s j ≡ canonical_path s (index_word s j 2)
  index-path j h = (fits_one s (index_word s j 2) (index_text s j) (index-passed s p j h).fit).1

  -- so two entries of one target are one
  pub index-target : (j k : ℕ) → j < index_count s → k < index_count s → index_word s j 2 ≡ index_word s k 2 → j ≡ k
  index-target j k h g e = index-once j k h g (index-path j h ∙ ap (canonical_path s) e ∙ sym (index-path k g))

-- ---- sections with the same nodes, index and strings

module _ (s r : Sections) (versioned : s.version ≡ r.version) (nodes : s.nodes ≡ r.nodes) where
  pub word-like : (i k : ℕ) → node_word s i k ≡ node_word r i k
  unfolding node_word
  word-like i k = rw (versioned, nodes)

  pub count-like : node_count s ≡ node_count r
  count-like = rw (versioned, nodes)

  pub container-like : (i : ℕ) → inside_container s i ≡ inside_container r i
  container-like i = rw (count-like, word-like i 2)

  pub name_or_place-like : (i : ℕ) → name_or_place s i ≡ name_or_place r i
  name_or_place-like i = rw (word-like i 1, word-like i 3, word-like i 4)

  pub path-node-like : (i : ℕ) → path_node_of s i ≡ path_node_of r i
  path-node-like i = rw (word-like i 0, word-like i 1, word-like i 3, word-like i 4)

module _ (s r : Sections) (versioned : s.version ≡ r.version) (nodes : s.nodes ≡ r.nodes) (strings : s.strings ≡ r.strings) where
  at_word : (i k : ℕ) → node_word s i k ≡ node_word r i k
  at_word = word-like s r versioned nodes

  pub piece-like : (i : ℕ) → piece s i ≡ piece r i
  unfolding piece
  piece-like i = rw (at_word i 1, at_word i 3, at_word i 4, strings)

  pub path-like : (n i : ℕ) → path_from n s i ≡ path_from n r i
  unfolding path_from
  path-like zero i = refl
  path-like (suc n) i = rw (at_word i 0, path-like n (parent_of r i), piece-like i)

  pub way_like : (n i : ℕ) → name_or_place_from n s i ≡ name_or_place_from n r i
  unfolding name_or_place_from
  way_like zero i = refl
  way_like (suc n) i = rw (at_word i 0, way_like n (parent_of r i), name_or_place-like s r versioned nodes i)

  pub fits-like : (i : ℕ) (t : List ℕ) → fits s i t ≡ fits r i t
  unfolding fits
  fits-like i t = rw (count-like s r versioned nodes, way_like (node_count r) i, path-like (node_count r) i)

  module _ (index : s.index ≡ r.index) where
    entry-word-like : (j k : ℕ) → index_word s j k ≡ index_word r j k
    unfolding index_word
    entry-word-like j k = rw index

    text-like : (j : ℕ) → index_text s j ≡ index_text r j
    text-like j = rw (entry-word-like j 0, entry-word-like j 1, strings)

    entry-like : (j : ℕ) → index_entry_rule s j ≡ index_entry_rule r j
    unfolding index_entry_rule
    entry-like j =
        rw (
          rising-like (index_text s) (index_text r) text-like j,
          fits-like (index_word s j 2) (index_text s j),
          text-like j,
          container-like s r versioned nodes (index_word s j 2),
          entry-word-like j 0,
          entry-word-like j 1,
          entry-word-like j 2,
          strings,
        )

    -- are refused alike
    pub index-like : index_rule s ≡ index_rule r
    unfolding index_rule
    index-like =
        first-like (index_count s) (index_entry_rule s) (index_entry_rule r) entry-like
        ∙ ap (λ (ws : List ℕ). first_of (length ws / text_entry_words) (index_entry_rule r)) index

-- the sections of an image are refused as the parts that the code is lent
pub index-parts : (s : Sections) (version : ℕ) (nodes index strings : List ℕ) → s.version ≡ version → s.nodes ≡ words_of nodes → s.index ≡ words_of index → s.strings ≡ strings
    → index_rule s ≡ index_rule (index_parts version nodes index strings)
index-parts s version nodes index strings a b c d = index-like s (index_parts version nodes index strings) a b d c
