-- Rows 8 to 17 put together out of what the functions answer.
use Rattle.std.specs.Prelude.{Err, Ok, Result, ℕ}
use Prim.Native.Nat.{ℕ, zero, suc, ◌+◌, ◌*◌, ◌/◌, ◌≤◌, ◌<◌}
use mathlib.Core.Path.{◌≡◌, refl, sym, ap, ◌∙◌}
use mathlib.Core.Logic.{◌⊎◌, inl, inr, ⊎_elim}
use mathlib.Core.List.{List, [], ◌∷◌}
use mathlib.Core.Bool.{Bool, true, false, not, ◌&&◌, true≢false}
use native.Mathlib.Omega.{arith}
use native.Mathlib.Nat.{zero-mul}
use native.Mathlib.Decide.{dec_lt}
use lib.ListN.{length, drop}
use lib.Dec.{eqb}
use borrow.Author.Tests.{eq-eqb, ne_eqb, eqb-true, not-true, not-false}
use Rattle.laws.specs.Refusal.{unless, ◌▸◌, first_of}
use Rattle.laws.proofs.First.{both, second, pass, passed, fail}
use Rattle.laws.proofs.Flags.{both_true}
use Rattle.laws.proofs.Chains.{refused}
use Rattle.words.specs.Words.{words_of}
use Rattle.image.specs.declared.ImageView.{ImageView}
use Rattle.image.specs.Sections.{Sections, node_words, node_size, child_size, text_entry_size, node_count, index_count, node_word}
use Rattle.image.specs.Header.{section_bytes, sections_by}
use Rattle.image.proofs.Parts.{section-length, section-outside, entry-count}
use Rattle.image.proofs.Widths.{words-some}
use Rattle.image.proofs.Views.{Within, version_by, nodes_by_lem, children_by, named_by_lem, strings_by}
use Rattle.records.specs.declared.Sums.{Sums}
use Rattle.records.specs.Records.{node_rule, root_right, used_up, containers_before}
use Rattle.records.specs.Shown.{sums_before}
use Rattle.tree.specs.Tree.{tree_rule}
use Rattle.index.specs.Index.{index_rule}
use Rattle.definitions.specs.Definitions.{definitions_rule}
use Rattle.tree.specs.Parts.{Fit, parts_of}
use Rattle.tree.specs.Work.{tree_words}
use Rattle.tree.proofs.Entries.{fit}
use Rattle.tree.proofs.Parts.{parts-words, parts_fit, parts-rule}
use Rattle.load.specs.Nodes.{nodes_by, nodes_of}
use Rattle.load.specs.Load.{leftover_rule, records_rule, sections_rule, load_words}

-- ---- row 13

module _ (s : Sections) (r : Bool) (e : r ≡ used_up s) where
  pub left_over : not r ≡ true → 13 ≡ leftover_rule s
  unfolding leftover_rule
  left_over h =
      sym
      (fail (used_up s && eqb (containers_before s (node_count s)) (index_count s)) 13
      (ap (λ (b : Bool). b && eqb (containers_before s (node_count s)) (index_count s)) (sym e ∙ not-true r h)))

  module _ (h : not r ≡ false) (x y : ℕ) (containers : x ≡ containers_before s (node_count s)) (index : y ≡ index_count s) where
    counted : used_up s && eqb (containers_before s (node_count s)) (index_count s) ≡ eqb x y
    counted = rw (← e, not-false r h, containers, index)

    pub none_over : x ≡ y → 0 ≡ leftover_rule s
    unfolding leftover_rule
    none_over q = sym (pass (used_up s && eqb (containers_before s (node_count s)) (index_count s)) 13 (counted ∙ eq-eqb x y q))

    pub index-over : (x ≡ y → ⊥) → 13 ≡ leftover_rule s
    unfolding leftover_rule
    index-over d = sym (fail (used_up s && eqb (containers_before s (node_count s)) (index_count s)) 13 (counted ∙ ne_eqb x y d))

-- ---- rows 8 to 13

abbrev part : List ℕ → ImageView → List ℕ
part bs v = section_bytes bs v.nodes (node_size v.version)

-- a section of nodes has none, or at least one whole node
some-node : (bs : List ℕ) (v : ImageView) → (part bs v ≡ []) ⊎ (0 < length (words_of (part bs v)) / node_words v.version)
some-node bs v =
    elim (dec_lt (length bs) (v.nodes.offset + v.nodes.count * node_size v.version)) [
      | yes h ↦ inl (section-outside bs v.nodes (node_size v.version) h)
      | no d ↦ by_count v.nodes.count refl (omega arith)
    ]
  where
    none : (xs : List ℕ) → length xs ≡ 0 → xs ≡ []
    none [] e = refl
    none (x ∷ xs) e = absurd (omega arith)

    by_count : (k : ℕ) → v.nodes.count ≡ k → Within bs v.nodes (node_size v.version)
        → (part bs v ≡ []) ⊎ (0 < length (words_of (part bs v)) / node_words v.version)
    by_count zero e w = inl (none (part bs v) (section-length bs v.nodes (node_size v.version) w ∙ ap (λ (n : ℕ). n * node_size v.version) e ∙ zero-mul (node_size v.version)))
    by_count (suc k) e w =
        inr (let n : length (words_of (part bs v)) / node_words v.version ≡ v.nodes.count
        = entry-count (part bs v) (node_words v.version) v.nodes.count (omega (arith, words-some v.version)) (section-length bs v.nodes (node_size v.version) w) in
        omega arith)

-- without a node the root is not right
no_root : (s : Sections) → s.nodes ≡ [] → root_right s ≡ false
unfolding root_right node_word
no_root s e = rw e refl

module _ (bs : List ℕ) (v : ImageView) where
  empty-nodes : section_bytes bs v.nodes (node_size v.version) ≡ [] → (sections_by bs v).nodes ≡ []
  unfolding sections_by words_of
  empty-nodes e = ap words_of e

  pub short-root : (ns : List ℕ) (count : ℕ) → ns ≡ section_bytes bs v.nodes (node_size v.version) → count ≡ length (words_of ns) / node_words v.version
      → count ≡ 0 → root_right (sections_by bs v) ≡ false
  short-root ns count e c z =
      ⊎_elim (λ q. no_root (sections_by bs v) (empty-nodes q))
      (λ q. let k : count ≡ length (words_of (part bs v)) / node_words v.version
      = c ∙ ap (λ (x : List ℕ). length (words_of x) / node_words v.version) e in absurd (omega arith)) (some-node bs v)

  pub root-some : root_right (sections_by bs v) ≡ true → 0 < node_count (sections_by bs v)
  unfolding sections_by
  root-some r =
      ⊎_elim (λ q. let z : true ≡ false = sym r ∙ no_root (sections_by bs v) (empty-nodes q) in absurd (true≢false z)) (λ q. q) (some-node bs v)

module _ (s : Sections) where
  pub root-wrong : root_right s ≡ false → 8 ≡ records_rule s
  unfolding records_rule
  root-wrong e = refused (unless (root_right s) 8) (first_of (node_count s) (node_rule s) ▸ leftover_rule s) 8 (sym (fail (root_right s) 8 e)) (λ q. omega arith)

  -- the root is right: the nodes decide, then what is left over
  after-root : root_right s ≡ true → records_rule s ≡ (first_of (node_count s) (node_rule s) ▸ leftover_rule s)
  unfolding records_rule
  after-root e = second (unless (root_right s) 8) (first_of (node_count s) (node_rule s) ▸ leftover_rule s) (pass (root_right s) 8 e)

  -- what the nodes' answer says
  by_refused : (n r : ℕ) → nodes_by n s ≡ Err r → (r ≡ n) × (r ≡ 0 → ⊥)
  by_refused zero r e = let z : ◌≡◌ {A = ℕ} 0 1 = cc in absurd (omega arith)
  by_refused (suc n) r e = let q : r ≡ suc n = cc in (q, λ p. omega arith)

  by_passed : (n : ℕ) (u : Sums) → nodes_by n s ≡ Ok u → (n ≡ 0) × (u ≡ sums_before s (node_count s))
  by_passed zero u e = (refl, cc)
  by_passed (suc n) u e = let z : ◌≡◌ {A = ℕ} 0 1 = cc in absurd (omega arith)

  pub nodes-refused : (a : Result Sums ℕ) (r : ℕ) → root_right s ≡ true → a ≡ nodes_of s → a ≡ Err r → r ≡ records_rule s
  unfolding nodes_of
  nodes-refused a r t e q =
      let p = by_refused (first_of (node_count s) (node_rule s)) r (sym e ∙ q) in
      refused (first_of (node_count s) (node_rule s)) (leftover_rule s) r p.0 p.1 ∙ sym (after-root t)

  pub nodes-passed : (a : Result Sums ℕ) (u : Sums) (r : ℕ) → root_right s ≡ true → a ≡ nodes_of s → a ≡ Ok u → r ≡ leftover_rule s → r ≡ records_rule s
  unfolding nodes_of
  nodes-passed a u r t e q l =
      let p = by_passed (first_of (node_count s) (node_rule s)) u (sym e ∙ q) in
      l ∙ sym (second (first_of (node_count s) (node_rule s)) (leftover_rule s) p.0) ∙ sym (after-root t)

  pub passed-sums : (a : Result Sums ℕ) (u : Sums) → a ≡ nodes_of s → a ≡ Ok u → u ≡ sums_before s (node_count s)
  unfolding nodes_of
  passed-sums a u e q = (by_passed (first_of (node_count s) (node_rule s)) u (sym e ∙ q)).1

  -- passed records, taken apart
  pub record Recorded : Type 0 where
    pub rooted : root_right s ≡ true
    pub nodes : first_of (node_count s) (node_rule s) ≡ 0
    pub used : used_up s ≡ true
    pub indexed : containers_before s (node_count s) ≡ index_count s

  pub recorded : records_rule s ≡ 0 → Recorded
  unfolding records_rule leftover_rule
  recorded e =
      let a = both (unless (root_right s) 8) (first_of (node_count s) (node_rule s) ▸ leftover_rule s) e in
      let b = both (first_of (node_count s) (node_rule s)) (leftover_rule s) a.1 in
      let l = both_true (used_up s) (eqb (containers_before s (node_count s)) (index_count s)) (passed _ 12 b.1) in
      record { rooted = passed (root_right s) 7 a.0; nodes = b.0; used = l.0; indexed = eqb-true _ _ l.1 }

pub tree_fit : (bs : List ℕ) (v : ImageView) → records_rule (sections_by bs v) ≡ 0 → Fit (sections_by bs v)
tree_fit bs v e =
    let g = recorded (sections_by bs v) e in
    fit (sections_by bs v) (root-some bs v g.rooted) g.nodes g.used

-- ---- rows 14 and 15, out of the parts of a view

module _ (bs : List ℕ) (v : ImageView) (ns cs ms ss : List ℕ) (n : ns ≡ section_bytes bs v.nodes (node_size v.version)) (k : cs ≡ section_bytes bs v.children child_size)
    (m : ms ≡ section_bytes bs v.named text_entry_size) (t : ss ≡ section_bytes bs v.strings 1) where
  from-nodes : (sections_by bs v).nodes ≡ words_of ns
  from-nodes = nodes_by_lem bs v ∙ ap words_of (sym n)

  from-children : (sections_by bs v).children ≡ words_of cs
  from-children = children_by bs v ∙ ap words_of (sym k)

  from_named : (sections_by bs v).named ≡ words_of ms
  from_named = named_by_lem bs v ∙ ap words_of (sym m)

  from-strings : (sections_by bs v).strings ≡ ss
  from-strings = strings_by bs v ∙ sym t

  pub part-words : tree_words (parts_of v.version ns cs ms ss) ≡ load_words (sections_by bs v)
  part-words = parts-words (sections_by bs v) v.version ns cs ms ss (version_by bs v) from-nodes from-children from_named from-strings

  pub part_fit : records_rule (sections_by bs v) ≡ 0 → Fit (parts_of v.version ns cs ms ss)
  part_fit e = parts_fit (sections_by bs v) v.version ns cs ms ss (version_by bs v) from-nodes from-children from_named from-strings (tree_fit bs v e)

  pub part_room : (w : ℕ) → load_words (sections_by bs v) ≤ w → tree_words (parts_of v.version ns cs ms ss) ≤ w
  part_room w h = rw part-words h

  pub part-tree : (r : ℕ) → r ≡ tree_rule (parts_of v.version ns cs ms ss) → r ≡ tree_rule (sections_by bs v)
  part-tree r e = e ∙ parts-rule (sections_by bs v) v.version ns cs ms ss (version_by bs v) from-nodes from-children from_named from-strings

  pub part-rest : (w₀ w : List ℕ) → drop (tree_words (parts_of v.version ns cs ms ss)) w ≡ drop (tree_words (parts_of v.version ns cs ms ss)) w₀
      → drop (load_words (sections_by bs v)) w ≡ drop (load_words (sections_by bs v)) w₀
  part-rest w₀ w e = rw part-words at e

-- ---- rows 8 to 17

module _ (s : Sections) (a : ℕ) (e : a ≡ records_rule s) where
  pub records-refused : (a ≡ 0 → ⊥) → a ≡ sections_rule s
  unfolding sections_rule
  records-refused d = refused (records_rule s) (tree_rule s ▸ index_rule s ▸ definitions_rule s) a e d

  module _ (z : a ≡ 0) (b : ℕ) (f : b ≡ tree_rule s) where
    past-records : sections_rule s ≡ (tree_rule s ▸ index_rule s ▸ definitions_rule s)
    unfolding sections_rule
    past-records = second (records_rule s) (tree_rule s ▸ index_rule s ▸ definitions_rule s) (sym e ∙ z)

    pub tree-refused : (b ≡ 0 → ⊥) → b ≡ sections_rule s
    tree-refused d = refused (tree_rule s) (index_rule s ▸ definitions_rule s) b f d ∙ sym past-records

    pub tree-passed : (c : ℕ) → b ≡ 0 → c ≡ (index_rule s ▸ definitions_rule s) → c ≡ sections_rule s
    tree-passed c y g = g ∙ sym (second (tree_rule s) (index_rule s ▸ definitions_rule s) (sym f ∙ y)) ∙ sym past-records
