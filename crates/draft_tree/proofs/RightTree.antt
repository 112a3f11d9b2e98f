-- A draft whose tables pass keeps 20 and 21 exactly if its tree stands and its definitions are in order.
use Prim.Native.Nat.{ℕ, ◌+◌, ◌≤◌, ◌<◌}
use mathlib.Core.Path.{◌≡◌, sym, ap, ◌∙◌, subst}
use mathlib.Core.Bool.{true, false}
use native.Mathlib.Omega.{arith}
use native.Mathlib.Decide.{ℕ_discrete, dec_le}
use borrow.Author.Tests.{eq-eqb, ne_eqb}
use Rattle.laws.specs.Refusal.{passes, ◌▸◌, first_of}
use Rattle.laws.proofs.First.{both, then, pass, zero_as, first_of_lem}
use Rattle.laws.proofs.Flags.{all_of_lem}
use Rattle.laws.proofs.Members.{all_has}
use Rattle.words.specs.Words.{NONE}
use Rattle.image.specs.Sections.{Sections, node_count, definition_count, parent_of, f, child_word, named_word, is_container}
use Rattle.records.specs.Records.{number_of_children, number_of_named, parent_rule}
use Rattle.records.proofs.PassedRules.{ranges}
use Rattle.tree.specs.Tree.{child_at, named_at, read_walk, all_seen}
use Rattle.tree.specs.Reach.{Reached, root as reached-root, child as reached-child, named as reached-named}
use Rattle.tree.proofs.Entries.{children-pass, named-pass, child-container, named-container}
use Rattle.tree.proofs.Numbers.{read-reached, reached-read}
use Rattle.draft.specs.Draft.{reach_rule, relation_rule, order_rule, shape_rule}
use Rattle.draft.proofs.Rules.{TablesBy, entries-counts, entries_below, parent-node, child-node, named-node, child_in, named_in, Shape, shape}
use Rattle.draft.proofs.ReachedNodes.{reached}
use Rattle.promises.proofs.Counts.{owner}
use Rattle.draft_tree.specs.Standing.{Listed, child, named, Rooted, root, up, Standing}
use Rattle.draft_tree.specs.Testing.{Told}

module _ (s : Sections) {rule : ℕ → ℕ} (t : TablesBy s rule) (st : Standing s) where
  -- ---- a listed node is an entry of its parent

  record Owned (i : ℕ) : Type 0 where
    container : is_container s (parent_of s i) ≡ true
    down : Reached s (parent_of s i) → Reached s i

  child_of : (i c k : ℕ) → c < node_count s → k < number_of_children s c → i ≡ child_at s c k → Owned i
  child_of i c k h l e =
      let to : parent_of s i ≡ c = ap (parent_of s) e ∙ (children-pass s c (st.entries c h) k l).parent in
      record {
        container = ap (is_container s) to ∙ child-container s c k l;
        down = λ r. reached-child c k (subst (Reached s) to r) l e;
      }

  named_of : (i c k : ℕ) → c < node_count s → k < number_of_named s c → i ≡ named_at s c k 2 → Owned i
  named_of i c k h l e =
      let to : parent_of s i ≡ c = ap (parent_of s) e ∙ (named-pass s c (st.entries c h) k l).parent in
      record {
        container = ap (is_container s) to ∙ named-container s c k l;
        down = λ r. reached-named c k (subst (Reached s) to r) l e;
      }

  owned : (i : ℕ) → Listed s i → Owned i
  owned i (child j h e) =
      let o = owner (node_count s) (number_of_children s) j (omega (arith, (entries-counts s t).children)) in
      let c = child-container s o.at o.place o.place-below in
      let start = (ranges s o.at c (t.containers o.at o.at_below c)).children-start in
      child_of i o.at o.place o.at_below o.place-below (sym e ∙ ap (child_word s) (o.there ∙ ap (λ (n : ℕ). n + o.place) (sym start)))
  owned i (named j h e) =
      let o = owner (node_count s) (number_of_named s) j (omega (arith, (entries-counts s t).named)) in
      let c = named-container s o.at o.place o.place-below in
      let start = (ranges s o.at c (t.containers o.at o.at_below c)).named_start in
      named_of i o.at o.place o.at_below o.place-below
      (sym e ∙ ap (λ (n : ℕ). named_word s n 2) (o.there ∙ ap (λ (n : ℕ). n + o.place) (sym start)))

  -- ---- every node leads to the root, since its parent, a container, does

  leads : (i : ℕ) → i < node_count s → Rooted s i
  leads i h =
      elim (ℕ_discrete i 0) [
        | yes e ↦ subst (Rooted s) (sym e) root
        | no d ↦ up (st.rooted (parent_of s i) (parent-node s t i h (omega arith)).below (owned i (st.listed i (omega arith) h)).container)
      ]

  -- ---- 20

  rooted-reached : (i : ℕ) → i < node_count s → Rooted s i → Reached s i
  rooted-reached i h root = reached-root
  rooted-reached i h (up r) =
      elim (ℕ_discrete i 0) [
        | yes e ↦ subst (Reached s) (sym e) reached-root
        | no d ↦ (owned i (st.listed i (omega arith) h)).down (rooted-reached (parent_of s i) (parent-node s t i h (omega arith)).below r)
      ]

  stands-reach : reach_rule s ≡ 0
  unfolding reach_rule all_seen
  stands-reach =
      pass _ 20
      (all_of_lem _ _ (λ i h. reached-read s (entries-counts s t) (λ k l. entries_below s t k l) i (rooted-reached i h (leads i h))))

  -- ---- 21

  -- a node that is its own parent does not lead to the root
  own_parent : (i : ℕ) → 0 < i → parent_of s i ≡ i → Rooted s i → ⊥
  own_parent i k e root = omega arith
  own_parent i k e (up r) = own_parent (parent_of s i) (omega arith) (ap (parent_of s) e) r

  stands-parents : (i : ℕ) → i < node_count s → parent_rule s i ≡ 0
  unfolding parent_rule
  stands-parents i h =
      elim (ℕ_discrete i 0) [
        | yes e ↦ rw (eq-eqb i 0 e)
        | no d ↦ rw (ne_eqb i 0 d) (pass _ 9 (rw (
          t.parents i h (omega arith),
          (owned i (st.listed i (omega arith) h)).container,
          ne_eqb (parent_of s i) i (λ e. own_parent i (omega arith) e (leads i h)),
        )))
      ]

  stands-shape : first_of (definition_count s) (order_rule s) ≡ 0 → shape_rule s ≡ 0
  unfolding shape_rule relation_rule
  stands-shape p =
      then _ _ (pass _ 21 st.root)
      (then _ _ (first_of_lem (node_count s) _ (λ i h. then _ _ (zero_as 21 _ (stands-parents i h)) (zero_as 21 _ (st.entries i h)))) p)

-- ---- what 20 and 21 give

module _ (s : Sections) {rule : ℕ → ℕ} (t : TablesBy s rule) (reach : reach_rule s ≡ 0) (shaped : shape_rule s ≡ 0) where
  abbrev whole : Shape s
  whole = shape s shaped

  reached-node : (i : ℕ) → i < node_count s → Reached s i
  reached-node i h = all_has (Reached s) i (read_walk s).seen (reached s reach i h) (read-reached s)

  reached-below : (i : ℕ) → Reached s i → i < node_count s
  reached-below i reached-root = t.some
  reached-below i (reached-child c k r l e) = subst (λ (x : ℕ). x < node_count s) (sym e) (children-pass s c (whole.entries c (reached-below c r)) k l).below
  reached-below i (reached-named c k r l e) = subst (λ (x : ℕ). x < node_count s) (sym e) (named-pass s c (whole.entries c (reached-below c r)) k l).below

  reached-rooted : (i : ℕ) → Reached s i → Rooted s i
  reached-rooted i reached-root = root
  reached-rooted i (reached-child c k r l e) =
      up (subst (Rooted s) (sym (ap (parent_of s) e ∙ (children-pass s c (whole.entries c (reached-below c r)) k l).parent)) (reached-rooted c r))
  reached-rooted i (reached-named c k r l e) =
      up (subst (Rooted s) (sym (ap (parent_of s) e ∙ (named-pass s c (whole.entries c (reached-below c r)) k l).parent)) (reached-rooted c r))

  reached-listed : (i : ℕ) → 0 < i → Reached s i → Listed s i
  reached-listed i h reached-root = absurd (omega arith)
  reached-listed i h (reached-child c k r l e) = child (f s c 3 + k) (child_in s t c (reached-below c r) k l) (sym e)
  reached-listed i h (reached-named c k r l e) = named (f s c 5 + k) (named_in s t c (reached-below c r) k l) (sym e)

  kept-told : Told s
  unfolding shape_rule
  kept-told =
      record {
        standing =
            record {
              root = whole.root;
              entries = whole.entries;
              listed = λ i k h. reached-listed i k (reached-node i h);
              rooted = λ i h b. reached-rooted i (reached-node i h);
            };
        orders = (both _ _ (both _ _ shaped).1).1;
      }

-- ---- the answer

module _ (s : Sections) {rule : ℕ → ℕ} (t : TablesBy s rule) where
  pub stands_yes : Told s → true ≡ passes (reach_rule s ▸ shape_rule s)
  stands_yes told =
      sym (eq-eqb _ 0 (then _ _ (stands-reach s t told.standing) (stands-shape s t told.standing told.orders)))

  pub stands_no : (Told s → ⊥) → false ≡ passes (reach_rule s ▸ shape_rule s)
  stands_no d = sym (ne_eqb _ 0 (λ z. let b = both _ _ z in d (kept-told s t b.0 b.1)))

  -- entries name no more nodes than words can
  pub few_nodes : ((i : ℕ) → 0 < i → i < node_count s → Listed s i) → node_count s ≤ NONE
  few_nodes listed = elim (dec_le (node_count s) NONE) [ yes h ↦ h | no h ↦ absurd (by (listed NONE (omega arith) (omega (arith, h)))) ]
    where
      by : Listed s NONE → ⊥
      by (child j h e) = (child-node s t j h).some e
      by (named j h e) = (named-node s t j h).some e
