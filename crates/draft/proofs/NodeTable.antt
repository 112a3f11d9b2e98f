-- The loop over a draft's nodes: what it is told of each node, and what it has shown when it has passed some.
use Prim.Native.Nat.{ℕ, zero, suc, ◌+◌, ◌≤◌, ◌<◌}
use mathlib.Core.Path.{◌≡◌, refl, sym, ap, ap₂, ◌∙◌}
use mathlib.Core.Logic.{inl}
use mathlib.Core.List.{List, []}
use mathlib.Core.Bool.{Bool, true, false, cond, ◌||◌}
use native.Mathlib.Omega.{arith}
use native.Mathlib.Numerals.{add-one}
use lib.Dec.{eqb}
use borrow.Author.Tests.{eq-eqb, ne_eqb}
use Rattle.laws.specs.Refusal.{unless, counts_as, passes, ◌▸◌, first_of}
use Rattle.laws.specs.Counted.{sum_of}
use Rattle.laws.proofs.First.{both, second, pass, fail, as_zero, first_next}
use Rattle.laws.proofs.Chains.{refused, first-broken, first_done}
use Rattle.image.specs.declared.EntryCounts.{EntryCounts}
use Rattle.image.specs.declared.NodeRecord.{NodeRecord}
use Rattle.image.specs.Sections.{Sections, node_count, node_word, parent_of, inside, inside_among, is_container}
use Rattle.image.specs.Entries.{node_in, record_of}
use Rattle.image.proofs.Entries.{node_record}
use Rattle.records.specs.declared.Sums.{Sums}
use Rattle.records.specs.Fields.{kind_of}
use Rattle.records.specs.Records.{target_in, container_of, containers_before, used_up}
use Rattle.records.specs.Shown.{Shows, tag_in, sums_before, choice_rule, reference_rule, fields_by}
use Rattle.records.proofs.ByKind.{counts-kept, shown-fields, target-second, target_fourth, at_choice, at_reference}
use Rattle.records.proofs.PassedRules.{first-sums}
use Rattle.draft.specs.Needs.{draft_counts}
use Rattle.draft.specs.Source.{NodesFrom, draft_of}
use Rattle.draft.specs.PathList.{follows, path_fields_rule, path_node_rule}
use Rattle.draft.specs.PathEntries.{follower_right, record_right}
use Rattle.draft.proofs.Runs.{as_passes}
use Rattle.draft.proofs.PathTables.{followed, path-fields-free, path-fields_own, follower-fields}

-- ---- what is told of node i

module _ {v : ℕ} (s : Sections) (ns ps ts : List ℕ) (counts : EntryCounts) (g : NodesFrom s v ns ps ts counts) where
  pub count_is : counts.nodes ≡ node_count s
  count_is = ap (λ (c : EntryCounts). c.nodes) g.counts

  tag_told : (n tag : ℕ) → tag ≡ tag_in (draft_of v ns [] [] [] [] [] []) n → tag ≡ tag_in s n
  unfolding tag_in node_word
  tag_told n tag e = rw (g.version_is, g.nodes_are) e

  module _ (i : ℕ) (r : NodeRecord) (node : r ≡ node_in s i) where
    fields_told : (sums : Sums) (tag : ℕ) → sums ≡ sums_before s i → tag ≡ tag_in (draft_of v ns [] [] [] [] [] []) (target_in r (kind_of r.tag))
        → Shows s i r counts sums tag ps ts
    fields_told sums tag u e =
        record {
          node = node;
          counts = counts-kept s counts 0 0 g.counts;
          sums = u;
          target = tag_told (target_in r (kind_of r.tag)) tag e ∙ ap (λ (x : NodeRecord). tag_in s (target_in x (kind_of x.tag))) node;
          payload = sym g.payload_is;
          strings = sym g.strings_are;
        }

    -- whether its fields are right, by whether it follows a path
    fields_free : (entries : List ℕ) → follows s entries i ≡ true → follower_right r ts ≡ passes (path_fields_rule s entries i)
    fields_free entries h =
        (λ j. follower_right (node j) (sym g.strings_are j)) ∙ follower-fields s i (followed s entries i h) ∙ ap passes (sym (path-fields-free s entries i h))

    abbrev tag : ℕ
    tag = tag_in (draft_of v ns [] [] [] [] [] []) (target_in r (kind_of r.tag))

    fields_own : (entries : List ℕ) (sums : Sums) → sums ≡ sums_before s i → follows s entries i ≡ false
        → passes (fields_by (kind_of r.tag) r counts sums tag ps ts) ≡ passes (path_fields_rule s entries i)
    fields_own entries sums u h = ap passes (shown-fields s i r counts sums _ ps ts (fields_told sums _ u refl) ∙ sym (path-fields_own s entries i h))

    fields_are : (entries : List ℕ) (sums : Sums) → sums ≡ sums_before s i → (follow : Bool) → follow ≡ follows s entries i
        → record_right follow r counts sums tag ps ts ≡ passes (path_fields_rule s entries i)
    fields_are entries sums u true h = fields_free entries (sym h)
    fields_are entries sums u false h = fields_own entries sums u (sym h)

    parent_is : (eqb i 0 || inside_among counts.nodes r.parent) ≡ (eqb i 0 || inside s (parent_of s i))
    parent_is = ap (λ (n : ℕ). eqb i 0 || inside_among n r.parent) count_is ∙ ap (λ (x : NodeRecord). eqb i 0 || inside_among (node_count s) x.parent) node

    -- the rules of its record are those of node i
    pub node-rules : (entries : List ℕ) (sums : Sums) → sums ≡ sums_before s i → (follow : Bool) → follow ≡ follows s entries i
        → (x : ℕ) → x ≡ (unless (record_right follow r counts sums tag ps ts) 19 ▸ unless (eqb i 0 || inside_among counts.nodes r.parent) 19)
        → x ≡ path_node_rule s entries i
    unfolding path_node_rule
    node-rules entries sums u follow h x e =
        e ∙ ap₂ (λ (a b : Bool). unless a 19 ▸ unless b 19) (fields_are entries sums u follow h) parent_is
        ∙ ap (λ (a : ℕ). a ▸ unless (eqb i 0 || inside s (parent_of s i)) 19) (sym (as_passes 19 (path_fields_rule s entries i)))

-- ---- the rules of a record by the answers of their tests

-- whether a parent is due and inside
module _ (i : ℕ) (t : Bool) where
  pub parent-root : i ≡ 0 → 0 ≡ unless (eqb i 0 || t) 19
  parent-root z = sym (pass (eqb i 0 || t) 19 (rw (eq-eqb i 0 z) refl))

  module _ (d : i ≡ 0 → ⊥) (b : Bool) (e : b ≡ t) where
    by_parent : (eqb i 0 || t) ≡ b
    by_parent = rw (ne_eqb i 0 d) (sym e)

    pub parent-inside : b ≡ true → 0 ≡ unless (eqb i 0 || t) 19
    parent-inside k = sym (pass (eqb i 0 || t) 19 (by_parent ∙ k))

    pub parent-outside : b ≡ false → 19 ≡ unless (eqb i 0 || t) 19
    parent-outside k = sym (fail (eqb i 0 || t) 19 (by_parent ∙ k))

-- ---- the rules that ask for the tag of a target

module _ (d : Sections) (r : NodeRecord) (counts : EntryCounts) (sums : Sums) (ps ts : List ℕ) (tag x : ℕ) where
  abbrev Own : Type 0
  Own = x ≡ fields_by (kind_of r.tag) r counts sums (tag_in d (target_in r (kind_of r.tag))) ps ts

  pub own_choice : r.tag ≡ 2 → tag ≡ tag_in d r.f2 → x ≡ choice_rule r counts.nodes tag ts → Own
  own_choice e t h =
      h ∙ ap (λ (n : ℕ). choice_rule r counts.nodes n ts) (t ∙ ap (tag_in d) (target-second r r.tag (inl e)))
      ∙ at_choice r counts sums _ ps ts e

  pub own_reference : r.tag ≡ 17 → tag ≡ tag_in d r.f4 → x ≡ reference_rule r counts.nodes tag ts → Own
  own_reference e t h =
      h ∙ ap (λ (n : ℕ). reference_rule r counts.nodes n ts) (t ∙ ap (tag_in d) (target_fourth r r.tag e))
      ∙ at_reference r counts sums _ ps ts e

-- ---- the loop

-- by the counts of a draft
pub given : (v : ℕ) (ns cs ms ds is ps ts : List ℕ) (c : EntryCounts) → c ≡ draft_counts (draft_of v ns cs ms ds is ps ts)
    → NodesFrom (draft_of v ns cs ms ds is ps ts) v ns ps ts c
given v ns cs ms ds is ps ts c e = record { version_is = refl; nodes_are = refl; payload_is = refl; strings_are = refl; counts = e }

one_container : (s : Sections) (i : ℕ) → container_of s i ≤ 1
unfolding container_of
one_container s i = go (is_container s i)
  where
    go : (b : Bool) → cond {A = ℕ} b 1 0 ≤ 1
    go true = omega arith
    go false = omega arith

few_containers : (s : Sections) (i : ℕ) → containers_before s i ≤ i
unfolding sum_of
few_containers s zero = omega arith
few_containers s (suc i) = omega (arith, few_containers s i, one_container s i)

-- the nodes before i pass, and the sums are theirs
pub record Passing (s : Sections) (entries : List ℕ) (i : ℕ) (sums : Sums) : Type 0 where
  pub none : first_of i (path_node_rule s entries) ≡ 0
  pub summed : sums ≡ sums_before s i

pub passing-start : (s : Sections) (entries : List ℕ) → Passing s entries 0 (record { children = 0; named = 0; payload = 0; containers = 0 })
unfolding first_of
passing-start s entries = record { none = refl; summed = first-sums s }

pub fields-pass : (s : Sections) (entries : List ℕ) (i : ℕ) → path_node_rule s entries i ≡ 0 → path_fields_rule s entries i ≡ 0
unfolding path_node_rule
fields-pass s entries i e = as_zero 18 (path_fields_rule s entries i) (both _ _ e).0

-- every refusal of a node is 19
rule-only : (x : ℕ) (b : Bool) → ((counts_as 19 x ▸ unless b 19) ≡ 0 → ⊥) → 19 ≡ (counts_as 19 x ▸ unless b 19)
unfolding counts_as ◌▸◌ unless
rule-only zero true q = absurd (q refl)
rule-only zero false q = refl
rule-only (suc x) b q = refl

node-only : (s : Sections) (entries : List ℕ) (i : ℕ) → (path_node_rule s entries i ≡ 0 → ⊥) → 19 ≡ path_node_rule s entries i
unfolding path_node_rule
node-only s entries i q = rule-only (path_fields_rule s entries i) (eqb i 0 || inside s (parent_of s i)) q

module _ (s : Sections) (entries : List ℕ) (i : ℕ) (sums : Sums) (p : Passing s entries i sums) where
  -- no more containers than nodes
  pub few : sums.containers ≤ i
  few =
      let h : sums.containers ≡ containers_before s i = ap (λ (u : Sums). u.containers) p.summed in
      omega (arith, few_containers s i)

  pub passing-next : (next : Sums) → path_node_rule s entries i ≡ 0 → next ≡ sums_before s (suc i) → Passing s entries (i + 1) next
  passing-next next e u = record { none = rw (add-one i) (first_next i (path_node_rule s entries) p.none e); summed = rw (add-one i) u }

  pub refused-here : (r : ℕ) → i < node_count s → r ≡ path_node_rule s entries i → (r ≡ 0 → ⊥)
      → r ≡ (first_of (node_count s) (path_node_rule s entries) ▸ unless (used_up s) 19)
  refused-here r h e d =
      refused (first_of (node_count s) (path_node_rule s entries)) (unless (used_up s) 19) r (first-broken (node_count s) i r (path_node_rule s entries) h p.none e d) d

  module _ (h : i ≤ node_count s) (k : node_count s ≤ i) where
    pub all_summed : sums ≡ sums_before s (node_count s)
    all_summed = let e : i ≡ node_count s = omega arith in p.summed ∙ ap (sums_before s) e

    past-nodes : (first_of (node_count s) (path_node_rule s entries) ▸ unless (used_up s) 19) ≡ unless (used_up s) 19
    past-nodes =
        second (first_of (node_count s) (path_node_rule s entries)) (unless (used_up s) 19) (sym (first_done (node_count s) i (path_node_rule s entries) h k p.none))

    module _ (b : Bool) (u : b ≡ used_up s) where
      pub all_used : b ≡ true → 0 ≡ (first_of (node_count s) (path_node_rule s entries) ▸ unless (used_up s) 19)
      all_used q = sym (past-nodes ∙ pass (used_up s) 19 (sym u ∙ q))

      pub left_over : b ≡ false → 19 ≡ (first_of (node_count s) (path_node_rule s entries) ▸ unless (used_up s) 19)
      left_over q = sym (past-nodes ∙ fail (used_up s) 19 (sym u ∙ q))

-- ---- what is read

module _ (v : ℕ) (ns cs ms ds is ps ts : List ℕ) where
  pub node_is : (i : ℕ) (r : NodeRecord) → r ≡ record_of v ns i → r ≡ node_in (draft_of v ns cs ms ds is ps ts) i
  node_is i r e = e ∙ node_record (draft_of v ns cs ms ds is ps ts) v ns i refl refl
