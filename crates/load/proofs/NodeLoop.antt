-- The loop over the nodes: what it is told of each node, and what it has shown when it has passed some.
use Rattle.std.specs.Prelude.{Err, Ok, ℕ}
use Prim.Native.Nat.{ℕ, zero, suc, ◌+◌, ◌/◌, ◌≤◌, ◌<◌}
use mathlib.Core.Path.{◌≡◌, refl, sym, ap, ◌∙◌}
use mathlib.Core.List.{List, []}
use mathlib.Core.Bool.{Bool, true, false, cond}
use native.Mathlib.Omega.{arith}
use native.Mathlib.Numerals.{add-one}
use lib.ListN.{length}
use Rattle.laws.specs.Refusal.{first_of, ◌▸◌}
use Rattle.laws.specs.Counted.{sum_of}
use Rattle.laws.proofs.First.{first_next, both, second}
use Rattle.words.specs.Words.{words_of}
use Rattle.image.specs.declared.EntryCounts.{EntryCounts}
use Rattle.image.specs.declared.ImageView.{ImageView}
use Rattle.image.specs.declared.NodeRecord.{NodeRecord}
use Rattle.image.specs.Sections.{Sections, node_words, node_size, node_count, node_word, is_container}
use Rattle.image.specs.Entries.{node_in, record_of}
use Rattle.image.specs.Header.{section_bytes, sections_by}
use Rattle.image.proofs.Entries.{node_record}
use Rattle.image.proofs.Views.{version_by, nodes_by_lem, payload_by, strings_by}
use Rattle.records.specs.declared.Sums.{Sums}
use Rattle.records.specs.Fields.{kind_of}
use Rattle.records.specs.Records.{target_in, node_rule, parent_rule, fields_rule, container_of, containers_before}
use Rattle.records.specs.Shown.{Shows, ShowsParent, tag_in, counts_of, sums_before, parent_by, fields_by}
use Rattle.laws.proofs.Chains.{refused, first-broken, first_done}
use Rattle.records.proofs.PassedRules.{first-sums}
use Rattle.tree.specs.Parts.{parts_of}
use Rattle.records.proofs.ByKind.{counts-kept, shown-parent, shown-fields}
use Rattle.load.specs.Nodes.{ReadFrom, node_by, nodes_by, nodes_of}
use Rattle.load.proofs.SectionReads.{node-total}

-- the rules of a node, by what the code finds of its parent and of its target
module _ (version : ℕ) (ns ps ts : List ℕ) (c : EntryCounts) (u : Sums) (i : ℕ) (r : NodeRecord) (parent q : ℕ)
    (e : parent ≡ tag_in (parts_of version ns [] [] []) r.parent) (h : q ≡ parent_by i r c.nodes parent) where
  first-rule : q ≡ parent_by i r c.nodes (tag_in (parts_of version ns [] [] []) r.parent)
  first-rule = h ∙ ap (parent_by i r c.nodes) e

  pub parent-broken : (q ≡ 0 → ⊥) → q ≡ node_by version ns ps ts c u i r
  unfolding node_by
  parent-broken d = refused (parent_by i r c.nodes (tag_in (parts_of version ns [] [] []) r.parent)) _ q first-rule d

  pub parent-kept : q ≡ 0 → (target tag x : ℕ) → target ≡ target_in r (kind_of r.tag) → tag ≡ tag_in (parts_of version ns [] [] []) target
      → x ≡ fields_by (kind_of r.tag) r c u tag ps ts → x ≡ node_by version ns ps ts c u i r
  unfolding node_by
  parent-kept z target tag x t k f =
      f
      ∙ ap (λ (y : ℕ). fields_by (kind_of r.tag) r c u y ps ts) (k ∙ ap (tag_in (parts_of version ns [] [] [])) t)
      ∙ sym (second (parent_by i r c.nodes (tag_in (parts_of version ns [] [] []) r.parent)) _ (sym first-rule ∙ z))

module _ (s : Sections) (i : ℕ) (version : ℕ) (ns ps ts : List ℕ) (counts : EntryCounts) (r : NodeRecord) (g : ReadFrom s version ns ps ts counts) (node : r ≡ node_in s i) where
  pub parent-told : (tag : ℕ) → tag ≡ tag_in s r.parent → ShowsParent s i r counts.nodes tag
  parent-told tag e = record { node = node; count = ap (λ (c : EntryCounts). c.nodes) g.counts; parent = e ∙ ap (λ (x : NodeRecord). tag_in s x.parent) node }

  pub fields_told : (sums : Sums) (target tag : ℕ) → sums ≡ sums_before s i → target ≡ target_in r (kind_of r.tag) → tag ≡ tag_in s target
      → Shows s i r counts sums tag ps ts
  fields_told sums target tag u t e =
      record {
        node = node;
        counts = counts-kept s counts _ _ g.counts;
        sums = u;
        target = e ∙ ap (tag_in s) (t ∙ ap (λ (x : NodeRecord). target_in x (kind_of x.tag)) node);
        payload = sym g.payload_is;
        strings = sym g.strings_are;
      }

  -- a tag out of the nodes' bytes
  tag_read : (n : ℕ) → tag_in (parts_of version ns [] [] []) n ≡ tag_in s n
  unfolding tag_in node_word
  tag_read n = rw (g.versioned, g.nodes_are)

  -- what is read of a node decides its rules
  pub shown-node : (sums : Sums) → sums ≡ sums_before s i → node_by version ns ps ts counts sums i r ≡ node_rule s i
  unfolding node_by node_rule
  shown-node sums u =
      let kind = kind_of r.tag in
      let parent = shown-parent s i r counts.nodes _ (parent-told _ (tag_read r.parent)) in
      let fields = shown-fields s i r counts sums _ ps ts (fields_told sums (target_in r kind) _ u refl (tag_read (target_in r kind))) in
      λ j. parent j ▸ fields j

-- the sections of a view are read from its parts
pub read-from : (bs : List ℕ) (v : ImageView) (ns ps ts : List ℕ) (counts : EntryCounts) → ns ≡ section_bytes bs v.nodes (node_size v.version)
    → ps ≡ section_bytes bs v.payload 1 → ts ≡ section_bytes bs v.strings 1 → counts ≡ counts_of (sections_by bs v)
    → ReadFrom (sections_by bs v) v.version ns ps ts counts
read-from bs v ns ps ts counts n p t c =
    record {
      versioned = version_by bs v;
      nodes_are = nodes_by_lem bs v ∙ ap words_of (sym n);
      payload_is = payload_by bs v ∙ sym p;
      strings_are = strings_by bs v ∙ sym t;
      counts = c;
    }

-- the nodes before i pass, and the sums are theirs
pub record Passing (s : Sections) (i : ℕ) (sums : Sums) : Type 0 where
  pub none : first_of i (node_rule s) ≡ 0
  pub summed : sums ≡ sums_before s i

pub passing-start : (s : Sections) → Passing s 0 (record { children = 0; named = 0; payload = 0; containers = 0 })
unfolding first_of
passing-start s = record { none = refl; summed = first-sums s }

-- ---- one node more

-- no more containers than nodes
containers_few : (s : Sections) (i : ℕ) → containers_before s i ≤ i
unfolding sum_of container_of
containers_few s zero = omega arith
containers_few s (suc i) = one_more_lem (is_container s i) (containers_few s i)
  where
    one_more_lem : (b : Bool) → containers_before s i ≤ i → containers_before s i + cond b 1 0 ≤ suc i
    one_more_lem true h = omega arith
    one_more_lem false h = omega arith

module _ (s : Sections) (i : ℕ) (sums : Sums) (p : Passing s i sums) where
  pub few : sums.containers ≤ i
  few = let h : sums.containers ≡ containers_before s i = ap (λ (u : Sums). u.containers) p.summed in omega (arith, containers_few s i)

  pub passing-next : (next : Sums) → node_rule s i ≡ 0 → next ≡ sums_before s (suc i) → Passing s (i + 1) next
  passing-next next e u =
      record {
        none = rw (add-one i) (first_next i (node_rule s) p.none e);
        summed = rw (add-one i) u;
      }

  refused_by : (r : ℕ) → (r ≡ 0 → ⊥) → Err r ≡ nodes_by r s
  refused_by zero d = absurd (d refl)
  refused_by (suc r) d = refl

  pub refused-here : (r : ℕ) → i < node_count s → r ≡ node_rule s i → (r ≡ 0 → ⊥) → Err r ≡ nodes_of s
  unfolding nodes_of
  refused-here r h e d = refused_by r d ∙ ap (λ (x : ℕ). nodes_by x s) (first-broken (node_count s) i r (node_rule s) h p.none e d)

  pub all_passed : i ≤ node_count s → node_count s ≤ i → Ok sums ≡ nodes_of s
  unfolding nodes_of
  all_passed h k =
      let e : i ≡ node_count s = omega arith in
      ap Ok (p.summed ∙ ap (sums_before s) e) ∙ ap (λ (x : ℕ). nodes_by x s) (first_done (node_count s) i (node_rule s) h k p.none)

-- where a node's rules pass, so do those of its fields
pub fields-pass : (s : Sections) (i : ℕ) → node_rule s i ≡ 0 → fields_rule s i ≡ 0
unfolding node_rule
fields-pass s i e = (both (parent_rule s i) (fields_rule s i) e).1

module _ (s : Sections) (version : ℕ) (ns ps ts : List ℕ) (counts : EntryCounts) (g : ReadFrom s version ns ps ts counts) where
  pub total : counts.nodes ≡ node_count s
  total = ap (λ (c : EntryCounts). c.nodes) g.counts

  pub node-below : (i : ℕ) → i < counts.nodes → i < node_count s
  node-below i h = rw total at h

  pub node-upto : (i : ℕ) → i ≤ counts.nodes → i ≤ node_count s
  node-upto i h = rw total at h

  pub node-past : (i : ℕ) → counts.nodes ≤ i → node_count s ≤ i
  node-past i h = rw total at h

  pub node-there : (i : ℕ) → i < counts.nodes → i < length (words_of ns) / node_words version
  node-there i h = rw (total ∙ node-total s version ns i g.versioned g.nodes_are) at h

  pub node_is : (i : ℕ) (r : NodeRecord) → r ≡ record_of version (words_of ns) i → r ≡ node_in s i
  node_is i r e = e ∙ node_record s version (words_of ns) i g.versioned g.nodes_are
