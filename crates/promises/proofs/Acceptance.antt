-- Acceptance in plain words: a load with enough work words accepts exactly the bytes that break none of its rules.
use Prim.Native.Nat.{ℕ, ◌≤◌, ◌<◌}
use mathlib.Core.Path.{◌≡◌}
use mathlib.Core.List.{List}
use mathlib.Core.Bool.{true}
use native.Mathlib.Omega.{arith}
use lib.Dec.{eqb, leb}
use borrow.Author.Tests.{eq-eqb, le-leb, eqb-true, leb-true}
use Rattle.laws.specs.Refusal.{unless, first_of}
use Rattle.laws.proofs.First.{both, then, passed, pass, first_all, first_of_lem}
use Rattle.laws.proofs.Flags.{both_true}
use Rattle.words.specs.Words.{word_at}
use Rattle.texts.proofs.Text.{same-equal, equal-same}
use Rattle.image.specs.Sections.{Sections, node_count, index_count, index_word, tag_of}
use Rattle.image.specs.Header.{header_rule, sections_of, first_ink_version, ink_version_at, last_ink_version}
use Rattle.image.proofs.OpenedHeader.{Opens, opens, opens_of, view-counts, view-node}
use Rattle.records.specs.Records.{containers_before, node_rule, parent_rule, fields_rule, root_right, used_up}
use Rattle.records.proofs.PassedRules.{root, used_up_lem, used_up_of}
use Rattle.tree.specs.Tree.{child_at, named_at, child_rule, named_rule, tree_rule}
use Rattle.tree.specs.Reach.{Climbs}
use Rattle.tree.proofs.Entries.{children-pass, named-pass, entries-pass}
use Rattle.tree.proofs.PlainTree.{tree-right, right-tree}
use Rattle.tree.proofs.ParentSteps.{tree-climbs}
use Rattle.index.specs.Index.{index_text, index_rule}
use Rattle.definitions.specs.Definitions.{definitions_rule}
use Rattle.index.proofs.Paths.{fits_one, path-fits}
use Rattle.index.proofs.Index.{index-passed, index-passes}
use Rattle.definitions.proofs.Definitions.{definitions-passed, definitions-pass}
use Rattle.load.specs.Load.{checksum_rule, leftover_rule, records_rule, sections_rule, load_words, load_rule, Accepted}
use Rattle.promises.specs.Rules.{ChildRight, NamedRight, SectionsRight, HeaderRight, BreaksNone, DivertFlags, AcceptedExactly, LoadsExactly, LoadsEnough}
use Rattle.promises.proofs.Fields.{text-right, right-text, node-right, right-node, container-right, right-container, fields-right, right-fields, parent-right, right-parent}
use Rattle.promises.proofs.Way.{path-right, right-path}

-- ---- a container's entries

module _ (s : Sections) (i j : ℕ) where
  pub right_child : ChildRight s i j → child_rule s i j ≡ 0
  unfolding child_rule
  right_child r = pass _ 14 (rw (right-node s (child_at s i j) r.node, eq-eqb _ _ r.parent, eq-eqb _ _ r.place))

  pub right-named : NamedRight s i j → named_rule s i j ≡ 0
  unfolding named_rule
  right-named r =
      then _ _ (pass _ 14 (right-text s _ _ r.text))
      (then _ _ (pass _ 14 r.order) (then _ _ (pass _ 9 (right-container s _ r.container)) (pass _ 14 (eq-eqb _ _ r.parent))))

-- ---- rows 8 to 17

-- the rules one by one
pub record RowsPassed (s : Sections) : Type 0 where
  pub root-right : root_right s ≡ true
  pub nodes : first_of (node_count s) (node_rule s) ≡ 0
  pub used : used_up s ≡ true
  pub containers : containers_before s (node_count s) ≡ index_count s
  pub tree : tree_rule s ≡ 0
  pub index : index_rule s ≡ 0
  pub definitions : definitions_rule s ≡ 0

module _ (s : Sections) where
  rows : sections_rule s ≡ 0 → RowsPassed s
  unfolding sections_rule records_rule leftover_rule
  rows p =
      let d = both (records_rule s) _ p in
      let a = both _ _ d.0 in
      let b = both (first_of (node_count s) (node_rule s)) _ a.1 in
      let e = both (tree_rule s) _ d.1 in
      let h = both (index_rule s) _ e.1 in
      let left = both_true (used_up s) (eqb (containers_before s (node_count s)) (index_count s)) (passed _ 12 b.1) in
      record {
        root-right = passed _ 7 a.0;
        nodes = b.0;
        used = left.0;
        containers = eqb-true _ _ left.1;
        tree = e.0;
        index = h.0;
        definitions = h.1;
      }

  all_rows : RowsPassed s → sections_rule s ≡ 0
  unfolding sections_rule records_rule leftover_rule
  all_rows p =
      then _ _
      (then _ _ (pass _ 8 p.root-right) (then _ _ p.nodes (pass _ 13 (rw (p.used, eq-eqb _ _ p.containers)))))
      (then _ _ p.tree (then _ _ p.index p.definitions))

  -- the parent's rule and the fields'
  node-parts : RowsPassed s → (i : ℕ) → i < node_count s → (parent_rule s i ≡ 0) × (fields_rule s i ≡ 0)
  unfolding node_rule
  node-parts p i h = both _ _ (first_all (node_count s) (node_rule s) p.nodes i h)

  -- parent steps lead to the root
  inside-climbs : RowsPassed s → (i : ℕ) → i < node_count s → Climbs s (node_count s) i
  inside-climbs p i h = tree-climbs s (omega arith) p.tree i h

  sections-right : RowsPassed s → SectionsRight s
  sections-right p =
      let r = root s p.root-right in
      let u = used_up_lem s p.used in
      let defined = definitions-passed s p.definitions in
      record {
        root-parent = r.parent;
        root-place = r.place;
        root-container = r.tag;
        parents = λ i h k. parent-right s i k (node-parts p i h).0;
        fields = λ i h. fields-right s i (node-parts p i h).1;
        children-used = u.children;
        named-used = u.named;
        payload-used = u.payload;
        index-used = p.containers;
        reached = λ i h. (tree-right s p.tree i h).reached;
        child = λ i h j k.
            let q = children-pass s i (tree-right s p.tree i h).entries j k in
            record { node = node-right s (child_at s i j) q.within; parent = q.parent; place = q.place };
        entry = λ i h j k.
            let q = named-pass s i (tree-right s p.tree i h).entries j k in
            record {
              text = text-right s _ _ q.text;
              order = q.order;
              container = record { node = node-right s (named_at s i j 2) q.within; container = eqb-true (tag_of s (named_at s i j 2)) 1 q.container };
              parent = q.parent;
            };
        index = λ j h.
            let q = index-passed s p.index j h in
            let c = container-right s _ q.target in
            let fit = fits_one s (index_word s j 2) (index_text s j) q.fit in
            record {
              text = text-right s _ _ q.text;
              container = c;
              order = q.order;
              path = fit.1;
              way = path-right s (index_word s j 2) (inside-climbs p (index_word s j 2) c.node.below) fit.0;
            };
        definitions = λ d h.
            let q = defined.each d h in
            record {
              text = text-right s _ _ q.text;
              order = q.order;
              inside = q.inside;
              start = q.start;
              items = λ j k. record { text = text-right s _ _ (q.items j k).text; order = (q.items j k).order };
            };
        items-used = defined.used_up_lem;
      }

  pub right-sections : 0 < node_count s → SectionsRight s → RowsPassed s
  right-sections some r =
      record {
        root-right = unfold root_right in rw (eq-eqb _ _ r.root-parent, eq-eqb _ _ r.root-place, eq-eqb _ _ r.root-container);
        nodes = first_of_lem (node_count s) (node_rule s) (λ i h. unfold node_rule in then _ _ (right-parent s i (r.parents i h)) (right-fields s i (r.fields i h)));
        used = used_up_of s (record { children = r.children-used; named = r.named-used; payload = r.payload-used });
        containers = r.index-used;
        tree = right-tree s (record { some = some; children = r.children-used; named = r.named-used })
            (λ i h. entries-pass s i (λ j k. right_child s i j (r.child i h j k)) (λ j k. right-named s i j (r.entry i h j k))) r.reached;
        index = index-passes s (λ j h.
            let q = r.index j h in
            record {
              text = right-text s _ _ q.text;
              target = right-container s _ q.container;
              order = q.order;
              fit = path-fits s (index_word s j 2) (index_text s j) (right-path s (index_word s j 2) q.way) q.path;
            });
        definitions = definitions-pass s (record {
          each = λ d h.
              let q = r.definitions d h in
              record {
                text = right-text s _ _ q.text;
                order = q.order;
                inside = q.inside;
                start = q.start;
                items = λ j k. record { text = right-text s _ _ (q.items j k).text; order = (q.items j k).order };
              };
          used_up_lem = r.items-used;
        });
      }

-- ---- the header

module _ (bs : List ℕ) where
  header-right : Opens bs → HeaderRight bs
  header-right o =
      let ink = both_true (leb first_ink_version (word_at bs ink_version_at)) _ o.inked in
      record {
        long = o.long;
        magic-first = same-equal _ _ o.marked;
        versioned = eqb-true _ _ o.versioned;
        ink_least = leb-true _ _ ink.0;
        ink_most = leb-true _ _ ink.1;
        total = o.total;
        begins = o.begins;
        ends = o.ends;
        whole = o.whole;
        node = o.node;
      }

  pub right-header : HeaderRight bs → Opens bs
  right-header r =
      record {
        long = r.long;
        marked = equal-same _ _ r.magic-first;
        versioned = eq-eqb _ _ r.versioned;
        inked = rw (le-leb first_ink_version (word_at bs ink_version_at) r.ink_least, le-leb (word_at bs ink_version_at) last_ink_version r.ink_most);
        total = r.total;
        begins = r.begins;
        ends = r.ends;
        whole = r.whole;
        node = r.node;
      }

pub divert_flags_lem : DivertFlags
divert_flags_lem flags = (λ h. (omega arith, omega arith), λ h. omega (arith, h.0, h.1))

-- ---- all bytes

module _ (bs : List ℕ) where
  -- there is a node
  pub some-node : Opens bs → 0 < node_count (sections_of bs)
  some-node o = omega (arith, (view-counts bs o).nodes, view-node bs o)

  pub accepted-right : Accepted bs → BreaksNone bs
  unfolding checksum_rule
  accepted-right p =
      let a = both (header_rule bs) _ p in
      let b = both (checksum_rule bs) _ a.1 in
      record {
        header = header-right bs (opens bs a.0);
        checksum = eqb-true _ _ (passed _ 5 b.0);
        sections = sections-right (sections_of bs) (rows (sections_of bs) b.1);
      }

  -- the rules on its sections, one by one
  pub accepted-passed : Accepted bs → RowsPassed (sections_of bs)
  accepted-passed p = rows (sections_of bs) (both (checksum_rule bs) _ (both (header_rule bs) _ p).1).1

  pub right-accepted : BreaksNone bs → Accepted bs
  unfolding checksum_rule
  right-accepted r =
      then _ _ (opens_of bs (right-header bs r.header))
      (then _ _ (pass _ 6 (eq-eqb _ _ r.checksum)) (all_rows (sections_of bs) (right-sections (sections_of bs) (some-node (right-header bs r.header)) r.sections)))

  -- whatever the work words
  pub load-accepted : (work : ℕ) → load_rule bs work ≡ 0 → Accepted bs
  unfolding load_rule
  load-accepted work p =
      let a = both (header_rule bs) _ p in
      let b = both (checksum_rule bs) _ a.1 in
      then _ _ a.0 (then _ _ b.0 (both (unless (leb (load_words (sections_of bs)) work) 7) _ b.1).1)

  pub accepted-load : (work : ℕ) → load_words (sections_of bs) ≤ work → Accepted bs → load_rule bs work ≡ 0
  unfolding load_rule
  accepted-load work h p =
      let a = both (header_rule bs) _ p in
      let b = both (checksum_rule bs) _ a.1 in
      then _ _ a.0 (then _ _ b.0 (then _ _ (pass _ 7 (le-leb _ _ h)) b.1))

  pub load-enough : (work : ℕ) → load_rule bs work ≡ 0 → load_words (sections_of bs) ≤ work
  unfolding load_rule
  load-enough work p = leb-true _ _ (passed _ 6 (both _ _ (both (checksum_rule bs) _ (both (header_rule bs) _ p).1).1).0)

-- ---- the theorems

pub accepted-exactly : AcceptedExactly
accepted-exactly bs = (accepted-right bs, right-accepted bs)

pub loads-exactly : LoadsExactly
loads-exactly bs work h = (λ p. accepted-right bs (load-accepted bs work p), λ r. accepted-load bs work h (right-accepted bs r))

pub loads-enough : LoadsEnough
loads-enough bs work p = load-enough bs work p
