-- What the queries answer on an accepted image.
use Rattle.std.specs.Prelude.{None, Some, Ok, ℕ}
use Prim.Native.Nat.{ℕ, zero, suc, ◌+◌, ◌≤◌, ◌<◌}
use mathlib.Core.Path.{◌≡◌, refl, sym, ap, ◌∙◌, subst}
use mathlib.Core.Logic.{◌≢◌}
use mathlib.Core.Bool.{Bool, true, false, cond}
use native.Mathlib.Omega.{arith}
use native.Mathlib.Decide.{ℕ_discrete}
use borrow.Author.Tests.{eq-eqb, ne_eqb, lt-ltb, le-ltb}
use Rattle.laws.proofs.Flags.{both_true}
use Rattle.words.specs.Words.{NONE}
use Rattle.image.specs.Sections.{Sections, node_count, child_count, named_count, definition_count, item_count, definition_word, item_word, parent_of, place_of, tag_of, f, inside, is_container, inside_container}
use Rattle.image.specs.Entries.{node_in}
use Rattle.image.specs.declared.ImageView.{ImageView}
use Rattle.image.specs.Refusals.{not_found}
use Rattle.image.proofs.Tests.{inside-true}
use Rattle.image.specs.Header.{view_of, sections_by}
use Rattle.load.specs.Load.{load_rule, loaded_by, loaded_of}
use Rattle.records.specs.Fields.{kind_of}
use Rattle.definitions.specs.Definitions.{first_item, number_of_items}
use Rattle.tree.specs.Tree.{child_at, named_at}
use Rattle.tree.specs.Reach.{climb}
use Rattle.views.specs.declared.NodeView.{NodeView}
use Rattle.views.specs.View.{signed, span, optional_word, node_view}
use Rattle.views.specs.Children.{child_count_of, named_count_of, child_query, named_entry, named_query}
use Rattle.views.specs.Lists.{definition_query, item_entry, item_query}
use Rattle.views.proofs.Given.{found-given}
use Rattle.walks.specs.Walk.{resolve}
use Rattle.depth.specs.Depth.{depth_of, StepsToRoot}
use Rattle.pages.specs.Page.{no_slot, slot_of}
use Rattle.pages.proofs.Slots.{slot-missing, slot-found, slot-views}
use Rattle.depth.proofs.Steps.{of_same, climb-next, steps-parent, depth-counted, outside-none}
use Rattle.promises.specs.Promises.{ReachesRoot}
use Rattle.promises.specs.Readers.{step_up, ascend, DepthRead, ChildRead, NamedRead, Reads, NumberedItemRead, DefinitionItemRead, DefinitionRead, WalkRead, ImageReads, AcceptedReads}
use Rattle.promises.specs.Rules.{TextRight}
use Rattle.promises.proofs.Answers.{given-equal, given-refused, loaded-given}
use Rattle.promises.specs.Answers.{given, refused, of_node, of_count}
use Rattle.promises.proofs.Fields.{right-node}
use Rattle.promises.proofs.Views.{Seen, seen, shown-right}
use Rattle.promises.proofs.Nodes.{reaches, child-range, named-range, child-right, named-right}
use Rattle.promises.proofs.Premises.{Kept, load_kept, a_node}
use Rattle.promises.proofs.Entries.{item-owner}
use Rattle.promises.proofs.Whole.{right-whole, view-whole, view-read}
use Rattle.promises.proofs.Walks.{walk_inside}

-- ---- words that may be absent

word-given : (n : ℕ) → n ≢ NONE → optional_word n ≡ Some n
unfolding optional_word
word-given n d = rw (ne_eqb n NONE d)

word_none : (n : ℕ) → n ≡ NONE → optional_word n ≡ None
unfolding optional_word
word_none n e = rw (eq-eqb n NONE e)

apart : (n : ℕ) → Some n ≡ None → ⊥
apart n e = let z : ◌≡◌ {A = ℕ} 0 1 = cc in omega arith

-- ---- counts

counted : (b : Bool) (m n : ℕ) → of_count (cond b (Some m) None) ≡ given n → (b ≡ true) × (m ≡ n)
counted true m n e = (refl, given-equal m n e)
counted false m n e = absurd (given-refused 17 n e)

module _ (s : Sections) (g : Kept s) where
  -- the view of node i
  see : (i : ℕ) → i < node_count s → Seen s i
  see i h = seen s i (a_node g i h) (g.rules.fields i h)

  abbrev view_at : (i : ℕ) → i < node_count s → NodeView
  view_at i h = record { parent = optional_word (parent_of s i); child_index = optional_word (place_of s i); kind = (see i h).kind }

  container-inside : (i : ℕ) → i < node_count s → is_container s i ≡ true → inside_container s i ≡ true
  container-inside i h c = rw (right-node s i (a_node g i h), c)

  -- ---- climbing

  step_up_lem : (i : ℕ) → (h : i < node_count s) → i ≢ 0 → step_up i (node_view s i) ≡ parent_of s i
  step_up_lem i h d = rw ((see i h).view_is, word-given (parent_of s i) (g.rules.parents i h (omega arith)).container.node.given)

  stay : step_up 0 (node_view s 0) ≡ 0
  stay = rw ((see 0 g.some).view_is, word_none (parent_of s 0) g.rules.root-parent)

  at_root : (k : ℕ) → ascend s k 0 ≡ 0
  unfolding ascend
  at_root zero = refl
  at_root (suc k) = ap (ascend s k) stay ∙ at_root k

  ascends_to : (m i : ℕ) → i < node_count s → climb s m i ≡ 0 → (k : ℕ) → m ≤ k → ascend s k i ≡ 0
  unfolding climb ascend
  ascends_to zero i h e k l = ap (ascend s k) e ∙ at_root k
  ascends_to (suc m) i h e zero l = absurd (omega arith)
  ascends_to (suc m) i h e (suc k) l =
      elim (ℕ_discrete i 0) [
        | yes z ↦ ap (ascend s (suc k)) z ∙ at_root (suc k)
        | no d ↦ ap (ascend s k) (step_up_lem i h d) ∙ ascends_to m (parent_of s i) (g.rules.parents i h (omega arith)).container.node.below e k (omega arith)
      ]

  -- ---- depth

  node-inside : (i : ℕ) → i < node_count s → inside s i ≡ true
  node-inside i h = right-node s i (a_node g i h)

  -- the steps that are promised are the depth: node 0 has no parent to go on to
  promised-steps : (i : ℕ) → i < node_count s → (r : ReachesRoot s i) → StepsToRoot s i r.steps
  unfolding climb
  promised-steps i h r = record { arrives = r.arrives; before = before; nodes = nodes }
    where
      before : (k : ℕ) → k < r.steps → climb s k i ≡ 0 → ⊥
      before k l e =
          let up : climb s (suc k) i ≡ NONE = climb-next s k i ∙ ap (parent_of s) e ∙ g.rules.root-parent in
          omega (arith, up, r.inside k l, g.nodes)

      nodes : (k : ℕ) → k ≤ r.steps → inside s (climb s k i) ≡ true
      nodes zero l = node-inside i h
      nodes (suc k) l = node-inside (climb s (suc k) i) (r.inside k (omega arith))

  -- as long as node 0 is not reached, a step by views goes to the parent word
  ascend-climb : (k d i : ℕ) → StepsToRoot s i d → k ≤ d → ascend s k i ≡ climb s k i
  unfolding climb ascend
  ascend-climb zero d i t l = refl
  ascend-climb (suc k) zero i t l = absurd (omega arith)
  ascend-climb (suc k) (suc d) i t l =
      let below : i < node_count s = (inside-true (node_count s) i (t.nodes 0 (omega arith))).0 in
      ap (ascend s k) (step_up_lem i below (t.before 0 (omega arith))) ∙ ascend-climb k d (parent_of s i) (steps-parent s i d t) (omega arith)

  depth-read : (i : ℕ) → i < node_count s → DepthRead s i
  depth-read i h =
      let r = reaches s g i h in
      let t = promised-steps i h r in
      record {
        depth = r.steps;
        found = ap of_count (depth-counted s i r.steps t);
        few = r.few;
        arrives = ascend-climb r.steps r.steps i t (omega arith) ∙ t.arrives;
        before = λ k l e. t.before k l (sym (ascend-climb k r.steps i t (omega arith)) ∙ e);
        promised = λ q. of_same q.steps r.steps (sym (depth-counted s i q.steps (promised-steps i h q)) ∙ depth-counted s i r.steps t);
      }

  no_depth : (i : ℕ) → node_count s ≤ i → of_count (depth_of s i) ≡ refused not_found
  unfolding depth_of
  no_depth i h = ap of_count (outside-none s (node_count s) i (rw (le-ltb i (node_count s) h)))

  no_slot_lem : (i : ℕ) → node_count s ≤ i → slot_of s i ≡ no_slot
  unfolding node_view
  no_slot_lem i h = sym (slot-missing s i (rw (le-ltb i (node_count s) h)))

  -- ---- children

  module _ (i : ℕ) (h : i < node_count s) where
    parent-shown : (x : ℕ) → parent_of s x ≡ i → optional_word (parent_of s x) ≡ Some i
    parent-shown x e = ap optional_word e ∙ word-given i (a_node g i h).given

    child-read : is_container s i ≡ true → (j : ℕ) → j < f s i 4 → ChildRead s i j
    unfolding child_query
    child-read c j k =
        let q = child-right s g i h c j k in
        let range : f s i 3 + f s i 4 ≤ child_count s = (child-range s g i h c).0 in
        record {
          child = child_at s i j;
          found = rw (container-inside i h c, lt-ltb j (f s i 4) k, lt-ltb (f s i 3 + j) (child_count s) (omega arith));
          view = view_at (child_at s i j) q.node.below;
          viewed = ap of_node (see (child_at s i j) q.node.below).view_is;
          parent = parent-shown (child_at s i j) q.parent;
          place = ap optional_word q.place ∙ word-given j (λ e. omega (arith, g.children));
        }

    named-read : is_container s i ≡ true → (j : ℕ) → j < f s i 6 → NamedRead s i j
    unfolding named_query named_entry
    named-read c j k =
        let q = named-right s g i h c j k in
        let range : f s i 5 + f s i 6 ≤ named_count s = (named-range s g i h c).0 in
        record {
          child = record { name = span (named_at s i j 0) (named_at s i j 1); node = named_at s i j 2 };
          found =
              rw (
                container-inside i h c,
                lt-ltb j (f s i 6) k,
                lt-ltb (f s i 5 + j) (named_count s) (omega arith),
                shown-right s (named_at s i j 0) (named_at s i j 1) q.text,
              );
          name = right-whole s (named_at s i j 0) (named_at s i j 1) q.text;
          view = view_at (named_at s i j 2) q.container.node.below;
          viewed = ap of_node (see (named_at s i j 2) q.container.node.below).view_is;
          parent = parent-shown (named_at s i j 2) q.parent;
        }

    -- ---- all of it

    pub reads : Reads s i
    unfolding child_count_of named_count_of
    reads =
        let v = see i h in
        let up = reaches s g i h in
        record {
          view = view_at i h;
          viewed = ap of_node v.view_is;
          texts = view-whole s i (kind_of (tag_of s i)) v.kind (g.rules.fields i h) v.kind_is;
          lists = view-read s i (kind_of (tag_of s i)) v.kind (g.rules.fields i h) v.kind_is;
          slot = sym (slot-found s i (view_at i h) (sym v.view_is) (node_in s i) refl);
          slot-viewed = ap of_node (slot-views s i ∙ v.view_is);
          ascends = λ k l. ascends_to up.steps i h up.arrives k (omega (arith, up.few));
          parentless = λ e. elim (ℕ_discrete i 0) [
            | yes z ↦ z
            | no d ↦ absurd (apart (parent_of s i) (sym (word-given (parent_of s i) (g.rules.parents i h (omega arith)).container.node.given) ∙ e))
          ];
          depth = depth-read i h;
          child-count = λ c. rw (container-inside i h c);
          named_count_lem = λ c. rw (container-inside i h c);
          child = λ n e j k.
              let q = counted (inside_container s i) (f s i 4) n e in
              child-read (both_true (inside s i) (is_container s i) q.0).1 j (omega (arith, q.1));
          named = λ n e j k.
              let q = counted (inside_container s i) (f s i 6) n e in
              named-read (both_true (inside s i) (is_container s i) q.0).1 j (omega (arith, q.1));
        }

-- ---- definitions and items

module _ (s : Sections) (g : Kept s) where
  item-read : (k : ℕ) → k < item_count s → TextRight s (item_word s k 0) (item_word s k 1) → NumberedItemRead s k
  unfolding item_entry
  item-read k h t =
      record {
        item = record { name = span (item_word s k 0) (item_word s k 1); value = signed (item_word s k 2) };
        found = rw (lt-ltb k (item_count s) h, shown-right s (item_word s k 0) (item_word s k 1) t);
        name = right-whole s (item_word s k 0) (item_word s k 1) t;
      }

  each_item : (k : ℕ) → k < item_count s → NumberedItemRead s k
  each_item k h =
      let o = item-owner s g k h in
      item-read k h (subst (λ (x : ℕ). TextRight s (item_word s x 0) (item_word s x 1)) (sym o.there) o.right.text)

  definition-item : (d : ℕ) → d < definition_count s → (j : ℕ) → j < number_of_items s d → DefinitionItemRead s d j
  unfolding item_query
  definition-item d h j l =
      let q = g.rules.definitions d h in
      let r = item-read (first_item s d + j) (omega (arith, q.inside)) (q.items j l).text in
      record { item = r.item; found = rw (lt-ltb d (definition_count s) h, lt-ltb j (number_of_items s d) l) r.found; name = r.name }

  definition-read : (d : ℕ) → d < definition_count s → DefinitionRead s d
  unfolding definition_query
  definition-read d h =
      let q = g.rules.definitions d h in
      record {
        definition = record { name = span (definition_word s d 0) (definition_word s d 1); items = number_of_items s d };
        found = rw (lt-ltb d (definition_count s) h, shown-right s (definition_word s d 0) (definition_word s d 1) q.text);
        name = right-whole s (definition_word s d 0) (definition_word s d 1) q.text;
        items = definition-item d h;
      }

  -- ---- where a walk ends

  walk-read : (n : ℕ) → n < node_count s → WalkRead s n
  walk-read n h = record { inside = h; view = view_at s g n h; viewed = ap of_node (see s g n h).view_is }

  -- ---- all of it

  pub image-reads : ImageReads s
  image-reads =
      record {
        nodes = reads s g;
        walks = λ relative origin cs n e. walk-read n (walk_inside s g relative origin cs n (found-given (resolve s relative origin cs) n e));
        absolute-walk = λ origin cs. unfold resolve in rw (node-inside s g 0 g.some, eq-eqb (tag_of s 0) 1 g.rules.root-container);
        no_walk = λ origin h cs. unfold resolve in rw (le-ltb origin (node_count s) h);
        no_depth = no_depth s g;
        no_slot_lem = no_slot_lem s g;
        definitions = definition-read;
        items = each_item;
      }

-- ---- after a load

-- a view is answered where nothing was refused, and is the header's
pub answered : (n : ℕ) (w v : ImageView) → loaded_by n w ≡ Ok v → (n ≡ 0) × (w ≡ v)
answered zero w v e = (refl, cc)
answered (suc n) w v e = absurd (let z : ◌≡◌ {A = ℕ} 0 1 = cc in omega arith)

pub accepted-reads : AcceptedReads
unfolding loaded_of
accepted-reads bs work v b e =
    let a = answered (load_rule bs work) (view_of bs) v (loaded-given (loaded_of bs work) v e) in
    subst (λ (x : ImageView). ImageReads (sections_by bs x)) a.1 (image-reads (sections_by bs (view_of bs)) (load_kept bs work b a.0))
