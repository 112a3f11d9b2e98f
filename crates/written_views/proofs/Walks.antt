-- A walk in a written image ends at the counterpart of where it ends in the draft.
use Rattle.std.specs.Prelude.{None, Option, Some, ℕ}
use Prim.Native.Nat.{ℕ, suc, ◌<◌}
use mathlib.Core.Path.{◌≡◌, refl, sym, ap, ◌∙◌}
use mathlib.Core.List.{List, [], ◌∷◌}
use mathlib.Core.Bool.{Bool, true, false, cond, ◌||◌, not}
use native.Mathlib.Omega.{arith}
use native.Mathlib.Nat.{not-suc-le-zero, le_of_suc-le-suc}
use native.Mathlib.Decide.{dec_lt}
use lib.ListN.{length}
use lib.Dec.{eqb}
use borrow.Author.Tests.{le-ltb}
use Rattle.laws.specs.Lists.{has, place_in}
use Rattle.laws.proofs.Flags.{both_true}
use Rattle.laws.proofs.Places.{place_get}
use Rattle.words.specs.Words.{NONE, is_none}
use Rattle.image.specs.Sections.{Sections, node_count, parent_of, f, inside, is_container, inside_container}
use Rattle.image.proofs.Tests.{inside-true}
use Rattle.records.specs.Records.{number_of_named}
use Rattle.records.proofs.PassedRules.{ranges}
use Rattle.tree.proofs.PlainTree.{tree-right}
use Rattle.draft.specs.Numbering.{old_of, new_of}
use Rattle.views.specs.Children.{child_query}
use Rattle.lookups.specs.Lookup.{find_named}
use Rattle.lookups.specs.Plain.{HasName, NodeNamed, NamedLookup}
use Rattle.lookups.proofs.Plain.{named-read}
use Rattle.walks.specs.Walk.{Component, Parent, Index, Name, Broken, parent_query, step, resolve}
use Rattle.walks.proofs.SameWalks.{found_as, RenumberedSteps, renumbered-walks}
use Rattle.promises.specs.Answers.{of_found}
use Rattle.promises.proofs.Fields.{right-node}
use Rattle.draft_image.proofs.Blocks.{w}
use Rattle.written.proofs.Fields.{Given, counted, few, old_in, inside_lt, inside-written, inside_new, parent-word, container-same}
use Rattle.written.proofs.Rules.{named_are, node-fields}
use Rattle.written.proofs.Tree.{named_at_lem, named-text, tree-kept}
use Rattle.written_views.specs.Views.{renumbered_answer}
use Rattle.written_views.proofs.Texts.{none-same, new_placed, numbers-same}
use Rattle.written_views.proofs.Nodes.{inside-same, children-same, entries-same, child-same}

-- a place in the list is that of a number that it has
place_has : (xs : List ℕ) (i : ℕ) → place_in xs i < length xs → has i xs ≡ true
unfolding has place_in
place_has [] i h = absurd (not-suc-le-zero h)
place_has (x ∷ xs) i h = go (eqb i x) h (place_has xs i)
  where
    go : (b : Bool) → cond b 0 (suc (place_in xs i)) < suc (length xs) → (place_in xs i < length xs → has i xs ≡ true) → (b || has i xs) ≡ true
    go true l r = refl
    go false l r = r (le_of_suc-le-suc l)

-- no step leads from what is no node
nowhere : (s : Sections) (i : ℕ) → inside s i ≡ false → (c : Component) → step s i c ≡ None
unfolding step parent_query child_query find_named
nowhere s i e Parent = rw e
nowhere s i e (Index k) = rw e
nowhere s i e (Name name) = rw e
nowhere s i e Broken = refl

module _ {s : Sections} {order : List ℕ} {kept : List (List ℕ)} (g : Given s order kept) where
  abbrev t : Sections
  t = w s order kept

  abbrev found : Option ℕ → Option ℕ
  found x = found_as (new_of order) x

  -- ---- numbers: what is no node of the draft has no node as counterpart

  old_below : (i : ℕ) → inside t (new_of order i) ≡ true → i < node_count s
  old_below i q = by (is_none i) refl
    where
      new : (new_of order i < node_count t) × (new_of order i ≡ NONE → ⊥)
      new = inside-true (node_count t) (new_of order i) q

      by : (b : Bool) → is_none i ≡ b → i < node_count s
      by true e = absurd (new.1 (unfold new_of in rw e))
      by false e =
          let there : place_in order i < node_count s = omega (arith, new.0, new_placed g i e, counted g) in
          let back = (place_get order i (place_has order i (omega (arith, g.numbered.len)))).0 in
          omega (arith, old_in g (place_in order i) there, back)

  node : (i : ℕ) → i < node_count s → inside s i ≡ true
  node i h = right-node s i (record { below = h; given = λ e. omega (arith, few g) })

  nodes-same : (i : ℕ) → inside t (new_of order i) ≡ inside s i
  nodes-same i = by (inside s i) refl (inside t (new_of order i)) refl
    where
      by : (b : Bool) → inside s i ≡ b → (c : Bool) → inside t (new_of order i) ≡ c → c ≡ b
      by true e c q = sym q ∙ inside_new g i (inside_lt g i e)
      by false e true q = sym (node i (old_below i q)) ∙ e
      by false e false q = refl

  -- ---- a step from the image's node j

  module _ (j : ℕ) (h : j < node_count s) where
    abbrev i : ℕ
    i = old_of order j

    parent-same : parent_query t j ≡ found (parent_query s i)
    unfolding parent_query
    parent-same = rw (inside-written g j h, node i (old_in g j h), parent-word g j h, none-same g (parent_of s i)) (by (is_none (parent_of s i)))
      where
        by : (b : Bool) → cond (not b) (Some (new_of order (parent_of s i))) None ≡ found (cond (not b) (Some (parent_of s i)) None)
        by true = refl
        by false = refl

    index_same : (k : ℕ) → child_query t j k ≡ found (child_query s i k)
    index_same k = by (inside_container s i) refl (dec_lt k (f s i 4))
      where
        by : (b : Bool) → inside_container s i ≡ b → Dec (k < f s i 4) → child_query t j k ≡ found (child_query s i k)
        by false e d = unfold child_query in rw (inside-same g j h, e)
        by true e (yes l) = let x = child-same g j h e k l in x.written ∙ sym (ap found x.drafted)
        by true e (no l) = unfold child_query in rw (inside-same g j h, e, children-same g j h e, le-ltb k (f s i 4) (omega arith))

    -- ---- by name

    module _ (c : inside_container s i ≡ true) where
      box : is_container s i ≡ true
      box = (both_true (inside s i) (is_container s i) c).1

      there : inside_container t j ≡ true
      there = inside-same g j h ∙ c

      draft-names : NamedLookup s i
      draft-names = named-read s i c (ranges s i box (g.taken.tables.fields i (old_in g j h))).named_end (g.taken.shape.entries i (old_in g j h))

      image-names : NamedLookup t j
      image-names =
          named-read t j there (ranges t j (both_true (inside t j) (is_container t j) there).1 (node-fields g j h)).named_end
          (tree-right t (tree-kept g) j (omega (arith, counted g))).entries

      -- entry k of the image is entry k of the draft
      entry : (k : ℕ) → k < f s i 6 → k < number_of_named s i
      entry k l = omega (arith, named_are g j h box)

      name-written : (name : List ℕ) (k : ℕ) → HasName s i name k → HasName t j name k
      name-written name k b = record { place = omega (arith, b.place, entries-same g j h c); text = named-text g j h k (entry k b.place) ∙ b.text }

      name-drafted : (name : List ℕ) (k : ℕ) → HasName t j name k → HasName s i name k
      name-drafted name k b =
          let l : k < f s i 6 = omega (arith, b.place, entries-same g j h c) in
          record { place = l; text = sym (named-text g j h k (entry k l)) ∙ b.text }

      node-written : (name : List ℕ) (n : ℕ) → NodeNamed s i name n → NodeNamed t j name (new_of order n)
      node-written name n b =
          record {
            entry = b.entry;
            bears = name-written name b.entry b.bears;
            node = named_at_lem g j h b.entry 2 (entry b.entry b.bears.place) (omega arith) ∙ ap (new_of order) b.node;
          }

      found-named : (name : List ℕ) (x : Option ℕ) → find_named s i name ≡ x → find_named t j name ≡ found x
      found-named name (Some n) e = image-names.borne name (new_of order n) (node-written name n (draft-names.answered name n e))
      found-named name None e = image-names.missing name (λ k b. draft-names.missed name e k (name-drafted name k b))

    name-same : (name : List ℕ) → find_named t j name ≡ found (find_named s i name)
    name-same name = by (inside_container s i) refl
      where
        by : (b : Bool) → inside_container s i ≡ b → find_named t j name ≡ found (find_named s i name)
        by true e = found-named e name (find_named s i name) refl
        by false e = unfold find_named in rw (inside-same g j h, e)

    step_same : (c : Component) → step t j c ≡ found (step s i c)
    unfolding step
    step_same Parent = parent-same
    step_same (Index k) = index_same k
    step_same (Name name) = name-same name
    step_same Broken = refl

  -- ---- from the draft's node i

  module _ (i : ℕ) (e : inside s i ≡ true) where
    new_below : new_of order i < node_count s
    new_below = (numbers-same g).new_inside i (inside_lt g i e)

    back : old_of order (new_of order i) ≡ i
    back = (numbers-same g).there_and_back i (inside_lt g i e)

    from-node : (c : Component) → step t (new_of order i) c ≡ found (step s i c)
    from-node c = step_same (new_of order i) new_below c ∙ ap (λ (x : ℕ). found (step s x c)) back

    containers-same : is_container t (new_of order i) ≡ is_container s i
    containers-same = container-same g (new_of order i) new_below ∙ ap (is_container s) back

  steps-same : RenumberedSteps s t (new_of order)
  steps-same = record { root = (numbers-same g).root; nodes = nodes-same; containers = containers-same; steps = λ i c. by i c (inside s i) refl }
    where
      by : (i : ℕ) (c : Component) (b : Bool) → inside s i ≡ b → step t (new_of order i) c ≡ found (step s i c)
      by i c true e = from-node i e c
      by i c false e = nowhere t (new_of order i) (nodes-same i ∙ e) c ∙ sym (ap found (nowhere s i e c))

  -- ---- walks

  pub walk_same : (relative : Bool) (origin : ℕ) (cs : List Component) → resolve t relative (new_of order origin) cs ≡ found (resolve s relative origin cs)
  walk_same = renumbered-walks s t (new_of order) steps-same

  -- an absolute walk does not ask for its origin
  pub absolute-same : (origin other : ℕ) (cs : List Component) → resolve t false other cs ≡ found (resolve s false origin cs)
  absolute-same origin other cs = unfold resolve in walk_same false origin cs

-- by number and value
pub answered_anew : (order : List ℕ) (x : Option ℕ) → of_found (found_as (new_of order) x) ≡ renumbered_answer order (of_found x)
answered_anew order (Some n) = refl
answered_anew order None = refl
