-- The tree of a written image: the rules of its entries hold, and its entries reach every node.
use Prim.Native.Nat.{ℕ, zero, suc, ◌+◌, ◌≤◌, ◌<◌}
use mathlib.Core.Path.{◌≡◌, refl, sym, ap, ◌∙◌, subst}
use mathlib.Core.List.{List, [], ◌∷◌, ◌++◌}
use mathlib.Core.Bool.{true}
use native.Mathlib.Omega.{arith}
use lib.ListN.{get_or}
use borrow.Author.Tests.{eq-eqb}
use Rattle.laws.specs.Counted.{sum_of}
use Rattle.laws.specs.Lists.{place_in}
use Rattle.laws.proofs.First.{then, pass}
use Rattle.laws.proofs.Members.{and-true, all_has}
use Rattle.texts.specs.Text.{rising}
use Rattle.image.specs.Sections.{Sections, node_count, parent_of, place_of, f, child_word, named_word}
use Rattle.records.specs.Fields.{fields}
use Rattle.records.specs.Records.{number_of_children, number_of_named}
use Rattle.tree.specs.Tree.{child_at, named_at, named_text, child_rule, named_rule, entries_rule, read_walk, tree_rule}
use Rattle.tree.specs.Reach.{Reached, root, child, named}
use Rattle.tree.proofs.Entries.{children-pass, named-pass, entries-pass, child-container, named-container}
use Rattle.tree.proofs.Numbers.{read-reached}
use Rattle.tree.proofs.PlainTree.{right-tree}
use Rattle.draft.specs.Numbering.{old_of, new_of}
use Rattle.draft_image.specs.Strings.{text_words}
use Rattle.draft_image.specs.Written.{field_words}
use Rattle.written.proofs.Texts.{good-text}
use Rattle.draft_image.proofs.Blocks.{w, child-word, named-word}
use Rattle.written.proofs.Fields.{Given, counted, old_in, old_new, new_in, new_old, new_zero, new_is, parent-word, place-word, container-reads, children_of, named_of, start_is}
use Rattle.written.proofs.Rules.{good_at, text_at_lem, node_at, container_at, children-used, named-used}

-- texts that are the same rise the same
pub rising-same : (m : ℕ) (t u : ℕ → List ℕ) → ((k : ℕ) → k ≤ m → t k ≡ u k) → rising u m ≡ true → rising t m ≡ true
rising-same zero t u e r = refl
rising-same (suc m) t u e r = rw (e m (omega arith), e (suc m) (omega arith)) r

module _ {s : Sections} {order : List ℕ} {kept : List (List ℕ)} (g : Given s order kept) where
  abbrev v : Sections
  v = w s order kept

  -- ---- the entries of node j

  module _ (j : ℕ) (h : j < node_count s) where
    abbrev i : ℕ
    i = old_of order j

    pub child_at_lem : (m : ℕ) → m < number_of_children s i → child_at v j m ≡ new_of order (child_at s i m)
    child_at_lem m q = ap (λ (x : ℕ). child_word v (x + m)) first-child ∙ child-word s order kept j m h q
      where
        first-child : f v j 3 ≡ sum_of j (λ k. number_of_children s (old_of order k))
        first-child = unfold fields field_words in ((container-reads g j h (child-container s i m q)).1.1.0.0 ∙ start_is g (number_of_children s) j h)

    pub named_at_lem : (m k : ℕ) → m < number_of_named s i → k < 3 → named_at v j m k ≡ get_or (text_words kept (named_text s i m) ++ (new_of order (named_at s i m 2) ∷ [])) k 0
    named_at_lem m k q r = ap (λ (x : ℕ). named_word v (x + m) k) first-named ∙ named-word s order kept j m k h q r
      where
        first-named : f v j 5 ≡ sum_of j (λ o. number_of_named s (old_of order o))
        first-named = unfold fields field_words in ((container-reads g j h (named-container s i m q)).1.1.1.0.0 ∙ start_is g (number_of_named s) j h)

    pub named-text : (m : ℕ) → m < number_of_named s i → named_text v j m ≡ named_text s i m
    named-text m q =
        text_at_lem g (named_text s i m) (named_at v j m 0) (named_at v j m 1) (g.stored.named j h m q) (named_at_lem m 0 q (omega arith)) (named_at_lem m 1 q (omega arith))

    -- a node whose parent is i, by its new number
    parent_is : (x a : ℕ) → x < node_count s → parent_of s x ≡ i → a ≡ new_of order x → parent_of v a ≡ j
    parent_is x a q p e =
        ap (parent_of v) (e ∙ new_is g x q) ∙ parent-word g (place_in order x) (new_in g x q)
        ∙ ap (λ (y : ℕ). new_of order (parent_of s y)) (old_new g x q) ∙ ap (new_of order) p
        ∙ new_is g i (old_in g j h) ∙ new_old g j h

    child-kept : (m : ℕ) → m < number_of_children s i → child_rule v j m ≡ 0
    unfolding child_rule
    child-kept m q =
        let x = child_at s i m in
        let r = children-pass s i (g.taken.shape.entries i (old_in g j h)) m q in
        pass _ 14
        (and-true _ _
        (and-true _ _ (node_at g x (child_at v j m) r.within (child_at_lem m q)) (eq-eqb _ _ (parent_is x (child_at v j m) r.below r.parent (child_at_lem m q))))
        (eq-eqb (place_of v (child_at v j m)) m
        (ap (place_of v) (child_at_lem m q ∙ new_is g x r.below) ∙ place-word g (place_in order x) (new_in g x r.below)
        ∙ ap (place_of s) (old_new g x r.below) ∙ r.place)))

    named-kept : (m : ℕ) → m < number_of_named s i → named_rule v j m ≡ 0
    unfolding named_rule
    named-kept m q =
        let x = named_at s i m 2 in
        let r = named-pass s i (g.taken.shape.entries i (old_in g j h)) m q in
        let target = named_at_lem m 2 q (omega arith) in
        then _ _
        (pass _ 14 (good_at g (named_text s i m) (named_at v j m 0) (named_at v j m 1) (g.stored.named j h m q) (good-text s _ _ r.text)
        (named_at_lem m 0 q (omega arith)) (named_at_lem m 1 q (omega arith))))
        (then _ _ (pass _ 14 (rising-same m (named_text v j) (named_text s i) (λ k l. named-text k (omega arith)) r.order))
        (then _ _ (pass _ 9 (container_at g x (named_at v j m 2) (and-true _ _ r.within r.container) target))
        (pass _ 14 (eq-eqb _ _ (parent_is x (named_at v j m 2) r.below r.parent target)))))

    entries-kept : entries_rule v j ≡ 0
    entries-kept = entries-pass v j (λ m q. child-kept m (omega (arith, children_of g j h))) (λ m q. named-kept m (omega (arith, named_of g j h)))

  -- ---- what the draft's entries lead to, the image's do

  child-reached : (i j : ℕ) → i < node_count s → j < number_of_children s i → Reached v (place_in order i) → Reached v (new_of order (child_at s i j))
  child-reached i j h q r =
      let k = new_in g i h in
      let back = old_new g i h in
      let z : j < number_of_children s (old_of order (place_in order i)) = subst (λ (x : ℕ). j < number_of_children s x) (sym back) q in
      child (place_in order i) j r (omega (arith, children_of g (place_in order i) k)) (sym (child_at_lem (place_in order i) k j z ∙ ap (λ (x : ℕ). new_of order (child_at s x j)) back))

  named-reached : (i j : ℕ) → i < node_count s → j < number_of_named s i → Reached v (place_in order i) → Reached v (new_of order (named_at s i j 2))
  named-reached i j h q r =
      let k = new_in g i h in
      let back = old_new g i h in
      let z : j < number_of_named s (old_of order (place_in order i)) = subst (λ (x : ℕ). j < number_of_named s x) (sym back) q in
      named (place_in order i) j r (omega (arith, named_of g (place_in order i) k))
      (sym (named_at_lem (place_in order i) k j 2 z (omega arith) ∙ ap (λ (x : ℕ). new_of order (named_at s x j 2)) back))

  reached_new : (x : ℕ) → Reached s x → (x < node_count s) × Reached v (place_in order x)
  reached_new x root = (g.taken.tables.some, subst (Reached v) (sym (new_zero g)) root)
  reached_new x (child i j r q e) = go (reached_new i r)
    where
      go : (i < node_count s) × Reached v (place_in order i) → (x < node_count s) × Reached v (place_in order x)
      go up =
          let h = (children-pass s i (g.taken.shape.entries i up.0) j q).below in
          subst (λ (y : ℕ). (y < node_count s) × Reached v (place_in order y)) (sym e)
          (h, subst (Reached v) (new_is g (child_at s i j) h) (child-reached i j up.0 q up.1))
  reached_new x (named i j r q e) = go (reached_new i r)
    where
      go : (i < node_count s) × Reached v (place_in order i) → (x < node_count s) × Reached v (place_in order x)
      go up =
          let h = (named-pass s i (g.taken.shape.entries i up.0) j q).below in
          subst (λ (y : ℕ). (y < node_count s) × Reached v (place_in order y)) (sym e)
          (h, subst (Reached v) (new_is g (named_at s i j 2) h) (named-reached i j up.0 q up.1))

  reached : (j : ℕ) → j < node_count s → Reached v j
  reached j h =
      let seen = g.taken.reached (old_of order j) (old_in g j h) in
      subst (Reached v) (new_old g j h) (reached_new (old_of order j) (all_has (Reached s) (old_of order j) (read_walk s).seen seen (read-reached s))).1

  pub tree-kept : tree_rule v ≡ 0
  tree-kept =
      right-tree v (record { some = omega (arith, counted g, g.taken.tables.some); children = children-used g; named = named-used g })
      (λ j h. entries-kept j (omega (arith, counted g))) (λ j h. reached j (omega (arith, counted g)))
