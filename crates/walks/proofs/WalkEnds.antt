-- Where a walk ends: among the numbers that entries and parents are, so at a node if these are nodes.
use Rattle.std.specs.Prelude.{None, Option, Some, ℕ}
use Prim.Native.Nat.{ℕ, zero, ◌+◌, ◌*◌, ◌≤◌, ◌<◌}
use mathlib.Core.Path.{◌≡◌, refl, ap, ◌∙◌, subst}
use mathlib.Core.Logic.{◌≢◌}
use mathlib.Core.List.{List, [], ◌∷◌}
use mathlib.Core.Bool.{Bool, true, false, cond, ◌&&◌, not}
use native.Mathlib.Omega.{arith}
use native.Mathlib.Decide.{ℕ_discrete}
use lib.ListN.{drop, get_or}
use lib.Dec.{leb, ltb}
use borrow.Author.Tests.{lt-ltb, ltb-true, leb-true, eqb-false, not-true}
use Rattle.laws.proofs.Flags.{both_true}
use Rattle.words.specs.Words.{NONE, is_none}
use Rattle.image.specs.Sections.{Sections, text_entry_words, node_count, child_count, named_count, parent_of, f, child_word, named_word, inside, is_container, inside_container}
use Rattle.image.proofs.Tests.{inside-true}
use Rattle.views.specs.Children.{child_query}
use Rattle.lookups.specs.Lookup.{entry_text, searched, found_at, named_by, find_named}
use Rattle.lookups.proofs.HalvingSearch.{found-there}
use Rattle.walks.specs.Walk.{Component, Parent, Index, Name, Broken, parent_query, step, step_from, steps, resolve}

-- ---- numbers that steps do not lead out of: those of entries, and of the parents that nodes have

pub record Closed (s : Sections) (P : ℕ → Type 0) : Type 0 where
  pub parents : (i : ℕ) → inside s i ≡ true → parent_of s i ≢ NONE → P (parent_of s i)
  pub children : (j : ℕ) → j < child_count s → P (child_word s j)
  pub named : (j : ℕ) → j < named_count s → P (named_word s j 2)

-- what is found is one of them
abbrev pub Ends : (ℕ → Type 0) → Option ℕ → Type 0
Ends P r = (n : ℕ) → r ≡ Some n → P n

pub node-equal : (m n : ℕ) → ◌≡◌ {A = (Option ℕ)} (Some m) (Some n) → m ≡ n
node-equal m n h = cc

pub nothing : (n : ℕ) → ◌≡◌ {A = (Option ℕ)} None (Some n) → ⊥
nothing n h = let z : ◌≡◌ {A = ℕ} 0 1 = cc in omega arith

-- where a test decides what is found
pub found_if : (b : Bool) (r : Option ℕ) (n : ℕ) → cond b r None ≡ Some n → (b ≡ true) × (r ≡ Some n)
found_if true r n h = (refl, h)
found_if false r n h = absurd (nothing n h)

module _ (s : Sections) (P : ℕ → Type 0) (c : Closed s P) where
  node-ends : (i : ℕ) → P i → Ends P (Some i)
  node-ends i g n h = subst P (node-equal i n h) g

  -- ---- a step

  parent-ends : (i : ℕ) → Ends P (parent_query s i)
  unfolding parent_query
  parent-ends i n h =
      let t = found_if (inside s i && not (is_none (parent_of s i))) (Some (parent_of s i)) n h in
      let p = both_true (inside s i) (not (is_none (parent_of s i))) t.0 in
      node-ends (parent_of s i) (c.parents i p.0 (eqb-false (parent_of s i) NONE (not-true (is_none (parent_of s i)) p.1))) n t.1

  child-ends : (i j : ℕ) → Ends P (child_query s i j)
  unfolding child_query
  child-ends i j n h =
      let t = found_if (inside_container s i && ltb j (f s i 4) && ltb (f s i 3 + j) (child_count s)) (Some (child_word s (f s i 3 + j))) n h in
      let p = both_true (inside_container s i && ltb j (f s i 4)) (ltb (f s i 3 + j) (child_count s)) t.0 in
      node-ends (child_word s (f s i 3 + j)) (c.children (f s i 3 + j) (ltb-true _ _ p.1)) n t.1

  -- the node of named entry j of container i
  abbrev node_at : ℕ → ℕ → ℕ
  node_at i j = get_or s.named ((f s i 5 + j) * text_entry_words + 2) 0

  named-ends : (i : ℕ) (name : List ℕ) → Ends P (find_named s i name)
  unfolding find_named named_by searched named_word
  named-ends i name n h =
      let t = found_if (inside_container s i) (named_by s.named s.strings (f s i 5) (f s i 6) name) n h in
      let r = found_if (leb (f s i 5 + f s i 6) (named_count s)) (found_at (node_at i) (searched s.named s.strings (f s i 5) (f s i 6) name)) n t.1 in
      by (searched s.named s.strings (f s i 5) (f s i 6) name) refl (leb-true _ _ r.0) r.1
    where
      by : (x : Option ℕ) → searched s.named s.strings (f s i 5) (f s i 6) name ≡ x → f s i 5 + f s i 6 ≤ named_count s → found_at (node_at i) x ≡ Some n → P n
      by None e k q = absurd (nothing n q)
      by (Some j) e k q =
          let below = (found-there (λ y. entry_text s.named s.strings (f s i 5 + y)) name (f s i 6) 0 (f s i 6) j e).below in
          node-ends (node_at i j) (c.named (f s i 5 + j) (omega arith)) n q

  step-ends : (i : ℕ) (x : Component) → Ends P (step s i x)
  unfolding step
  step-ends i Parent n h = parent-ends i n h
  step-ends i (Index j) n h = child-ends i j n h
  step-ends i (Name t) n h = named-ends i t n h
  step-ends i Broken n h = absurd (nothing n h)

  -- ---- a walk

  from-ends : (at : Option ℕ) (x : Component) → Ends P (step_from s at x)
  from-ends None x n h = absurd (nothing n h)
  from-ends (Some i) x n h = step-ends i x n h

  steps_end : (xs : List Component) (at : Option ℕ) → Ends P at → Ends P (steps s at xs)
  unfolding steps
  steps_end [] at g n h = g n h
  steps_end (x ∷ xs) at g n h = steps_end xs (step_from s at x) (from-ends at x) n h

  pub walk_ends : P 0 → (relative : Bool) (origin : ℕ) → (inside s origin ≡ true → is_container s origin ≡ true → P origin)
      → (xs : List Component) → Ends P (resolve s relative origin xs)
  unfolding resolve
  walk_ends z false origin g xs n h = steps_end xs (Some 0) (node-ends 0 z) n h
  walk_ends z true origin g xs n h =
      let t = found_if (inside s origin) (cond (is_container s origin) (steps s (Some origin) xs) (steps s (parent_query s origin) (drop 1 xs))) n h in
      by (is_container s origin) refl t.0 t.1
    where
      by : (b : Bool) → is_container s origin ≡ b → inside s origin ≡ true
          → cond b (steps s (Some origin) xs) (steps s (parent_query s origin) (drop 1 xs)) ≡ Some n → P n
      by true e i q = steps_end xs (Some origin) (node-ends origin (g i e)) n q
      by false e i q = steps_end (drop 1 xs) (parent_query s origin) (parent-ends origin) n q

-- ---- nodes

-- every step leads to a node: the entries are nodes, and so is every parent but the root's, which is absent
pub record Leads (s : Sections) : Type 0 where
  pub some : zero < node_count s
  pub root-parent : parent_of s 0 ≡ NONE
  pub parents : (i : ℕ) → i < node_count s → 0 < i → inside s (parent_of s i) ≡ true
  pub children : (j : ℕ) → j < child_count s → inside s (child_word s j) ≡ true
  pub named : (j : ℕ) → j < named_count s → inside s (named_word s j 2) ≡ true

abbrev pub EndsInside : Sections → Option ℕ → Type 0
EndsInside s r = Ends (λ n. inside s n ≡ true) r

module _ (s : Sections) (l : Leads s) where
  nodes-closed : Closed s (λ n. inside s n ≡ true)
  nodes-closed = record { parents = λ i g d. by i (ℕ_discrete i 0) (inside-true (node_count s) i g).0 d; children = l.children; named = l.named }
    where
      by : (i : ℕ) → Dec (i ≡ 0) → i < node_count s → parent_of s i ≢ NONE → inside s (parent_of s i) ≡ true
      by i (yes e) h d = absurd (d (ap (parent_of s) e ∙ l.root-parent))
      by i (no e) h d = l.parents i h (omega arith)

  pub found_inside : (relative : Bool) (origin : ℕ) (xs : List Component) → EndsInside s (resolve s relative origin xs)
  found_inside relative origin xs =
      walk_ends s (λ n. inside s n ≡ true) nodes-closed (rw (lt-ltb 0 (node_count s) l.some)) relative origin (λ i b. i) xs
