-- A node taken: its ordered children are tested and pushed, then its named ones.
use Prim.Native.Nat.{ℕ, suc, ◌+◌, ◌-◌, ◌≤◌, ◌<◌}
use mathlib.Core.Path.{◌≡◌, refl, sym, ap, ◌∙◌}
use mathlib.Core.List.{List, [], ◌∷◌, ◌++◌, reverse, reverse-append, append_assoc}
use mathlib.Core.Bool.{true, false}
use native.Mathlib.Omega.{arith}
use native.Mathlib.Nat.{add-zero}
use lib.ListN.{length, length-append, length-reverse}
use borrow.Author.Tests.{eq-eqb, ne_eqb}
use Rattle.laws.specs.Refusal.{◌▸◌, first_of}
use Rattle.laws.specs.Counted.{join_of}
use Rattle.laws.proofs.First.{first, second}
use Rattle.image.specs.Sections.{Sections, node_count, node_word, child_word, named_word, tag_of, f, is_container, child_count, named_count}
use Rattle.image.specs.declared.NodeRecord.{NodeRecord}
use Rattle.image.proofs.Entries.{IsNode}
use Rattle.records.specs.Records.{number_of_children, number_of_named}
use Rattle.tree.specs.Tree.{child_at, child_rule, named_rule, entries_rule, entry_nodes}
use Rattle.tree.specs.Work.{stack_of, Pushed, Entered}
use Rattle.tree.specs.Parts.{parts_of, named_node, Fit}
use Rattle.laws.proofs.Lists.{drop_more}
use Rattle.laws.proofs.Members.{length_join}
use Rattle.tree.proofs.Entries.{length-entries}
use Rattle.tree.proofs.Stack.{take_less}

-- ---- two runs of pushes

module _ (rule₁ node₁ rule₂ node₂ : ℕ → ℕ) (c₁ c₂ base depth : ℕ) (w₀ : List ℕ) where
  abbrev ones : List ℕ
  ones = join_of c₁ (λ j. node₁ j ∷ [])

  abbrev twos : List ℕ
  twos = join_of c₂ (λ j. node₂ j ∷ [])

  together : length (reverse (ones ++ twos)) ≡ c₁ + c₂
  together = length-reverse (ones ++ twos) ∙ length-append ones twos ∙ omega (arith, length_join c₁ node₁, length_join c₂ node₂)

  -- nothing to push
  pub none-pushed : c₁ ≡ 0 → c₂ ≡ 0 → Entered (first_of c₁ rule₁ ▸ first_of c₂ rule₂) (reverse (ones ++ twos)) base depth w₀ w₀ 0 depth
  unfolding first_of join_of ◌▸◌
  none-pushed e k =
      let n = together in
      record {
        answer = rw (e, k) refl;
        low = refl;
        high = refl;
        deeper = λ z. omega arith;
        stack = λ z. rw (e, k, add-zero) refl;
      }

  module _ (w₁ : List ℕ) (r₁ : ℕ) (p : Pushed rule₁ node₁ c₁ base depth w₀ w₁ r₁) where
    -- one of the first run is refused
    pub first-refused : (d : ℕ) → (r₁ ≡ 0 → ⊥) → Entered (first_of c₁ rule₁ ▸ first_of c₂ rule₂) (reverse (ones ++ twos)) base depth w₀ w₁ r₁ d
    first-refused d nz =
        let n = together in
        let e : r₁ ≡ suc (r₁ - 1) = omega arith in
        record {
          answer = e ∙ sym (first (first_of c₁ rule₁) (first_of c₂ rule₂) (r₁ - 1) (sym p.answer ∙ e));
          low = p.low;
          high = drop_more (base + depth + c₁) (base + depth + length (reverse (ones ++ twos))) w₁ w₀ (omega arith) p.high;
          deeper = λ z. absurd (nz z);
          stack = λ z. absurd (nz z);
        }

    -- the first run passes
    module _ (z₁ : r₁ ≡ 0) (w₂ : List ℕ) (r₂ d : ℕ) (q : Pushed rule₂ node₂ c₂ base (depth + c₁) w₁ w₂ r₂) (e : d ≡ depth + c₁ + c₂) where
      pub second-pushed : Entered (first_of c₁ rule₁ ▸ first_of c₂ rule₂) (reverse (ones ++ twos)) base depth w₀ w₂ r₂ d
      second-pushed =
          let n = together in
          let k : depth + length (reverse (ones ++ twos)) ≡ depth + c₁ + c₂ = omega arith in
          record {
            answer = q.answer ∙ sym (second (first_of c₁ rule₁) (first_of c₂ rule₂) (sym p.answer ∙ z₁));
            low = take_less (base + depth) (base + (depth + c₁)) w₂ w₁ (omega arith) q.low ∙ p.low;
            high =
                drop_more (base + (depth + c₁) + c₂) (base + depth + length (reverse (ones ++ twos))) w₂ w₁ (omega arith) q.high
                ∙ drop_more (base + depth + c₁) (base + depth + length (reverse (ones ++ twos))) w₁ w₀ (omega arith) p.high;
            deeper = λ z. omega arith;
            stack = λ z.
                ap (stack_of w₂ base) k ∙ q.stack z ∙ ap (λ (l : List ℕ). reverse twos ++ l) (p.stack z₁)
                ∙ sym (append_assoc (reverse twos) (reverse ones) (stack_of w₀ base depth))
                ∙ ap (λ (l : List ℕ). l ++ stack_of w₀ base depth) (sym (reverse-append ones twos));
          }

-- ---- a node by its tag

-- what is refused leaves no depth
pub any-depth : (test : ℕ) (push : List ℕ) (base depth : ℕ) (w₀ w : List ℕ) (r d : ℕ) → Entered test push base depth w₀ w r d → (r ≡ 0 → ⊥) → (d' : ℕ)
    → Entered test push base depth w₀ w r d'
any-depth test push base depth w₀ w r d e nz d' =
    record {
      answer = e.answer;
      low = e.low;
      high = e.high;
      deeper = λ z. absurd (nz z);
      stack = e.stack;
    }

module _ (s : Sections) (i : ℕ) (node : NodeRecord) (n : IsNode s i node) where
  pub leaf : (node.tag ≡ 1 → ⊥) → is_container s i ≡ false
  leaf d = ne_eqb (tag_of s i) 1 (λ e. d (n.tag ∙ e))

  pub container : node.tag ≡ 1 → is_container s i ≡ true
  container e = eq-eqb (tag_of s i) 1 (sym n.tag ∙ e)

-- ---- a node of the parts

module _ (version : ℕ) (ns cs ms ss : List ℕ) (i base depth : ℕ) (w₀ : List ℕ) where
  abbrev here : Sections
  here = parts_of version ns cs ms ss

  -- the parts that matter to each run
  children-here : (count depth' : ℕ) (w w₁ : List ℕ) (r : ℕ) → Pushed (child_rule (parts_of version ns cs [] []) i) (child_at (parts_of version ns cs [] []) i) count base depth' w w₁ r
      → Pushed (child_rule here i) (child_at here i) count base depth' w w₁ r
  unfolding child_rule child_word node_word
  children-here count depth' w w₁ r p = p

  named_here : (count depth' : ℕ) (w w₁ : List ℕ) (r : ℕ) → Pushed (named_rule (parts_of version ns [] ms ss) i) (named_node (parts_of version ns [] ms ss) i) count base depth' w w₁ r
      → Pushed (named_rule here i) (named_node here i) count base depth' w w₁ r
  unfolding named_rule named_word node_word
  named_here count depth' w w₁ r p = p

  -- how many entries a node has, by its tag
  children-many : is_container here i ≡ true → number_of_children here i ≡ f here i 4
  unfolding number_of_children
  children-many c = rw c refl

  named-many : is_container here i ≡ true → number_of_named here i ≡ f here i 6
  unfolding number_of_named
  named-many c = rw c refl

  no_children : is_container here i ≡ false → number_of_children here i ≡ 0
  unfolding number_of_children
  no_children c = rw c refl

  no_named : is_container here i ≡ false → number_of_named here i ≡ 0
  unfolding number_of_named
  no_named c = rw c refl

  abbrev EnteredHere : List ℕ → ℕ → ℕ → Type 0
  EnteredHere w r d = Entered (entries_rule here i) (reverse (entry_nodes here i)) base depth w₀ w r d

  -- no container
  pub enter-leaf : is_container here i ≡ false → EnteredHere w₀ 0 depth
  unfolding entries_rule entry_nodes
  enter-leaf c = none-pushed (child_rule here i) (child_at here i) (named_rule here i) (named_node here i) (number_of_children here i) (number_of_named here i) base depth w₀ (no_children c) (no_named c)

  module _ (c : is_container here i ≡ true) (c₁ : ℕ) (e₁ : c₁ ≡ f here i 4) (w₁ : List ℕ) (r₁ : ℕ)
      (p : Pushed (child_rule (parts_of version ns cs [] []) i) (child_at (parts_of version ns cs [] []) i) c₁ base depth w₀ w₁ r₁) where
    first_run : Pushed (child_rule here i) (child_at here i) (number_of_children here i) base depth w₀ w₁ r₁
    first_run = rw (children-many c, ← e₁) (children-here c₁ depth w₀ w₁ r₁ p)

    pub enter-refused : (d : ℕ) → (r₁ ≡ 0 → ⊥) → EnteredHere w₁ r₁ d
    unfolding entries_rule entry_nodes
    enter-refused d nz =
        first-refused (child_rule here i) (child_at here i) (named_rule here i) (named_node here i) (number_of_children here i) (number_of_named here i) base depth w₀ w₁ r₁ first_run d nz

    pub enter-pushed : r₁ ≡ 0 → (c₂ : ℕ) → c₂ ≡ f here i 6 → (w₂ : List ℕ) (r₂ d : ℕ)
        → Pushed (named_rule (parts_of version ns [] ms ss) i) (named_node (parts_of version ns [] ms ss) i) c₂ base (depth + c₁) w₁ w₂ r₂ → d ≡ depth + c₁ + c₂
        → EnteredHere w₂ r₂ d
    unfolding entries_rule entry_nodes
    enter-pushed z c₂ e₂ w₂ r₂ d q k =
        second-pushed (child_rule here i) (child_at here i) (named_rule here i) (named_node here i) (number_of_children here i) (number_of_named here i) base depth w₀ w₁ r₁ first_run z
        w₂ r₂ d (rw (children-many c, named-many c, ← e₁, ← e₂) (named_here c₂ (depth + c₁) w₁ w₂ r₂ q)) (rw (children-many c, named-many c, ← e₁, ← e₂) k)

  -- ---- a container by the words that the code reads

  module _ (node : NodeRecord) (n : IsNode here i node) where
    -- its entries are there, and there are words for them
    pub record Room : Type 0 where
      pub children : node.f3 + node.f4 ≤ child_count here
      pub named : node.f5 + node.f6 ≤ named_count here
      pub words : base + depth + node.f4 + node.f6 ≤ length w₀
      pub children-start : node.f3 ≡ f (parts_of version ns cs [] []) i 3
      pub named_start : node.f5 ≡ f (parts_of version ns [] ms ss) i 5

    pub room : Fit here → i < node_count here → base + depth + length (reverse (entry_nodes here i)) ≤ length w₀ → node.tag ≡ 1 → Room
    unfolding node_word
    room fit h enough t =
        let c = container here i node n t in
        let g = fit.ranges i h c in
        let k : length (reverse (entry_nodes here i)) ≡ number_of_children here i + number_of_named here i = length-reverse (entry_nodes here i) ∙ length-entries here i in
        record {
          children = omega (arith, n.f3, n.f4, g.children);
          named = omega (arith, n.f5, n.f6, g.named);
          words = omega (arith, children-many c, named-many c, n.f4, n.f6);
          children-start = n.f3;
          named_start = n.f5;
        }
