-- What the rules have shown of a draft, in the form that each step asks for.
use Prim.Native.Nat.{ℕ}
use mathlib.Core.Path.{◌≡◌, sym, ap, ◌∙◌}
use mathlib.Core.List.{List}
use native.Mathlib.Omega.{arith}
use borrow.Author.Tests.{eqb-true}
use Rattle.laws.proofs.Members.{all_has}
use Rattle.image.specs.Sections.{Sections, node_count, node_word}
use Rattle.records.proofs.PassedRules.{ranges}
use Rattle.tree.specs.Tree.{read_walk}
use Rattle.tree.specs.Reach.{Reached}
use Rattle.tree.proofs.Numbers.{EachOnce, read-reached, get_below, place-below, get_of_place, place_of_get}
use Rattle.tree.proofs.PlainTree.{right-tree}
use Rattle.tree.proofs.ParentSteps.{tree-climbs}
use Rattle.draft.specs.Draft.{tables_rule, reach_rule, shape_rule}
use Rattle.draft.specs.Numbering.{numbering}
use Rattle.draft.proofs.Rules.{tables, whole, entries-counts, shape}
use Rattle.draft.specs.Source.{word_of}
use Rattle.draft.proofs.ReachedNodes.{reached, numbered, parent-before}
use Rattle.draft_image.specs.Ready.{OldsAt}
use Rattle.write_paths.specs.Listed.{tag_at, Permutation, ParentsFirst}
use Rattle.write_paths.specs.Arranged.{Rooted}

module _ (s : Sections) (p : tables_rule s ≡ 0) (q : reach_rule s ≡ 0) where
  -- the numbering has each node once
  pub once : EachOnce (node_count s) (numbering s)
  once = numbered s (tables s p) (reached s q)

  pub renumbers : Permutation (node_count s) (numbering s)
  renumbers =
      record { old_inside = get_below once; new_inside = place-below once; old_new = get_of_place once; new_old = place_of_get once }

  pub rooted : shape_rule s ≡ 0 → Rooted s (numbering s)
  rooted r =
      record {
        whole = (whole s p).nodes;
        numbers = renumbers;
        climbs =
            λ x h.
            tree-climbs s (tables s p).some
            (right-tree s (entries-counts s (tables s p)) (shape s r).entries (λ i k. all_has (Reached s) i (read_walk s).seen (reached s q i k) (read-reached s))) x h;
        named = λ x h c. (ranges s x c ((tables s p).fields x h)).name;
      }

  -- the words that say the numbering name a node after its parent
  pub parents-first : shape_rule s ≡ 0 → (w : List ℕ) (at : ℕ) → OldsAt (numbering s) w (node_count s) at
      → ParentsFirst s.version s.nodes w at (node_count s)
  unfolding node_word
  parents-first r w at known j h d =
      let b = parent-before s (tables s p).some (shape s r).entries j (omega (arith, once.len)) (λ z. d (known j h ∙ z)) in
      let there = known b.place (omega (arith, b.earlier)) ∙ b.parent in
      record {
        place = b.place;
        earlier = b.earlier;
        parent = there ∙ ap (λ (x : ℕ). word_of s.version s.nodes x 0) (sym (known j h));
        container = ap (tag_at s.version s.nodes) there ∙ eqb-true _ _ b.container;
      }
