-- A walk on an accepted image ends at a node.
use Rattle.std.specs.Prelude.{Some}
use Prim.Native.Nat.{ℕ, ◌+◌, ◌<◌}
use mathlib.Core.Path.{◌≡◌, sym, ap, ◌∙◌, subst}
use mathlib.Core.List.{List}
use mathlib.Core.Bool.{Bool, true}
use native.Mathlib.Omega.{arith}
use Rattle.image.specs.Sections.{Sections, node_count, child_count, f, child_word, named_word, inside}
use Rattle.image.proofs.Tests.{inside-true}
use Rattle.records.specs.Records.{number_of_children}
use Rattle.tree.proofs.Entries.{child-container}
use Rattle.walks.specs.Walk.{Component, resolve}
use Rattle.walks.proofs.WalkEnds.{Leads, found_inside}
use Rattle.promises.proofs.Premises.{Kept}
use Rattle.promises.proofs.Fields.{right-node}
use Rattle.promises.proofs.Counts.{owner}
use Rattle.promises.proofs.Nodes.{child-range}
use Rattle.promises.proofs.Entries.{named-owner}

module _ (s : Sections) (g : Kept s) where
  child-inside : (j : ℕ) → j < child_count s → inside s (child_word s j) ≡ true
  child-inside j h =
      let o = owner (node_count s) (number_of_children s) j (omega (arith, g.rules.children-used)) in
      let c = child-container s o.at o.place o.place-below in
      let there : j ≡ f s o.at 3 + o.place = o.there ∙ ap (λ (n : ℕ). n + o.place) (sym (child-range s g o.at o.at_below c).1) in
      subst (λ (x : ℕ). inside s (child_word s x) ≡ true) (sym there) (right-node s _ (g.rules.child o.at o.at_below o.place o.place-below).node)

  leads : Leads s
  leads =
      record {
        some = g.some;
        root-parent = g.rules.root-parent;
        parents = λ i h z. right-node s _ (g.rules.parents i h z).container.node;
        children = child-inside;
        named = λ j h. let o = named-owner s g j h in subst (λ (x : ℕ). inside s (named_word s x 2) ≡ true) (sym o.there) (right-node s _ o.right.container.node);
      }

  pub walk_inside : (relative : Bool) (origin : ℕ) (cs : List Component) (n : ℕ) → resolve s relative origin cs ≡ Some n → n < node_count s
  walk_inside relative origin cs n e = (inside-true (node_count s) n (found_inside s leads relative origin cs n e)).0
