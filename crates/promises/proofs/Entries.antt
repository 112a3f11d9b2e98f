-- Every named entry belongs to a container and every item to a definition; the entries of all sections lie inside.
use Prim.Native.Nat.{ℕ, ◌+◌, ◌<◌}
use mathlib.Core.Path.{◌≡◌, sym, ap, ◌∙◌, subst}
use native.Mathlib.Omega.{arith}
use Rattle.image.specs.Sections.{Sections, node_count, named_count, definition_count, item_count, f, named_word, item_word}
use Rattle.records.specs.Records.{number_of_named}
use Rattle.tree.proofs.Entries.{named-container}
use Rattle.definitions.specs.Definitions.{first_item, number_of_items}
use Rattle.promises.specs.Rules.{NamedRight, ItemRight}
use Rattle.promises.specs.Promises.{EntriesInside, TextInside}
use Rattle.promises.proofs.Premises.{Kept}
use Rattle.promises.proofs.Counts.{owner}
use Rattle.promises.proofs.Nodes.{text-inside, named-range}

module _ (s : Sections) (g : Kept s) where
  -- ---- named entries

  -- entry j of the section is entry k of container i
  pub record NamedOwner (j : ℕ) : Type 0 where
    pub i : ℕ
    pub k : ℕ
    pub there : j ≡ f s i 5 + k
    pub right : NamedRight s i k

  pub named-owner : (j : ℕ) → j < named_count s → NamedOwner j
  named-owner j h =
      let o = owner (node_count s) (number_of_named s) j (omega (arith, g.rules.named-used)) in
      let c = named-container s o.at o.place o.place-below in
      record {
        i = o.at;
        k = o.place;
        there = o.there ∙ ap (λ (n : ℕ). n + o.place) (sym (named-range s g o.at o.at_below c).1);
        right = g.rules.entry o.at o.at_below o.place o.place-below;
      }

  -- ---- items

  -- item j of all is item k of definition d
  pub record ItemOwner (j : ℕ) : Type 0 where
    pub d : ℕ
    pub k : ℕ
    pub there : j ≡ first_item s d + k
    pub right : ItemRight s d k

  pub item-owner : (j : ℕ) → j < item_count s → ItemOwner j
  item-owner j h =
      let o = owner (definition_count s) (number_of_items s) j (omega (arith, g.rules.items-used)) in
      let q = g.rules.definitions o.at o.at_below in
      record {
        d = o.at;
        k = o.place;
        there = o.there ∙ ap (λ (n : ℕ). n + o.place) (sym q.start);
        right = q.items o.place o.place-below;
      }

  -- ---- all sections

  pub entries-inside : EntriesInside s
  entries-inside =
      record {
        named-node = λ j h d. let o = named-owner j h in subst (λ (x : ℕ). named_word s x 2 < node_count s) (sym o.there) o.right.container.node.below;
        named-text = λ j h.
            let o = named-owner j h in
            subst (λ (x : ℕ). TextInside s (named_word s x 0) (named_word s x 1)) (sym o.there) (text-inside s _ _ o.right.text);
        index-node = λ j h d. (g.rules.index j h).container.node.below;
        index-text = λ j h. text-inside s _ _ (g.rules.index j h).text;
        definition-text = λ d h. text-inside s _ _ (g.rules.definitions d h).text;
        item-text = λ j h.
            let o = item-owner j h in
            subst (λ (x : ℕ). TextInside s (item_word s x 0) (item_word s x 1)) (sym o.there) (text-inside s _ _ o.right.text);
      }
