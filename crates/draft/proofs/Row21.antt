-- Row 21 put together out of what the functions answer, of a draft that row 19 has passed.
use Prim.Native.Nat.{ℕ}
use mathlib.Core.Path.{◌≡◌, refl, sym, ◌∙◌}
use mathlib.Core.List.{List, []}
use mathlib.Core.Bool.{Bool, true, false, not}
use Rattle.laws.specs.Refusal.{◌▸◌, first_of}
use Rattle.laws.proofs.First.{second}
use Rattle.laws.proofs.Chains.{stop, go, refused}
use Rattle.image.specs.Sections.{Sections, node_count, definition_count, node_word, child_word, named_word, definition_word, item_word}
use Rattle.records.specs.Records.{number_of_children, number_of_named, parent_rule, root_right}
use Rattle.tree.specs.Tree.{child_rule, named_rule, entries_rule}
use Rattle.draft.specs.Source.{draft_of}
use Rattle.draft.specs.Draft.{relation_rule, order_rule, shape_rule}
use Rattle.draft.specs.Shown.{TreePassed, ListsPassed, TablesPassed}
use Rattle.draft.proofs.Rules.{TablesBy, tables_fit, items_end}

-- what the rules of this row need
pub tables-passed : (s : Sections) {rule : ℕ → ℕ} → TablesBy s rule → TablesPassed s
tables-passed s t =
    record {
      some = t.some;
      tree = record { ranges = (tables_fit s t).ranges; texts = t.named-texts };
      lists = record { ranges = λ d h. items_end s t d h };
    }

module _ (v : ℕ) (ns cs ms ds is ps ts : List ℕ) where
  abbrev s : Sections
  s = draft_of v ns cs ms ds is ps ts

  -- the sections of the tree; of the definitions
  abbrev tree : Sections
  tree = draft_of v ns cs ms [] [] [] ts

  abbrev lists : Sections
  lists = draft_of 0 [] [] [] ds is [] ts

  -- ---- what row 19 has shown

  module _ (p : TablesPassed s) where
    pub tree-passed : TreePassed tree
    unfolding node_word named_word
    tree-passed =
        record {
          ranges = λ i h c. let r = p.tree.ranges i h c in record { children = r.children; named = r.named };
          texts = p.tree.texts;
        }

    pub lists-passed : ListsPassed lists
    unfolding definition_word item_word
    lists-passed = record { ranges = p.lists.ranges }

  -- ---- the row

  relations_are : first_of (node_count tree) (relation_rule tree) ≡ first_of (node_count s) (relation_rule s)
  unfolding relation_rule parent_rule entries_rule number_of_children number_of_named child_rule named_rule node_word child_word named_word
  relations_are = refl

  orders_are : first_of (definition_count lists) (order_rule lists) ≡ first_of (definition_count s) (order_rule s)
  unfolding order_rule definition_word item_word
  orders_are = refl

  module _ (b : Bool) (e : b ≡ root_right s) where
    pub wrong-root : not b ≡ true → 21 ≡ shape_rule s
    unfolding shape_rule
    wrong-root q = stop (root_right s) b 21 _ refl e q

    module _ (q : not b ≡ false) (x : ℕ) (k : x ≡ first_of (node_count tree) (relation_rule tree)) where
      past-root : (y : ℕ) → y ≡ (first_of (node_count s) (relation_rule s) ▸ first_of (definition_count s) (order_rule s)) → y ≡ shape_rule s
      unfolding shape_rule
      past-root y u = go (root_right s) b 21 _ y e q u

      pub wrong_relation : (x ≡ 0 → ⊥) → x ≡ shape_rule s
      wrong_relation d = past-root x (refused (first_of (node_count s) (relation_rule s)) _ x (k ∙ relations_are) d)

      pub orders_decide : x ≡ 0 → (y : ℕ) → y ≡ first_of (definition_count lists) (order_rule lists) → y ≡ shape_rule s
      orders_decide z y u = past-root y (u ∙ orders_are ∙ sym (second (first_of (node_count s) (relation_rule s)) _ (sym (k ∙ relations_are) ∙ z)))
