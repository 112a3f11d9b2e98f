-- Row 19 put together out of what the functions answer.
use Prim.Native.Nat.{ℕ, zero, suc}
use mathlib.Core.Path.{◌≡◌, refl, sym, ap, ◌∙◌}
use mathlib.Core.List.{List, []}
use mathlib.Core.Bool.{Bool, true, false, not}
use Rattle.laws.specs.Refusal.{unless, ◌▸◌, first_of}
use Rattle.laws.proofs.First.{second}
use Rattle.laws.proofs.Chains.{stop, go, refused}
use Rattle.image.specs.Sections.{Sections, node_count, child_count, named_count, definition_count, item_count, child_word, named_word, definition_word, item_word}
use Rattle.records.specs.Records.{used_up}
use Rattle.definitions.specs.Definitions.{items_used_up}
use Rattle.draft.specs.Source.{draft_of}
use Rattle.draft.specs.Draft.{whole_entries, draft_child_rule, draft_named_rule, draft_definition_rule, draft_item_rule}
use Rattle.draft.specs.PathList.{path_node_rule, path_tables_rule}

grouped : (a b c : ℕ) → ((a ▸ b) ▸ c) ≡ (a ▸ b ▸ c)
unfolding ◌▸◌
grouped zero b c = refl
grouped (suc a) b c = refl

-- the parts of the row
abbrev nodes_part : Sections → List ℕ → ℕ
nodes_part s entries = first_of (node_count s) (path_node_rule s entries) ▸ unless (used_up s) 19

abbrev children_part : Sections → ℕ
children_part s = first_of (child_count s) (draft_child_rule s)

abbrev named_part : Sections → ℕ
named_part s = first_of (named_count s) (draft_named_rule s)

abbrev definitions_part : Sections → ℕ
definitions_part s = first_of (definition_count s) (draft_definition_rule s) ▸ unless (items_used_up s) 19

abbrev items_part : Sections → ℕ
items_part s = first_of (item_count s) (draft_item_rule s)

module _ (v : ℕ) (ns cs ms ds is ps ts entries : List ℕ) where
  abbrev s : Sections
  s = draft_of v ns cs ms ds is ps ts

  in_parts : path_tables_rule s entries ≡ (unless (whole_entries s) 19 ▸ nodes_part s entries ▸ children_part s ▸ named_part s ▸ definitions_part s ▸ items_part s)
  unfolding path_tables_rule
  in_parts =
      ap (λ (x : ℕ). unless (whole_entries s) 19 ▸ x)
      (sym (grouped (first_of (node_count s) (path_node_rule s entries)) (unless (used_up s) 19) _
      ∙ ap (λ (x : ℕ). first_of (node_count s) (path_node_rule s entries) ▸ unless (used_up s) 19 ▸ children_part s ▸ named_part s ▸ x)
      (grouped (first_of (definition_count s) (draft_definition_rule s)) (unless (items_used_up s) 19) (items_part s))))

  module _ (w : Bool) (we : w ≡ whole_entries (draft_of v ns [] ms ds is [] [])) where
    whole_is : w ≡ whole_entries s
    unfolding whole_entries
    whole_is = we

    pub broken-entries : not w ≡ true → 19 ≡ path_tables_rule s entries
    broken-entries h = stop (whole_entries s) w 19 _ refl whole_is h ∙ sym in_parts

    module _ (wh : not w ≡ false) (n : ℕ) (ne : n ≡ nodes_part s entries) where
      past-whole : (x : ℕ) → x ≡ (nodes_part s entries ▸ children_part s ▸ named_part s ▸ definitions_part s ▸ items_part s) → x ≡ path_tables_rule s entries
      past-whole x e = go (whole_entries s) w 19 _ x whole_is wh e ∙ sym in_parts

      pub nodes-refused : (n ≡ 0 → ⊥) → n ≡ path_tables_rule s entries
      nodes-refused d = past-whole n (refused (nodes_part s entries) _ n ne d)

      module _ (nz : n ≡ 0) (c : ℕ) (ce : c ≡ children_part (draft_of v ns cs [] [] [] [] [])) where
        children_are : c ≡ children_part s
        unfolding draft_child_rule child_word
        children_are = ce

        past-nodes : (x : ℕ) → x ≡ (children_part s ▸ named_part s ▸ definitions_part s ▸ items_part s) → x ≡ path_tables_rule s entries
        past-nodes x e = past-whole x (e ∙ sym (second (nodes_part s entries) _ (sym ne ∙ nz)))

        pub children-refused : (c ≡ 0 → ⊥) → c ≡ path_tables_rule s entries
        children-refused d = past-nodes c (refused (children_part s) _ c children_are d)

        module _ (cz : c ≡ 0) (m : ℕ) (me : m ≡ named_part (draft_of v ns [] ms [] [] [] ts)) where
          named_are : m ≡ named_part s
          unfolding draft_named_rule named_word
          named_are = me

          past-children : (x : ℕ) → x ≡ (named_part s ▸ definitions_part s ▸ items_part s) → x ≡ path_tables_rule s entries
          past-children x e = past-nodes x (e ∙ sym (second (children_part s) _ (sym children_are ∙ cz)))

          pub named-refused : (m ≡ 0 → ⊥) → m ≡ path_tables_rule s entries
          named-refused d = past-children m (refused (named_part s) _ m named_are d)

          module _ (mz : m ≡ 0) (d : ℕ) (de : d ≡ definitions_part (draft_of 0 [] [] [] ds is [] ts)) where
            definitions_are : d ≡ definitions_part s
            unfolding draft_definition_rule items_used_up definition_word
            definitions_are = de

            past-named : (x : ℕ) → x ≡ (definitions_part s ▸ items_part s) → x ≡ path_tables_rule s entries
            past-named x e = past-children x (e ∙ sym (second (named_part s) _ (sym named_are ∙ mz)))

            pub definitions-refused : (d ≡ 0 → ⊥) → d ≡ path_tables_rule s entries
            definitions-refused q = past-named d (refused (definitions_part s) (items_part s) d definitions_are q)

            module _ (dz : d ≡ 0) (i : ℕ) (ie : i ≡ items_part (draft_of 0 [] [] [] [] is [] ts)) where
              items_are : i ≡ items_part s
              unfolding draft_item_rule item_word
              items_are = ie

              pub items_decide : i ≡ path_tables_rule s entries
              items_decide = past-named i (items_are ∙ sym (second (definitions_part s) (items_part s) (sym definitions_are ∙ dz)))
