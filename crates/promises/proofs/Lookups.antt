-- The look-ups by name on an accepted image have their plain reading.
use Rattle.std.specs.Prelude.{None, Option, Some}
use Prim.Native.Nat.{ℕ, ◌+◌, ◌<◌}
use mathlib.Core.Path.{◌≡◌, refl, sym, ap, ◌∙◌, subst}
use mathlib.Core.List.{List}
use mathlib.Core.Bool.{Bool, true, false}
use native.Mathlib.Omega.{arith}
use native.Mathlib.Decide.{ℕ_discrete, dec_lt}
use Rattle.laws.proofs.Flags.{both_true}
use Rattle.texts.specs.Dots.{before_dot, after_dot}
use Rattle.utf8.specs.White.{blanks}
use Rattle.image.specs.Sections.{Sections, node_count, item_word, inside, is_container, inside_container}
use Rattle.image.specs.declared.ImageView.{ImageView}
use Rattle.image.specs.Header.{view_of, sections_by}
use Rattle.tree.proofs.PlainTree.{tree-right}
use Rattle.definitions.specs.Definitions.{first_item}
use Rattle.definitions.proofs.Definitions.{Definitions, definitions-passed, definition-once, item-once}
use Rattle.load.specs.Load.{load_rule, loaded_of}
use Rattle.views.specs.View.{signed}
use Rattle.views.proofs.Given.{found-given, found-refused}
use Rattle.lookups.specs.declared.ListItem.{ListItem}
use Rattle.lookups.specs.Lookup.{find_named, last_item, list_item}
use Rattle.lookups.specs.Plain.{NamedLookup, Holds, LastHolds, ItemLookup}
use Rattle.lookups.proofs.Plain.{named-read, passed-items-read}
use Rattle.lookups.proofs.Given.{listed-given, listed-refused}
use Rattle.list_items.proofs.Plain.{same_answer, search_counted}
use Rattle.promises.specs.Answers.{of_found, of_list_item}
use Rattle.promises.specs.Lookups.{NamedFound, ItemFound, Lookups, AcceptedLookups}
use Rattle.promises.proofs.Answers.{loaded-given}
use Rattle.promises.proofs.Acceptance.{RowsPassed, load-accepted, accepted-passed}
use Rattle.promises.proofs.Fields.{node-right}
use Rattle.promises.proofs.Premises.{Kept, load_kept}
use Rattle.promises.proofs.Nodes.{named-range}
use Rattle.promises.proofs.Readers.{answered}

-- ---- a named child

found_number : (s : Sections) (i : ℕ) (name : List ℕ) → NamedLookup s i → NamedFound s i name
found_number s i name l =
    record {
      answered = λ n. (λ e. l.answered name n (found-given (find_named s i name) n e), λ b. ap of_found (l.borne name n b));
      missing = (λ e. l.missed name (found-refused (find_named s i name) e), λ h. ap (λ r. (of_found r).number) (l.missing name h));
    }

-- ---- a list item

module _ (s : Sections) (passed : Definitions s) (asked : Bool) (origin name : List ℕ) where
  -- the last definition that holds the name is one, and so is its item
  last-once : (a b : ListItem) → LastHolds s asked origin name a → LastHolds s asked origin name b → a ≡ b
  last-once a b p q =
      let e : a.definition ≡ b.definition =
      elim (ℕ_discrete a.definition b.definition) [
        | yes z ↦ z
        | no z ↦ elim (dec_lt a.definition b.definition) [
          | yes l ↦ absurd (p.last b.definition q.place l q.holds)
          | no l ↦ absurd (q.last a.definition p.place (omega arith) p.holds)
        ]
      ] in
      same e
    where
      same : a.definition ≡ b.definition → a ≡ b
      same e =
          let held = subst (λ (d : ℕ). Holds s asked origin name d q.place) (sym e) q.holds in
          let k : p.place ≡ q.place = item-once s passed a.definition p.holds.definition p.place q.place p.holds.place held.place (p.holds.text ∙ sym held.text) in
          let number : a.item ≡ b.item = p.number ∙ (λ i. first_item s (e i) + k i) ∙ sym q.number in
          let value : a.value ≡ b.value = p.value ∙ (λ i. signed (item_word s (first_item s (e i) + k i) 2)) ∙ sym q.value in
          λ i. record { definition = e i; item = number i; value = value i }

  module _ (l : ItemLookup s asked origin name) where
    holding : (r : Option ListItem) → last_item s asked origin name ≡ r → (a : ListItem) → LastHolds s asked origin name a → r ≡ Some a
    holding (Some b) e a h = ap Some (last-once b a (l.answered b e) h)
    holding None e a h = absurd (l.missed e a.definition h.place h.holds)

    item-number : (r : Option ListItem) → r ≡ last_item s asked origin name → ItemFound s asked origin name r
    item-number r e =
        record {
          answered = λ a. (λ q. l.answered a (sym e ∙ listed-given r a q), λ h. ap of_list_item (holding r (sym e) a h));
          missing = (λ q. l.missed (sym e ∙ listed-refused r q), λ h. ap (λ x. (of_list_item x).number) (e ∙ l.missing h));
        }

-- ---- of sections that passed

module _ (s : Sections) (g : Kept s) (p : RowsPassed s) where
  named_at_lem : (i : ℕ) → inside_container s i ≡ true → NamedLookup s i
  named_at_lem i box =
      let q = both_true (inside s i) (is_container s i) box in
      let h : i < node_count s = (node-right s i q.0).below in
      named-read s i box (named-range s g i h q.1).0 (tree-right s p.tree i h).entries

  pub lookups : Lookups s
  unfolding find_named list_item blanks
  lookups =
      let passed = definitions-passed s p.definitions in
      record {
        named-child = λ i box name. found_number s i name (named_at_lem i box);
        elsewhere = λ i no name. rw no;
        blank-name = λ name b. rw b;
        empty_name = refl;
        with_dot = λ name b d. item-number s passed true (before_dot name) (after_dot name) (passed-items-read s p.definitions true (before_dot name) (after_dot name)) (list_item s name) (rw (b, d));
        one_origin = definition-once s passed;
        without_dot = λ name b d. item-number s passed false name name (passed-items-read s p.definitions false name name) (list_item s name) (rw (b, d));
        searched-answer = same_answer s p.definitions;
        search_count = search_counted s p.definitions;
      }

pub accepted-lookups : AcceptedLookups
unfolding loaded_of
accepted-lookups bs work v b e =
    let a = answered (load_rule bs work) (view_of bs) v (loaded-given (loaded_of bs work) v e) in
    subst (λ (x : ImageView). Lookups (sections_by bs x)) a.1
    (lookups (sections_by bs (view_of bs)) (load_kept bs work b a.0) (accepted-passed bs (load-accepted bs work a.0)))
