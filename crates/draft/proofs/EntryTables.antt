-- The rules of a draft's entries by the answers of the tests that the code makes, and the chain of row 19.
use Prim.Native.Nat.{ℕ, ◌+◌, ◌/◌, ◌%◌, ◌≤◌, ◌<◌}
use mathlib.Core.Path.{◌≡◌, refl, sym, ap, ◌∙◌}
use mathlib.Core.List.{List, []}
use mathlib.Core.Bool.{Bool, true, false, not}
use native.Mathlib.Omega.{arith}
use native.Mathlib.Numerals.{add-one}
use lib.ListN.{length, get_or}
use lib.Dec.{eqb, leb}
use borrow.Author.Tests.{not-true, not-false, eqb-true, eq-eqb, ne_eqb}
use Rattle.laws.specs.Refusal.{unless, ◌▸◌, first_of}
use Rattle.laws.specs.Counted.{sum_of}
use Rattle.laws.proofs.First.{both, second, pass, fail, passed, first_next}
use Rattle.laws.proofs.Chains.{refused, first-broken, first_done}
use Rattle.laws.proofs.Flags.{both_true}
use Rattle.image.specs.declared.TextEntry.{TextEntry}
use Rattle.image.specs.declared.Definition.{Definition}
use Rattle.image.specs.Sections.{Sections, node_words, text_entry_words, definition_count, child_word, good_in, inside_among}
use Rattle.image.specs.Entries.{text_entry_of, definition_of, definition_in}
use Rattle.image.proofs.Entries.{named-entry, item-entry, definition-entry}
use Rattle.records.specs.Shown.{starts_next}
use Rattle.definitions.specs.Definitions.{first_item, number_of_items, items_before, items_used_up}
use Rattle.draft.specs.Source.{draft_of}
use Rattle.draft.specs.Draft.{draft_child_rule, draft_named_rule, draft_definition_rule, draft_item_rule}

-- ---- whole nodes, where the code has their words as a number

module _ (n w r : ℕ) (e : r ≡ w) where
  pub rest-none : n % r ≡ 0 → eqb (n % w) 0 ≡ true
  rest-none h = eq-eqb (n % w) 0 (sym (ap (λ (x : ℕ). n % x) e) ∙ h)

  pub rest_some : (n % r ≡ 0 → ⊥) → eqb (n % w) 0 ≡ false
  rest_some h = ne_eqb (n % w) 0 (λ z. h (ap (λ (x : ℕ). n % x) e ∙ z))

-- ---- a test that is the last of a rule

pub last_yes : (t r : Bool) (k : ℕ) → r ≡ t → r ≡ true → 0 ≡ unless t k
last_yes t r k e h = sym (pass t k (sym e ∙ h))

pub last_no : (t r : Bool) (k : ℕ) → r ≡ t → r ≡ false → k ≡ unless t k
last_no t r k e h = sym (fail t k (sym e ∙ h))

-- ---- a run of rules that are one test each

module _ (n k : ℕ) (b : Bool) (f : ℕ → ℕ) (p : first_of n f ≡ 0) (e : unless b k ≡ f n) where
  pub test-stops : (m : ℕ) → n < m → (k ≡ 0 → ⊥) → not b ≡ true → k ≡ first_of m f
  test-stops m h d q = first-broken m n k f h p (sym (fail b k (not-true b q)) ∙ e) d

  pub test_goes : not b ≡ false → first_of (n + 1) f ≡ 0
  test_goes q = rw add-one (first_next n f p (sym e ∙ pass b k (not-false b q)))

-- ---- ordered children, items

pub child-told : (v : ℕ) (ns cs : List ℕ) (count : ℕ) → count ≡ length ns / node_words v → (j x : ℕ) (b : Bool) → x ≡ get_or cs j 0 → b ≡ inside_among count x
    → unless b 19 ≡ draft_child_rule (draft_of v ns cs [] [] [] [] []) j
unfolding draft_child_rule child_word
child-told v ns cs count k j x b r e = ap (λ (t : Bool). unless t 19) (e ∙ ap (inside_among count) r ∙ ap (λ (n : ℕ). inside_among n (get_or cs j 0)) k)

pub item-told : (is ts : List ℕ) (j : ℕ) (entry : TextEntry) (b : Bool) → entry ≡ text_entry_of is j → b ≡ good_in ts entry.offset entry.len
    → unless b 19 ≡ draft_item_rule (draft_of 0 [] [] [] [] is [] ts) j
unfolding draft_item_rule
item-told is ts j entry b r e =
    ap (λ (x : Bool). unless x 19)
    (e ∙ ap (λ (x : TextEntry). good_in ts x.offset x.len) (r ∙ item-entry (draft_of 0 [] [] [] [] is [] ts) is j refl))

-- ---- named entries

pub entry-told : (v : ℕ) (ns ms ts : List ℕ) (count : ℕ) → count ≡ length ns / node_words v → (j : ℕ) (entry : TextEntry) (x : ℕ) → entry ≡ text_entry_of ms j
    → x ≡ (unless (good_in ts entry.offset entry.len) 19 ▸ unless (inside_among count entry.value) 19)
    → x ≡ draft_named_rule (draft_of v ns [] ms [] [] [] ts) j
unfolding draft_named_rule
entry-told v ns ms ts count k j entry x r e =
    e
    ∙ ap (λ (n : ℕ). unless (good_in ts entry.offset entry.len) 19 ▸ unless (inside_among n entry.value) 19) k
    ∙ ap (λ (y : TextEntry). unless (good_in ts y.offset y.len) 19 ▸ unless (inside_among (length ns / node_words v) y.value) 19)
    (r ∙ named-entry (draft_of v ns [] ms [] [] [] ts) ms j refl)

-- ---- definitions

module _ (ds is ts : List ℕ) (d : ℕ) (entry : Definition) (r : entry ≡ definition_of ds d) where
  abbrev lists : Sections
  lists = draft_of 0 [] [] [] ds is [] ts

  read : entry ≡ definition_in lists d
  read = r ∙ definition-entry lists ds d refl

  pub definition-told : (used x : ℕ) → used ≡ items_before lists d
      → x ≡ (unless (good_in ts entry.offset entry.len) 19 ▸ unless (starts_next entry.first entry.count used (length is / text_entry_words)) 19)
      → x ≡ draft_definition_rule lists d
  unfolding draft_definition_rule
  definition-told used x u e =
      e
      ∙ ap (λ (y : Definition). unless (good_in ts y.offset y.len) 19 ▸ unless (starts_next y.first y.count used (length is / text_entry_words)) 19) read
      ∙ ap
      (λ (n : ℕ). unless (good_in ts (definition_in lists d).offset (definition_in lists d).len) 19
      ▸ unless (starts_next (first_item lists d) (number_of_items lists d) n (length is / text_entry_words)) 19)
      u

  -- the items of a definition that passes end where the next one's begin
  pub used-next : draft_definition_rule lists d ≡ 0 → entry.first + entry.count ≡ items_before lists (d + 1)
  unfolding draft_definition_rule sum_of
  used-next p =
      let right = both_true (leb (first_item lists d + number_of_items lists d) (length is / text_entry_words)) _ (passed _ 18 (both _ _ p).1) in
      let start : first_item lists d ≡ items_before lists d = eqb-true _ _ right.1 in
      ap (λ (y : Definition). y.first + y.count) read ∙ ap (λ (n : ℕ). n + number_of_items lists d) start ∙ ap (λ (n : ℕ). items_before lists n) (sym (add-one d))

-- every refusal of a definition is 19
tests-only : (a b : Bool) → ((unless a 19 ▸ unless b 19) ≡ 0 → ⊥) → 19 ≡ (unless a 19 ▸ unless b 19)
unfolding unless ◌▸◌
tests-only true true q = absurd (q refl)
tests-only true false q = refl
tests-only false b q = refl

definition-only : (s : Sections) (d : ℕ) → (draft_definition_rule s d ≡ 0 → ⊥) → 19 ≡ draft_definition_rule s d
unfolding draft_definition_rule
definition-only s d q = tests-only _ _ q

module _ (s : Sections) (d : ℕ) (p : first_of d (draft_definition_rule s) ≡ 0) where
  pub definitions-stop : (x : ℕ) → d < definition_count s → x ≡ draft_definition_rule s d → (x ≡ 0 → ⊥)
      → x ≡ (first_of (definition_count s) (draft_definition_rule s) ▸ unless (items_used_up s) 19)
  definitions-stop x h e q =
      refused (first_of (definition_count s) (draft_definition_rule s)) (unless (items_used_up s) 19) x
      (first-broken (definition_count s) d x (draft_definition_rule s) h p e q) q

  module _ (h : d ≤ definition_count s) (k : definition_count s ≤ d) (used all : ℕ) (u : used ≡ items_before s d) (v : all ≡ length s.items / text_entry_words) where
    past-definitions : (first_of (definition_count s) (draft_definition_rule s) ▸ unless (items_used_up s) 19) ≡ unless (eqb used all) 19
    unfolding items_used_up
    past-definitions =
        let e : d ≡ definition_count s = omega arith in
        second (first_of (definition_count s) (draft_definition_rule s)) (unless (items_used_up s) 19)
        (sym (first_done (definition_count s) d (draft_definition_rule s) h k p))
        ∙ ap (λ (n : ℕ). unless (eqb n (length s.items / text_entry_words)) 19) (ap (items_before s) (sym e) ∙ sym u) ∙ ap (λ (n : ℕ). unless (eqb used n) 19) (sym v)

    pub items-used : used ≡ all → 0 ≡ (first_of (definition_count s) (draft_definition_rule s) ▸ unless (items_used_up s) 19)
    items-used q = sym (past-definitions ∙ pass (eqb used all) 19 (eq-eqb used all q))

    pub items_left : (used ≡ all → ⊥) → 19 ≡ (first_of (definition_count s) (draft_definition_rule s) ▸ unless (items_used_up s) 19)
    items_left q = sym (past-definitions ∙ fail (eqb used all) 19 (ne_eqb used all q))
