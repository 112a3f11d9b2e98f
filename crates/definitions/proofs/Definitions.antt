-- Definitions and items where nothing is refused: what each is, that their texts are sorted and differ, and that sections alike in what is read are refused
-- alike.
use Prim.Native.Nat.{ℕ, ◌+◌, ◌≤◌, ◌<◌}
use mathlib.Core.Path.{◌≡◌}
use mathlib.Core.List.{List}
use mathlib.Core.Bool.{true}
use lib.Dec.{leb, eqb}
use borrow.Author.Tests.{leb-true, eqb-true, le-leb, eq-eqb}
use Rattle.laws.specs.Refusal.{first_of, unless, ◌▸◌}
use Rattle.laws.proofs.First.{both, passed, pass, then, first_all, first_of_lem}
use Rattle.words.specs.Words.{words_of}
use Rattle.texts.specs.Text.{before, rising}
use Rattle.image.specs.Sections.{Sections, definition_count, item_count, definition_word, item_word}
use Rattle.definitions.specs.Definitions.{definition_text, first_item, number_of_items, item_text, item_text_of, good_definition, good_item, items_before, items_right, item_rule_from, item_rule, definition_rule, items_used_up, definitions_rule}
use Rattle.definitions.specs.Parts.{definition_parts}
use Rattle.image.proofs.RisingTexts.{rising-before, rising-once, rising-like}
use Rattle.laws.proofs.RuleRuns.{first-like, sum_like}
use Rattle.laws.proofs.Flags.{both_true}

-- ---- an item and a definition that pass

pub record Item (s : Sections) (first j : ℕ) : Type 0 where
  pub text : good_item s (first + j) ≡ true
  pub order : rising (λ k. item_text s (first + k)) j ≡ true

pub item-passed : (s : Sections) (first j : ℕ) → item_rule_from s first j ≡ 0 → Item s first j
unfolding item_rule_from
item-passed s first j p =
    let text = good_item s (first + j) in
    let order = rising (λ k. item_text s (first + k)) j in
    let a = both (unless text 17) (unless order 17) p in
    record { text = passed text 16 a.0; order = passed order 16 a.1 }

pub item-passes : (s : Sections) (first j : ℕ) → Item s first j → item_rule_from s first j ≡ 0
unfolding item_rule_from unless ◌▸◌
item-passes s first j e = rw (e.text, e.order)

pub record Definition (s : Sections) (d : ℕ) : Type 0 where
  pub text : good_definition s d ≡ true
  pub order : rising (definition_text s) d ≡ true
  pub inside : first_item s d + number_of_items s d ≤ item_count s
  pub start : first_item s d ≡ items_before s d
  pub items : (j : ℕ) → j < number_of_items s d → Item s (first_item s d) j

pub definition-passed : (s : Sections) (d : ℕ) → definition_rule s d ≡ 0 → Definition s d
unfolding definition_rule
definition-passed s d p =
    let text = good_definition s d in
    let order = rising (definition_text s) d in
    let right = items_right s d in
    let rest = first_of (number_of_items s d) (item_rule s d) in
    let a = both (unless text 10) (unless order 17 ▸ unless right 11 ▸ rest) p in
    let b = both (unless order 17) (unless right 11 ▸ rest) a.1 in
    let c = both (unless right 11) rest b.1 in
    let q = both_true (leb (first_item s d + number_of_items s d) (item_count s)) (eqb (first_item s d) (items_before s d)) (passed right 10 c.0) in
    record {
      text = passed text 9 a.0;
      order = passed order 16 b.0;
      inside = leb-true (first_item s d + number_of_items s d) (item_count s) q.0;
      start = eqb-true (first_item s d) (items_before s d) q.1;
      items = λ j h. item-passed s (first_item s d) j (first_all (number_of_items s d) (item_rule s d) c.1 j h);
    }

pub definition-passes : (s : Sections) (d : ℕ) → Definition s d → definition_rule s d ≡ 0
unfolding definition_rule unless ◌▸◌
definition-passes s d e =
    let items = first_of_lem (number_of_items s d) (item_rule s d) (λ j h. item-passes s (first_item s d) j (e.items j h)) in
    rw (e.text, e.order, le-leb (first_item s d + number_of_items s d) (item_count s) e.inside, eq-eqb (first_item s d) (items_before s d) e.start, items)

-- ---- all of them

pub record Definitions (s : Sections) : Type 0 where
  pub each : (d : ℕ) → d < definition_count s → Definition s d
  pub used_up_lem : items_before s (definition_count s) ≡ item_count s

pub definitions-passed : (s : Sections) → definitions_rule s ≡ 0 → Definitions s
unfolding definitions_rule items_used_up
definitions-passed s p =
    let a = both (first_of (definition_count s) (definition_rule s)) (unless (items_used_up s) 17) p in
    record {
      each = λ d h. definition-passed s d (first_all (definition_count s) (definition_rule s) a.0 d h);
      used_up_lem = eqb-true (items_before s (definition_count s)) (item_count s) (passed (items_used_up s) 16 a.1);
    }

pub definitions-pass : (s : Sections) → Definitions s → definitions_rule s ≡ 0
unfolding definitions_rule items_used_up
definitions-pass s e =
    then (first_of (definition_count s) (definition_rule s)) (unless (items_used_up s) 17)
    (first_of_lem (definition_count s) (definition_rule s) (λ d h. definition-passes s d (e.each d h)))
    (pass (items_used_up s) 17 (eq-eqb (items_before s (definition_count s)) (item_count s) e.used_up_lem))

module _ (s : Sections) (e : Definitions s) where
  -- each text comes before all that follow, and no text stands twice
  pub definition-before : (d k : ℕ) → d < k → k < definition_count s → before (definition_text s d) (definition_text s k) ≡ true
  definition-before = rising-before (definition_text s) (definition_count s) (λ d h. (e.each d h).order)

  pub definition-once : (d k : ℕ) → d < definition_count s → k < definition_count s → definition_text s d ≡ definition_text s k → d ≡ k
  definition-once = rising-once (definition_text s) (definition_count s) (λ d h. (e.each d h).order)

  -- the same of the items of one definition
  module _ (d : ℕ) (h : d < definition_count s) where
    pub item-before : (j k : ℕ) → j < k → k < number_of_items s d → before (item_text_of s d j) (item_text_of s d k) ≡ true
    item-before = rising-before (item_text_of s d) (number_of_items s d) (λ j g. ((e.each d h).items j g).order)

    pub item-once : (j k : ℕ) → j < number_of_items s d → k < number_of_items s d → item_text_of s d j ≡ item_text_of s d k → j ≡ k
    item-once = rising-once (item_text_of s d) (number_of_items s d) (λ j g. ((e.each d h).items j g).order)

-- ---- sections with the same definitions, items and strings

module _ (s r : Sections) (items : s.items ≡ r.items) (strings : s.strings ≡ r.strings) where
  item-word-like : (j k : ℕ) → item_word s j k ≡ item_word r j k
  unfolding item_word
  item-word-like j k = rw items

  item-text-like : (j : ℕ) → item_text s j ≡ item_text r j
  item-text-like j = rw (item-word-like j 0, item-word-like j 1, strings)

  pub item-like : (first j : ℕ) → item_rule_from s first j ≡ item_rule_from r first j
  unfolding item_rule_from
  item-like first j =
      rw (rising-like (λ k. item_text s (first + k)) (λ k. item_text r (first + k)) (λ k. item-text-like (first + k)) j, item-word-like (first + j) 0, item-word-like (first + j) 1, strings)

  module _ (definitions : s.definitions ≡ r.definitions) where
    definition-word-like : (d k : ℕ) → definition_word s d k ≡ definition_word r d k
    unfolding definition_word
    definition-word-like d k = rw definitions

    definition-text-like : (d : ℕ) → definition_text s d ≡ definition_text r d
    definition-text-like d = rw (definition-word-like d 0, definition-word-like d 1, strings)

    pub before-like : (d : ℕ) → items_before s d ≡ items_before r d
    before-like d = sum_like d (number_of_items s) (number_of_items r) (λ k. definition-word-like k 3)

    definition-like : (d : ℕ) → definition_rule s d ≡ definition_rule r d
    unfolding definition_rule
    definition-like d =
        rw (
          first-like (number_of_items s d) (item_rule_from s (first_item s d)) (item_rule_from r (first_item s d)) (item-like (first_item s d)),
          rising-like (definition_text s) (definition_text r) definition-text-like d,
          before-like d,
          definition-word-like d 0,
          definition-word-like d 1,
          definition-word-like d 2,
          definition-word-like d 3,
          strings,
          items,
        )

    -- are refused alike
    pub definitions-like : definitions_rule s ≡ definitions_rule r
    unfolding definitions_rule items_used_up
    definitions-like =
        rw (first-like (definition_count s) (definition_rule s) (definition_rule r) definition-like, before-like (definition_count s), items, definitions)

-- the sections of an image are refused as the parts that the code is lent
pub definitions-parts : (s : Sections) (definitions items strings : List ℕ) → s.definitions ≡ words_of definitions → s.items ≡ words_of items → s.strings ≡ strings
    → definitions_rule s ≡ definitions_rule (definition_parts definitions items strings)
definitions-parts s definitions items strings a b c = definitions-like s (definition_parts definitions items strings) b c a
