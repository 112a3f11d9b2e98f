-- What the code reads out of the bytes of definitions and items, in the terms of the rules.
use Prim.Native.Nat.{ℕ, suc, ◌+◌, ◌-◌, ◌/◌, ◌≤◌, ◌<◌}
use mathlib.Core.Path.{◌≡◌, sym, ap, ◌∙◌}
use mathlib.Core.List.{List}
use mathlib.Core.Bool.{Bool, true, ◌&&◌}
use native.Mathlib.Omega.{arith}
use native.Mathlib.Numerals.{add-one}
use lib.Dec.{eqb, leb}
use lib.ListN.{length}
use Rattle.laws.specs.Refusal.{unless, ◌▸◌, first_of}
use Rattle.laws.specs.Counted.{sum_of}
use Rattle.laws.proofs.First.{first, second}
use Rattle.words.specs.Words.{words_of}
use Rattle.words.proofs.Words.{length-words}
use Rattle.texts.specs.Text.{rising}
use Rattle.image.specs.declared.TextEntry.{TextEntry}
use Rattle.image.specs.declared.Definition.{Definition}
use Rattle.image.specs.Sections.{Sections, text_entry_words, definition_words, text_entry_size, definition_size, definition_word, good_in, item_count}
use Rattle.image.specs.Entries.{text_entry_of, definition_of, entry_text_from, definition_text_in}
use Rattle.image.proofs.Parts.{text-entry-count}
use Rattle.image.proofs.Entries.{item-entry, definition-entry}
use Rattle.definitions.specs.Definitions.{definition_text, item_text, number_of_items, items_before, item_rule_from, definition_rule, items_used_up, definitions_rule}
use Rattle.definitions.specs.Parts.{definition_parts}
use Rattle.image.proofs.RisingTexts.{rising-like}
use Rattle.laws.proofs.Chains.{first-broken}
use Rattle.definitions.proofs.Definitions.{definition-passed}

-- ---- entries

module _ (s : Sections) (ws : List ℕ) where
  pub item-texts : s.items ≡ ws → (first j : ℕ) → rising (entry_text_from ws s.strings first) j ≡ rising (λ k. item_text s (first + k)) j
  unfolding entry_text_from
  item-texts e first j = rising-like (entry_text_from ws s.strings first) (λ k. item_text s (first + k)) (λ k. rw (item-entry s ws (first + k) e)) j

  pub definition-texts : s.definitions ≡ ws → (d : ℕ) → rising (definition_text_in ws s.strings) d ≡ rising (definition_text s) d
  unfolding definition_text_in
  definition-texts e d = rising-like (definition_text_in ws s.strings) (definition_text s) (λ k. rw (definition-entry s ws k e)) d

-- ---- rules by the answers of their tests

pub item_by : (s : Sections) (ws : List ℕ) (first j : ℕ) (e : TextEntry) (good rises : Bool) → s.items ≡ ws → e ≡ text_entry_of ws (first + j)
    → good ≡ good_in s.strings e.offset e.len → rises ≡ rising (entry_text_from ws s.strings first) j
    → item_rule_from s first j ≡ (unless good 17 ▸ unless rises 17)
unfolding item_rule_from
item_by s ws first j e good rises q r g u = rw (g, r, item-entry s ws (first + j) q, u, item-texts s ws q first j)

pub definition_by : (s : Sections) (ws : List ℕ) (d used : ℕ) (e : Definition) (good rises : Bool) → s.definitions ≡ ws → used ≡ items_before s d
    → e ≡ definition_of ws d → good ≡ good_in s.strings e.offset e.len → rises ≡ rising (definition_text_in ws s.strings) d
    → definition_rule s d
    ≡ (unless good 10 ▸ unless rises 17 ▸ unless (leb (e.first + e.count) (item_count s) && eqb e.first used) 11 ▸ first_of e.count (item_rule_from s e.first))
unfolding definition_rule
definition_by s ws d used e good rises q n r g u = rw (g, n, r, definition-entry s ws d q, u, definition-texts s ws q d)

-- a definition whose text is good and rises
pub definition-past : (s : Sections) (ws : List ℕ) (d used : ℕ) (e : Definition) (good rises : Bool) → s.definitions ≡ ws → used ≡ items_before s d
    → e ≡ definition_of ws d → good ≡ good_in s.strings e.offset e.len → rises ≡ rising (definition_text_in ws s.strings) d → good ≡ true → rises ≡ true
    → definition_rule s d ≡ (unless (leb (e.first + e.count) (item_count s) && eqb e.first used) 11 ▸ first_of e.count (item_rule_from s e.first))
unfolding unless ◌▸◌
definition-past s ws d used e good rises q n r g u x y = definition_by s ws d used e good rises q n r g u ∙ rw (x, y)

-- ---- runs by the lengths of the bytes

-- the refusals of the definitions, then of items that are left over
pub definitions_run : (definitions items strings : List ℕ)
    → definitions_rule (definition_parts definitions items strings)
    ≡ (first_of (length definitions / definition_size) (definition_rule (definition_parts definitions items strings))
    ▸ unless (eqb (items_before (definition_parts definitions items strings) (length definitions / definition_size)) (length items / text_entry_size)) 17)
unfolding definitions_rule items_used_up
definitions_run definitions items strings =
    let s = definition_parts definitions items strings in
    let n : length (words_of definitions) / definition_words ≡ length definitions / definition_size = omega (arith, length-words definitions) in
    ap (λ (k : ℕ). first_of k (definition_rule s) ▸ unless (eqb (items_before s k) (length (words_of items) / text_entry_words)) 17) n
    ∙ ap (λ (k : ℕ). first_of (length definitions / definition_size) (definition_rule s) ▸ unless (eqb (items_before s (length definitions / definition_size)) k) 17) (text-entry-count items)

-- the loop over definitions: the one at d is refused; none is; its items, whose count w was read, are added to those used
module _ (definitions items strings : List ℕ) (d : ℕ) where
  abbrev parts : Sections
  parts = definition_parts definitions items strings

  pub definitions-stop : (r : ℕ) → d < length definitions / definition_size → first_of d (definition_rule parts) ≡ 0 → r ≡ definition_rule parts d → (r ≡ 0 → ⊥) → r ≡ definitions_rule parts
  definitions-stop r h p q z =
      let n = length definitions / definition_size in
      let e : r ≡ suc (r - 1) = omega arith in
      e
      ∙ sym (definitions_run definitions items strings
      ∙ first (first_of n (definition_rule parts)) (unless (eqb (items_before parts n) (length items / text_entry_size)) 17) (r - 1)
      (sym (first-broken n d r (definition_rule parts) h p q z) ∙ e))

  pub definitions_end : (used : ℕ) → d ≤ length definitions / definition_size → length definitions / definition_size ≤ d → used ≡ items_before parts d → first_of d (definition_rule parts) ≡ 0
      → definitions_rule parts ≡ unless (eqb used (length items / text_entry_size)) 17
  definitions_end used h g u p =
      let n = length definitions / definition_size in
      let e : n ≡ d = omega arith in
      definitions_run definitions items strings
      ∙ second (first_of n (definition_rule parts)) (unless (eqb (items_before parts n) (length items / text_entry_size)) 17) (ap (λ (k : ℕ). first_of k (definition_rule parts)) e ∙ p)
      ∙ ap (λ (k : ℕ). unless (eqb k (length items / text_entry_size)) 17) (ap (items_before parts) e ∙ sym u)

  count-read : (e : Definition) → e ≡ definition_of (words_of definitions) d → e.count ≡ number_of_items parts d
  unfolding definition_word definition_of
  count-read e q = ap (λ (x : Definition). x.count) q

  pub used-more : (used : ℕ) (e : Definition) → used ≡ items_before parts d → e ≡ definition_of (words_of definitions) d
      → used + e.count ≡ items_before parts (d + 1)
  unfolding sum_of
  used-more used e u q = rw (add-one, u, count-read e q)

  pub used-inside : (used : ℕ) (e : Definition) → used ≡ items_before parts d → e ≡ definition_of (words_of definitions) d → definition_rule parts d ≡ 0
      → used + e.count ≤ length items / text_entry_size
  used-inside used e u h p =
      let q = definition-passed parts d p in
      let n : item_count parts ≡ length items / text_entry_size = text-entry-count items in
      let k : e.count ≡ number_of_items parts d = count-read e h in
      rw (u, k, ← q.start, ← n) q.inside
