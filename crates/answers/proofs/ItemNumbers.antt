-- The numbers of a list item are below the counts of definitions and items, so that words hold them where they hold the counts.
use Rattle.std.specs.Prelude.{None, Option, Some}
use Prim.Native.Nat.{ℕ, zero, suc, ◌+◌, ◌≤◌, ◌<◌, ◌^◌}
use mathlib.Core.Path.{◌≡◌, refl}
use mathlib.Core.List.{List}
use mathlib.Core.Bool.{Bool, true, false, cond, not, ◌||◌}
use Rattle.std.proofs.lemmas.Option.{same_Some}
use Rattle.std.proofs.lemmas.Option.{none-some}
use native.Mathlib.Omega.{arith}
use lib.ListN.{length}
use lib.Dec.{leb}
use borrow.Author.Tests.{le-leb, leb-true}
use Rattle.laws.specs.Counted.{last_of}
use Rattle.texts.specs.Text.{same}
use Rattle.texts.specs.Dots.{has_dot, before_dot, after_dot}
use Rattle.utf8.specs.White.{blank}
use Rattle.words.specs.Words.{NONE}
use Rattle.image.specs.Sections.{Sections, definition_count, item_count}
use Rattle.image.specs.Header.{sections_of}
use Rattle.image.proofs.OpenedHeader.{Opens, view-inside, view-counts}
use Rattle.definitions.specs.Definitions.{first_item, number_of_items}
use Rattle.lookups.specs.declared.ListItem.{ListItem}
use Rattle.lookups.specs.Lookup.{definition_name, item_place, answering_place, searched, answers, list_item_in, list_item_at, last_item, list_item}
use Rattle.lookups.proofs.Lookups.{place-below}
use Rattle.answers.specs.AnswerWords.{list_item_answer}
use Rattle.answers.specs.Exports.{words_of_list_item}

last-below : (n : ℕ) (t : ℕ → Bool) (d : ℕ) → last_of n t ≡ Some d → d < n
unfolding last_of
last-below zero t d e = absurd (none-some _ e)
last-below (suc n) t d e = by (t n) e (last-below n t d)
  where
    by : (b : Bool) → cond b (Some n) (last_of n t) ≡ Some d → (last_of n t ≡ Some d → d < n) → d < suc n
    by true q r = let z = same_Some n d q in omega arith
    by false q r = let h = r q in omega arith

module _ (s : Sections) where
  abbrev Numbers : Option ListItem → Type 0
  Numbers a = (i : ListItem) → a ≡ Some i → (i.definition < definition_count s) × (i.item < item_count s)

  item-apart : (i : ListItem) → None ≡ Some i → ⊥
  item-apart i e = let z : ◌≡◌ {A = ℕ} 0 1 = cc in omega arith

  item_inner : (x y : ListItem) → Some x ≡ Some y → x ≡ y
  item_inner x y e = cc

  item-below : (d : ℕ) (name : List ℕ) (j : ℕ) → item_place s d name ≡ Some j → first_item s d + j < item_count s
  unfolding item_place
  item-below d name j e = by (leb (first_item s d + number_of_items s d) (item_count s)) refl e
    where
      by : (b : Bool) → leb (first_item s d + number_of_items s d) (item_count s) ≡ b
          → cond b (searched s.items s.strings (first_item s d) (number_of_items s d) name) None ≡ Some j → first_item s d + j < item_count s
      by true h q =
          let below = place-below s.items s.strings (first_item s d) (number_of_items s d) name j q in
          let whole = leb-true (first_item s d + number_of_items s d) (item_count s) h in
          omega arith
      by false h q = absurd (none-some _ q)

  place-item : (given : Bool) (origin name : List ℕ) (d j : ℕ) → answering_place s given origin name d ≡ Some j → item_place s d name ≡ Some j
  unfolding answering_place
  place-item given origin name d j e = by (not given || same origin (definition_name s d)) e
    where
      by : (b : Bool) → cond b (item_place s d name) None ≡ Some j → item_place s d name ≡ Some j
      by true q = q
      by false q = absurd (none-some _ q)

  last-numbers : (given : Bool) (origin name : List ℕ) → Numbers (last_item s given origin name)
  unfolding last_item
  last-numbers given origin name = by (last_of (definition_count s) (answers s given origin name)) refl
    where
      at : (d : ℕ) → d < definition_count s → (o : Option ℕ) → answering_place s given origin name d ≡ o → Numbers (list_item_at s d o)
      at d h None p i e = absurd (item-apart i e)
      at d h (Some j) p i e =
          let z = item_inner _ i e in
          rw (← z) (h, item-below d name j (place-item given origin name d j p))

      by : (o : Option ℕ) → last_of (definition_count s) (answers s given origin name) ≡ o → Numbers (list_item_in s given origin name o)
      by None p i e = absurd (item-apart i e)
      by (Some d) p i e = at d (last-below (definition_count s) (answers s given origin name) d p) (answering_place s given origin name d) refl i e

  item-numbers : (name : List ℕ) → Numbers (list_item s name)
  unfolding list_item
  item-numbers name = by (blank name) (has_dot name)
    where
      by : (a b : Bool)
          → Numbers (cond a None (cond b (last_item s true (before_dot name) (after_dot name)) (last_item s false name name)))
      by true b i e = absurd (item-apart i e)
      by false true i e = last-numbers true (before_dot name) (after_dot name) i e
      by false false i e = last-numbers false name name i e

-- ---- an image that words can bound

module _ (bs : List ℕ) (o : Opens bs) (short : length bs < 2 ^ 32) where
  abbrev own : Sections
  own = sections_of bs

  pub definitions_few : definition_count own ≤ NONE
  definitions_few =
      let within = (view-inside bs o).definitions in
      let long = (view-counts bs o).definitions in
      omega arith

  items_few : item_count own ≤ NONE
  items_few =
      let within = (view-inside bs o).items in
      let long = (view-counts bs o).items in
      omega arith

  -- the words of the item that a name means
  pub item-words : (name : List ℕ) → list_item_answer (list_item own name) ≡ words_of_list_item (list_item own name)
  item-words name = by (list_item own name) (item-numbers own name)
    where
      by : (a : Option ListItem) → Numbers own a → list_item_answer a ≡ words_of_list_item a
      by (Some i) h =
          let below = h i refl in
          let d = below.0 in
          let j = below.1 in
          rw (le-leb i.definition NONE (omega (arith, definitions_few)), le-leb i.item NONE (omega (arith, items_few)))
      by None h = refl
