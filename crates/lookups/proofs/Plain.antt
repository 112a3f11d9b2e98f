-- On sections whose rules passed, the look-ups by name have their plain reading.
use Rattle.std.specs.Prelude.{None, Option, Some, is_some}
use Prim.Native.Nat.{ℕ, zero, suc, ◌+◌, ◌*◌, ◌≤◌, ◌<◌}
use mathlib.Core.Path.{◌≡◌, refl, sym, ap, ◌∙◌, subst}
use mathlib.Core.List.{List}
use mathlib.Core.Bool.{Bool, true, false, cond, ◌||◌, not, true≢false}
use Rattle.std.proofs.lemmas.Option.{none-some}
use native.Mathlib.Omega.{arith}
use native.Mathlib.Nat.{add-zero, not-suc-le-zero}
use native.Mathlib.Decide.{ℕ_discrete}
use borrow.Author.Tests.{le-leb}
use Rattle.laws.specs.Counted.{last_of}
use Rattle.laws.proofs.Flags.{both_true}
use Rattle.texts.specs.Text.{same, rising}
use Rattle.texts.proofs.Text.{same-equal, equal-same}
use Rattle.image.specs.Sections.{Sections, text_entry_words, node_count, named_count, definition_count, item_count, f, named_word, definition_word, item_word, text_or_empty, is_container, inside, inside_container}
use Rattle.image.proofs.Parts.{good-part}
use Rattle.records.specs.Records.{number_of_named}
use Rattle.tree.specs.Tree.{named_at, named_text, entries_rule, tree_rule}
use Rattle.tree.specs.Parts.{Fit}
use Rattle.tree.proofs.Entries.{NamedRight, named-pass}
use Rattle.tree.proofs.PlainTree.{tree-right}
use Rattle.definitions.specs.Definitions.{definition_text, first_item, number_of_items, item_text_of, definitions_rule}
use Rattle.image.proofs.RisingTexts.{rising-before}
use Rattle.definitions.proofs.Definitions.{Definition, Definitions, definitions-passed}
use Rattle.lookups.specs.declared.ListItem.{ListItem}
use Rattle.views.specs.View.{signed}
use Rattle.lookups.specs.Lookup.{entry_text, searched, found_at, named_by, find_named, item_place, definition_name, answering_place, answers, list_item_at, list_item_in, last_item}
use Rattle.lookups.specs.Plain.{HasName, NodeNamed, NamedLookup, Holds, LastHolds, ItemLookup}
use Rattle.lookups.proofs.HalvingSearch.{Rising, found-there, there-found}

-- ---- a search among entries whose texts are u 0, u 1, .. and rise

module _ (words strings : List ℕ) (from count : ℕ) (u : ℕ → List ℕ) (like : (j : ℕ) → j < count → entry_text words strings (from + j) ≡ u j)
    (up : (j : ℕ) → j < count → rising u j ≡ true) (name : List ℕ) where
  abbrev t : ℕ → List ℕ
  t j = entry_text words strings (from + j)

  pub search_found : (j : ℕ) → searched words strings from count name ≡ Some j → (j < count) × (u j ≡ name)
  unfolding searched
  search_found j e =
      let r = found-there t name count 0 count j e in
      (r.below, sym (like j r.below) ∙ r.same)

  rises : Rising t name 0 count
  rises = record { rises = λ i j a l h. rw (like i (omega arith), like j h) (rising-before u count up i j l h) }

  pub search_there : (j : ℕ) → j < count → u j ≡ name → searched words strings from count name ≡ Some j
  unfolding searched
  search_there j h e = there-found t name count 0 count j (omega arith) rises (record { from = omega arith; below = h; same = like j h ∙ e })

-- ---- a named child

named-entry-text : (s : Sections) (k : ℕ) → entry_text s.named s.strings k ≡ text_or_empty s.strings (named_word s k 0) (named_word s k 1)
unfolding named_word
named-entry-text s k = rw (add-zero (k * text_entry_words))

node-apart : (n : ℕ) → Some n ≡ None → ⊥
node-apart n h = let z : ◌≡◌ {A = ℕ} 0 1 = cc in omega arith

node-equal : (m n : ℕ) → Some m ≡ Some n → m ≡ n
node-equal m n h = cc

module _ (s : Sections) (i : ℕ) (box : inside_container s i ≡ true) (range : f s i 5 + f s i 6 ≤ named_count s) (passed : entries_rule s i ≡ 0) where
  each : (j : ℕ) → j < f s i 6 → NamedRight s i j
  unfolding number_of_named
  each j h = named-pass s i passed j (rw (both_true (inside s i) (is_container s i) box).1 h)

  like : (j : ℕ) → j < f s i 6 → entry_text s.named s.strings (f s i 5 + j) ≡ named_text s i j
  like j h = named-entry-text s (f s i 5 + j) ∙ good-part s.strings (named_at s i j 0) (named_at s i j 1) (each j h).text

  order : (j : ℕ) → j < f s i 6 → rising (named_text s i) j ≡ true
  order j h = (each j h).order

  module _ (name : List ℕ) where
    abbrev place : Option ℕ
    place = searched s.named s.strings (f s i 5) (f s i 6) name

    by_place : find_named s i name ≡ found_at (λ j. named_at s i j 2) place
    unfolding find_named named_by named_word
    by_place = rw (box, le-leb (f s i 5 + f s i 6) (named_count s) range)

    found_at_lem : (x : Option ℕ) (n : ℕ) → place ≡ x → found_at (λ j. named_at s i j 2) x ≡ Some n → NodeNamed s i name n
    found_at_lem None n e h = absurd (node-apart n (sym h))
    found_at_lem (Some j) n e h =
        let r = search_found s.named s.strings (f s i 5) (f s i 6) (named_text s i) like order name j e in
        record { entry = j; bears = record { place = r.0; text = r.1 }; node = node-equal (named_at s i j 2) n h }

    there_at : (j : ℕ) → HasName s i name j → find_named s i name ≡ Some (named_at s i j 2)
    there_at j b =
        by_place
        ∙ ap (found_at (λ k. named_at s i k 2)) (search_there s.named s.strings (f s i 5) (f s i 6) (named_text s i) like order name j b.place b.text)

    nowhere : (x : Option ℕ) → place ≡ x → ((j : ℕ) → HasName s i name j → ⊥) → found_at (λ j. named_at s i j 2) x ≡ None
    nowhere None e h = refl
    nowhere (Some j) e h =
        let r = search_found s.named s.strings (f s i 5) (f s i 6) (named_text s i) like order name j e in
        absurd (h j (record { place = r.0; text = r.1 }))

  pub named-read : NamedLookup s i
  named-read =
      record {
        answered = λ name n h. found_at_lem name (place name) n refl (sym (by_place name) ∙ h);
        borne = λ name n b. there_at name b.entry b.bears ∙ ap Some b.node;
        missed = λ name h j b. node-apart (named_at s i j 2) (sym (there_at name j b) ∙ h);
        missing = λ name h. by_place name ∙ nowhere name (place name) refl h;
      }

-- of every container of a tree that passed
pub tree-named-read : (s : Sections) → Fit s → tree_rule s ≡ 0 → (i : ℕ) → i < node_count s → inside_container s i ≡ true → NamedLookup s i
tree-named-read s fit p i h box =
    named-read s i box (fit.ranges i h (both_true (inside s i) (is_container s i) box).1).named (tree-right s p i h).entries

-- ---- the last number that passes a test

pub record Last (n : ℕ) (t : ℕ → Bool) (d : ℕ) : Type 0 where
  pub below : d < n
  pub passes : t d ≡ true
  pub last : (e : ℕ) → d < e → e < n → t e ≡ false

module _ (t : ℕ → Bool) where
  last_step : (n d : ℕ) (b : Bool) → t n ≡ b → (last_of n t ≡ Some d → Last n t d) → cond b (Some n) (last_of n t) ≡ Some d → Last (suc n) t d
  last_step n d true q next e =
      let z : n ≡ d = cc in
      record { below = omega arith; passes = ap t (sym z) ∙ q; last = λ x a b. absurd (omega arith) }
  last_step n d false q next e =
      let r = next e in
      record { below = omega arith; passes = r.passes; last = λ x a b. end x (ℕ_discrete x n) r.last a b }
    where
      end : (x : ℕ) → Dec (x ≡ n) → ((y : ℕ) → d < y → y < n → t y ≡ false) → d < x → x < suc n → t x ≡ false
      end x (yes e) l a b = ap t e ∙ q
      end x (no e) l a b = l x a (omega arith)

  pub last_some : (n d : ℕ) → last_of n t ≡ Some d → Last n t d
  unfolding last_of
  last_some zero d e = absurd (let z : ◌≡◌ {A = ℕ} 0 1 = cc in omega arith)
  last_some (suc n) d e = last_step n d (t n) refl (last_some n d) e

  none-step : (n d : ℕ) (b : Bool) → t n ≡ b → (last_of n t ≡ None → d < n → t d ≡ false) → cond b (Some n) (last_of n t) ≡ None → d < suc n → t d ≡ false
  none-step n d true q next e h = absurd (let z : ◌≡◌ {A = ℕ} 0 1 = cc in omega arith)
  none-step n d false q next e h =
      elim (ℕ_discrete d n) [
        | yes z ↦ ap t z ∙ q
        | no z ↦ next e (omega arith)
      ]

  pub last_none : (n d : ℕ) → last_of n t ≡ None → d < n → t d ≡ false
  unfolding last_of
  last_none zero d e h = absurd (not-suc-le-zero h)
  last_none (suc n) d e h = none-step n d (t n) refl (last_none n d) e h

-- by another test
pub last-like : (n : ℕ) (t u : ℕ → Bool) → ((d : ℕ) → d < n → t d ≡ u d) → last_of n t ≡ last_of n u
unfolding last_of
last-like zero t u h = refl
last-like (suc n) t u h = rw (h n (omega arith), last-like n t u (λ d l. h d (omega arith)))

-- where none passes, and where one is known to be the last
pub last-none_of : (n : ℕ) (t : ℕ → Bool) → ((d : ℕ) → d < n → t d ≡ false) → last_of n t ≡ None
unfolding last_of
last-none_of zero t h = refl
last-none_of (suc n) t h = rw (h n (omega arith)) (last-none_of n t (λ d l. h d (omega arith)))

pub last_is : (n : ℕ) (t : ℕ → Bool) (d : ℕ) → Last n t d → last_of n t ≡ Some d
unfolding last_of
last_is zero t d l = absurd (omega (arith, l.below))
last_is (suc n) t d l = by (ℕ_discrete d n) (λ k. last_is n t d k)
  where
    by : Dec (d ≡ n) → (Last n t d → last_of n t ≡ Some d) → cond (t n) (Some n) (last_of n t) ≡ Some d
    by (yes e) next = rw (ap t (sym e) ∙ l.passes) (ap Some (sym e))
    by (no e) next =
        rw (l.last n (omega (arith, l.below)) (omega arith))
        (next (record { below = omega (arith, l.below); passes = l.passes; last = λ x a b. l.last x a (omega arith) }))

-- ---- a list item

chosen : (b : Bool) (x : Option ℕ) (j : ℕ) → cond b x None ≡ Some j → (b ≡ true) × (x ≡ Some j)
chosen true x j e = (refl, e)
chosen false x j e = absurd (none-some j e)

item-entry-text : (s : Sections) (k : ℕ) → entry_text s.items s.strings k ≡ text_or_empty s.strings (item_word s k 0) (item_word s k 1)
unfolding item_word
item-entry-text s k = rw (add-zero (k * text_entry_words))

item-apart : (a : ListItem) → Some a ≡ None → ⊥
item-apart a h = let z : ◌≡◌ {A = ℕ} 0 1 = cc in omega arith

item-equal : (a b : ListItem) → Some a ≡ Some b → a ≡ b
item-equal a b h = cc

module _ (s : Sections) (passed : Definitions s) (given : Bool) (origin name : List ℕ) where
  module _ (d : ℕ) (h : d < definition_count s) where
    its : Definition s d
    its = passed.each d h

    item-like : (j : ℕ) → j < number_of_items s d → entry_text s.items s.strings (first_item s d + j) ≡ item_text_of s d j
    item-like j l =
        item-entry-text s (first_item s d + j)
        ∙ good-part s.strings (item_word s (first_item s d + j) 0) (item_word s (first_item s d + j) 1) (its.items j l).text

    item-order : (j : ℕ) → j < number_of_items s d → rising (item_text_of s d) j ≡ true
    item-order j l = (its.items j l).order

    in_plain : item_place s d name ≡ searched s.items s.strings (first_item s d) (number_of_items s d) name
    unfolding item_place
    in_plain = rw (le-leb (first_item s d + number_of_items s d) (item_count s) its.inside)

    name-plain : definition_name s d ≡ definition_text s d
    name-plain = good-part s.strings (definition_word s d 0) (definition_word s d 1) its.text

    -- whether the definition may answer
    may : (b : Bool) → (not b || same origin (definition_name s d)) ≡ true → b ≡ true → definition_text s d ≡ origin
    may true e y = sym (same-equal origin (definition_text s d) (rw name-plain at e))
    may false e y = absurd (true≢false (sym y))

    might : (b : Bool) → (b ≡ true → definition_text s d ≡ origin) → (not b || same origin (definition_name s d)) ≡ true
    might true g = rw name-plain (equal-same origin (definition_text s d) (sym (g refl)))
    might false g = refl

    pub place-holds : (j : ℕ) → answering_place s given origin name d ≡ Some j → Holds s given origin name d j
    unfolding answering_place
    place-holds j e =
        let r = chosen (not given || same origin (definition_name s d)) (item_place s d name) j e in
        let q = search_found s.items s.strings (first_item s d) (number_of_items s d) (item_text_of s d) item-like item-order name j (sym in_plain ∙ r.1) in
        record { definition = h; origin-text = may given r.0; place = q.0; text = q.1 }

    pub holds-place : (j : ℕ) → Holds s given origin name d j → answering_place s given origin name d ≡ Some j
    unfolding answering_place
    holds-place j k =
        rw (might given k.origin-text)
        (in_plain ∙ search_there s.items s.strings (first_item s d) (number_of_items s d) (item_text_of s d) item-like item-order name j k.place k.text)

  holds-answers : (d j : ℕ) → Holds s given origin name d j → answers s given origin name d ≡ true
  holds-answers d j k = rw (holds-place d k.definition j k)

  answered_at : (d : ℕ) → Last (definition_count s) (answers s given origin name) d → (x : Option ℕ) → answering_place s given origin name d ≡ x
      → (a : ListItem) → list_item_at s d x ≡ Some a → LastHolds s given origin name a
  answered_at d l None e a h = absurd (item-apart a (sym h))
  answered_at d l (Some j) e a h =
      let q = item-equal (record { definition = d; item = first_item s d + j; value = _ }) a h in
      held a q
    where
      own : LastHolds s given origin name (record { definition = d; item = first_item s d + j; value = signed (item_word s (first_item s d + j) 2) })
      own =
          record {
            place = j;
            holds = place-holds d l.below j e;
            last = λ x y u k. true≢false (sym (holds-answers x y k) ∙ l.last x u k.definition);
            number = refl;
            value = refl;
          }

      held : (b : ListItem) → ◌≡◌ {A = ListItem} (record { definition = d; item = first_item s d + j; value = signed (item_word s (first_item s d + j) 2) }) b
          → LastHolds s given origin name b
      held b q = subst (λ (x : ListItem). LastHolds s given origin name x) q own

  abbrev chosen_last : Option ℕ
  chosen_last = last_of (definition_count s) (answers s given origin name)

  answered_in : (x : Option ℕ) → chosen_last ≡ x → (a : ListItem) → list_item_in s given origin name x ≡ Some a → LastHolds s given origin name a
  answered_in None e a h = absurd (item-apart a (sym h))
  answered_in (Some d) e a h =
      answered_at d (last_some (answers s given origin name) (definition_count s) d e) (answering_place s given origin name d) refl a h

  -- a definition that answers has an item
  some-place : (x : Option ℕ) (d : ℕ) → is_some x ≡ true → list_item_at s d x ≡ None → ⊥
  some-place None d y h = true≢false (sym y)
  some-place (Some j) d y h = item-apart _ h

  missed_in : (x : Option ℕ) → chosen_last ≡ x → list_item_in s given origin name x ≡ None → (d j : ℕ) → Holds s given origin name d j → ⊥
  missed_in None e h d j k =
      true≢false (sym (holds-answers d j k) ∙ last_none (answers s given origin name) (definition_count s) d e k.definition)
  missed_in (Some c) e h d j k =
      some-place (answering_place s given origin name c) c (last_some (answers s given origin name) (definition_count s) c e).passes h

  missing_in : (x : Option ℕ) → chosen_last ≡ x → ((d j : ℕ) → Holds s given origin name d j → ⊥) → list_item_in s given origin name x ≡ None
  missing_in None e h = refl
  missing_in (Some d) e h = at (answering_place s given origin name d) refl
    where
      at : (y : Option ℕ) → answering_place s given origin name d ≡ y → list_item_at s d y ≡ None
      at None q = refl
      at (Some j) q = absurd (h d j (place-holds d (last_some (answers s given origin name) (definition_count s) d e).below j q))

  pub items-read : ItemLookup s given origin name
  unfolding last_item
  items-read =
      record {
        answered = answered_in chosen_last refl;
        missed = missed_in chosen_last refl;
        missing = missing_in chosen_last refl;
      }

-- of definitions that passed
pub passed-items-read : (s : Sections) → definitions_rule s ≡ 0 → (given : Bool) (origin name : List ℕ) → ItemLookup s given origin name
passed-items-read s p = items-read s (definitions-passed s p)
