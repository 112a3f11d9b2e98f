-- What the loops over definitions keep, by the tests that the code makes.
use Rattle.std.specs.Prelude.{None, Option, Some, ℕ, is_some}
use Prim.Native.Nat.{ℕ, suc, ◌+◌, ◌*◌, ◌-◌, ◌/◌, ◌≤◌, ◌<◌}
use mathlib.Core.Path.{◌≡◌, refl, sym, ap, ◌∙◌}
use mathlib.Core.List.{List, []}
use mathlib.Core.Bool.{Bool, true, false, cond}
use native.Mathlib.Omega.{arith}
use native.Mathlib.Numerals.{add-one}
use lib.ListN.{length, take, drop}
use lib.Dec.{leb}
use lib.IntN.{ℤ}
use borrow.Author.Tests.{lt-ltb, le-ltb, le-leb, lt-leb, leb-true}
use Rattle.laws.specs.Counted.{last_of}
use Rattle.laws.proofs.Lists.{to_end}
use Rattle.words.specs.Words.{words_of}
use Rattle.texts.specs.Text.{same}
use Rattle.texts.specs.Dots.{first_dot, has_dot, before_dot, after_dot}
use Rattle.utf8.specs.White.{blank}
use Rattle.image.specs.declared.TextEntry.{TextEntry}
use Rattle.image.specs.declared.Definition.{Definition}
use Rattle.image.specs.declared.ImageView.{ImageView}
use Rattle.image.specs.Sections.{Sections, definition_words, text_entry_size, definition_size, definition_count, definition_word, item_word, part_at, text_or_empty}
use Rattle.image.specs.Entries.{text_entry_of, definition_of, definition_in}
use Rattle.image.specs.Header.{section_bytes, sections_by}
use Rattle.image.proofs.Entries.{definition-entry}
use Rattle.image.proofs.Parts.{part_length, text-entry-count, definition-count}
use Rattle.definitions.specs.Definitions.{first_item, number_of_items}
use Rattle.definitions.specs.Parts.{definition_parts}
use Rattle.views.specs.View.{signed}
use Rattle.lookups.specs.Lookup.{found_place, searched, halving, item_place, definition_name, list_item_at}
use Rattle.lookups.proofs.Lookups.{place-below}
use Rattle.lookups.proofs.Plain.{last_some}
use Rattle.list_items.specs.declared.ItemSearch.{ItemSearch}
use Rattle.list_items.specs.Search.{items_inside, found_item, among_at, search_among, no_search, origin_of, search_in, list_search}
use Rattle.lookups.specs.declared.ListItem.{ListItem}

-- ---- how many items there are to search

-- they lie among all items
inside_all : (all first count : ℕ) → 0 < items_inside all first count → first + items_inside all first count ≤ all
unfolding items_inside
inside_all all first count = by (leb (first + count) all) refl
  where
    by : (b : Bool) → leb (first + count) all ≡ b → 0 < cond b count 0 → first + cond b count 0 ≤ all
    by true e h = leb-true (first + count) all e
    by false e h = absurd (omega arith)

-- so does one that is found
pub item-inside : (all first count : ℕ) (words strings name : List ℕ) (j : ℕ) → Some j ≡ searched words strings first (items_inside all first count) name → first + j < all
item-inside all first count words strings name j e =
    let l = place-below words strings first (items_inside all first count) name j (sym e) in
    omega (arith, inside_all all first count (omega arith))

-- a place that is none
pub nowhere : (p : Option ℕ) → ((j : ℕ) → p ≡ Some j → ⊥) → None ≡ found_place p
nowhere (Some j) d = absurd (d j refl)
nowhere None d = refl

-- and those that are compared
pub items-within : (all first count n k : ℕ) → n ≡ items_inside all first count → k < n → first + k < all
items-within all first count n k e h = omega (arith, inside_all all first count (omega arith))

pub inside_yes : (all first count : ℕ) → first + count ≤ all → count ≡ items_inside all first count
unfolding items_inside
inside_yes all first count h = rw (le-leb (first + count) all h)

pub inside_no : (all first count : ℕ) → all < first + count → 0 ≡ items_inside all first count
unfolding items_inside
inside_no all first count h = rw (lt-leb (first + count) all h)

-- ---- the item that is answered

pub found-made : (d item w : ℕ) (z : ℤ) → z ≡ signed w → Some (record { definition = d; item = item; value = z }) ≡ found_item d item w
found-made d item w z e = rw e

-- ---- the loop over definitions

module _ (ds is ss : List ℕ) (first all : ℕ) (name : List ℕ) where
  abbrev parts : Sections
  parts = definition_parts ds is ss

  abbrev holds : ℕ → Bool
  holds j = is_some (item_place parts (first + j) name)

  abbrev whole : ItemSearch
  whole = search_among parts first all name

  -- the first `left` definitions are left to search
  abbrev pub Sought : ℕ → Type 0
  Sought left = whole ≡ among_at parts first all name (last_of left holds)

  pub sought_start : (n : ℕ) → n ≡ all → Sought n
  unfolding search_among
  sought_start n z = ap (λ (m : ℕ). among_at parts first all name (last_of m holds)) (sym z)

  pub sought_end : (left : ℕ) → left ≡ 0 → Sought left → ◌≡◌ {A = ItemSearch} (record { answer = None; searched = all }) whole
  unfolding last_of
  sought_end left z k = sym (k ∙ ap (λ (m : ℕ). among_at parts first all name (last_of m holds)) z)

  -- the last definition that is left has been read
  module _ (n left d : ℕ) (up : n ≡ suc left) (at : d ≡ first + left) (k : Sought n) (x : Definition) (e : x ≡ definition_of (words_of ds) d) where
    told : x ≡ definition_in parts (first + left)
    told = e ∙ ap (definition_of (words_of ds)) at ∙ definition-entry parts (words_of ds) (first + left) refl

    turned : whole ≡ among_at parts first all name (last_of (suc left) holds)
    turned = k ∙ ap (λ (m : ℕ). among_at parts first all name (last_of m holds)) up

    -- it is passed over, or is where the search ends
    passed : holds left ≡ false → whole ≡ among_at parts first all name (last_of left holds)
    unfolding last_of
    passed h = rw h at turned

    ended : holds left ≡ true → whole ≡ among_at parts first all name (Some left)
    unfolding last_of
    ended h = rw h at turned

    -- how many of its items the code searches
    abbrev few : ℕ
    few = items_inside (length is / text_entry_size) x.first x.count

    range : item_place parts (first + left) name ≡ searched (words_of is) ss x.first few name
    unfolding item_place items_inside
    range =
        ap
        (λ (m : ℕ).
        cond (leb (first_item parts (first + left) + number_of_items parts (first + left)) m)
        (searched (words_of is) ss (first_item parts (first + left)) (number_of_items parts (first + left)) name)
        None)
        (text-entry-count is)
        ∙ (λ j. cond (leb ((sym told j).first + (sym told j).count) (length is / text_entry_size)) (searched (words_of is) ss (sym told j).first (sym told j).count name) None)
        ∙ by (leb (x.first + x.count) (length is / text_entry_size))
      where
        by : (c : Bool) → cond c (searched (words_of is) ss x.first x.count name) None ≡ searched (words_of is) ss x.first (cond c x.count 0) name
        by true = refl
        by false = unfold searched halving in refl

    -- it does not hold the item
    pub sought_next : None ≡ searched (words_of is) ss x.first few name → Sought left
    sought_next miss = passed (ap is_some (range ∙ sym miss))

    -- its j-th item is the one
    pub sought_found : (j : ℕ) → Some j ≡ searched (words_of is) ss x.first few name → (t : TextEntry) → t ≡ text_entry_of (words_of is) (x.first + j)
        → (r : Option ListItem) → r ≡ found_item d (x.first + j) t.value → (m : ℕ) → m ≡ all - left
        → ◌≡◌ {A = ItemSearch} (record { answer = r; searched = m }) whole
    sought_found j hit t ht r hr m hm =
        (λ q. record { answer = (hr ∙ ap (λ (i : ℕ). found_item i (x.first + j) t.value) at ∙ made ∙ sym (ap (list_item_at parts (first + left)) there)) q; searched = hm q })
        ∙ sym (ended (ap is_some there))
      where
        there : item_place parts (first + left) name ≡ Some j
        there = range ∙ sym hit

        made : found_item (first + left) (x.first + j) t.value ≡ list_item_at parts (first + left) (Some j)
        made = unfold text_entry_of item_word in
            (λ q. found_item (first + left) (x.first + j) (ht q).value)
            ∙ (λ q. found_item (first + left) ((told q).first + j) (item_word parts ((told q).first + j) 2))

-- ---- the loop for the origin

module _ (ds ss origin : List ℕ) where
  abbrev named : Sections
  named = definition_parts ds [] ss

  abbrev is_origin : ℕ → Bool
  is_origin d = same origin (definition_name named d)

  -- the definitions before d are left to ask
  pub record Unnamed (d : ℕ) : Type 0 where
    pub inside : d ≤ length ds / definition_size
    pub rest : origin_of named origin ≡ last_of d is_origin

  pub unnamed-start : Unnamed (length ds / definition_size)
  unfolding origin_of
  unnamed-start = record { inside = omega arith; rest = ap (λ (n : ℕ). last_of n is_origin) (definition-count ds) }

  pub unnamed_end : (d : ℕ) → d ≤ 0 → Unnamed d → None ≡ origin_of named origin
  unnamed_end d h k = let z : d ≡ 0 = omega arith in sym (k.rest ∙ ap (λ (n : ℕ). last_of n is_origin) z ∙ unfold last_of in refl)

  module _ (n d : ℕ) (up : n ≡ suc d) (k : Unnamed n) (x : Definition) (e : x ≡ definition_of (words_of ds) d) (p : List ℕ)
      (hp : p ≡ text_or_empty ss x.offset x.len) (b : Bool) (hb : b ≡ same origin p) where
    asked : origin_of named origin ≡ last_of (suc d) is_origin
    asked = k.rest ∙ ap (λ (m : ℕ). last_of m is_origin) up

    name-told : is_origin d ≡ b
    name-told =
        let told : x ≡ definition_in named d = e ∙ definition-entry named (words_of ds) d refl in
        sym (hb ∙ ap (same origin) (hp ∙ λ j. text_or_empty ss (told j).offset (told j).len))

    pub unnamed-next : b ≡ false → Unnamed d
    unfolding last_of
    unnamed-next h = record { inside = omega (arith, k.inside); rest = rw (name-told ∙ h) at asked }

    pub unnamed-found : b ≡ true → Some d ≡ origin_of named origin
    unfolding last_of
    unnamed-found h = sym (rw (name-told ∙ h) at asked)

-- an origin that is found is a definition
pub origin-below : (ds ss origin : List ℕ) (d : ℕ) → origin_of (definition_parts ds [] ss) origin ≡ Some d → d < length ds / definition_size
unfolding origin_of
origin-below ds ss origin d e =
    let l = last_some (λ c. same origin (definition_name (definition_parts ds [] ss) c)) (definition_count (definition_parts ds [] ss)) d e in
    omega (arith, l.below, definition-count ds)

-- ---- definitions, items and strings alone are searched as a view's sections are

module _ (bs : List ℕ) (v : ImageView) where
  abbrev lent : Sections
  lent = definition_parts (section_bytes bs v.definitions definition_size) (section_bytes bs v.items text_entry_size) (section_bytes bs v.strings 1)

  item_by : (d : ℕ) (x : Option ℕ) → list_item_at lent d x ≡ list_item_at (sections_by bs v) d x
  unfolding definition_word item_word sections_by
  item_by d None = refl
  item_by d (Some j) = refl

  module _ (first count : ℕ) (name : List ℕ) where
    among_by : (x : Option ℕ) → among_at lent first count name x ≡ among_at (sections_by bs v) first count name x
    unfolding item_place definition_word item_word sections_by
    among_by None = refl
    among_by (Some j) = λ q. record { answer = item_by (first + j) (item_place (sections_by bs v) (first + j) name) q; searched = count - j }

    search_by : search_among lent first count name ≡ search_among (sections_by bs v) first count name
    unfolding search_among item_place definition_word item_word sections_by
    search_by = among_by (last_of count (λ j. is_some (item_place (sections_by bs v) (first + j) name)))

  origin_by : (origin : List ℕ)
      → origin_of (definition_parts (section_bytes bs v.definitions definition_size) [] (section_bytes bs v.strings 1)) origin
      ≡ origin_of (sections_by bs v) origin
  unfolding origin_of definition_word sections_by
  origin_by origin = refl

-- ---- how many definitions there are

-- no more than the view says
definitions-most : (bs : List ℕ) (v : ImageView) → length (section_bytes bs v.definitions definition_size) / definition_size ≤ v.definitions.count
unfolding section_bytes
definitions-most bs v = by (leb (v.definitions.offset + v.definitions.count * definition_size) (length bs)) refl
  where
    by : (b : Bool) → leb (v.definitions.offset + v.definitions.count * definition_size) (length bs) ≡ b
        → length (cond b (part_at bs v.definitions.offset (v.definitions.count * definition_size)) []) / definition_size ≤ v.definitions.count
    by true e = omega (arith, part_length bs v.definitions.offset (v.definitions.count * definition_size) (leb-true _ _ e))
    by false e = omega arith

pub definitions_few : (bs : List ℕ) (v : ImageView) (most : ℕ) → v.definitions.count ≤ most
    → (ds : List ℕ) → ds ≡ section_bytes bs v.definitions definition_size → length ds / definition_size ≤ most
definitions_few bs v most h ds e = rw e (omega (arith, definitions-most bs v))

-- where there is none nothing is searched
module _ (bs : List ℕ) (v : ImageView) (h : v.definitions.count ≡ 0) where
  none-there : definition_count (sections_by bs v) ≡ 0
  unfolding sections_by
  none-there = definition-count (section_bytes bs v.definitions definition_size) ∙ (let m = definitions-most bs v in omega arith)

  among_none : (name : List ℕ) → no_search ≡ search_among (sections_by bs v) 0 (definition_count (sections_by bs v)) name
  among_none name =
      let e : no_search ≡ search_among (sections_by bs v) 0 0 name = unfold search_among last_of in refl in
      e ∙ ap (λ (n : ℕ). search_among (sections_by bs v) 0 n name) (sym none-there)

  origin-none : (origin : List ℕ) → None ≡ origin_of (sections_by bs v) origin
  unfolding origin_of
  origin-none origin =
      let tests : (ℕ → Bool) = λ d. same origin (definition_name (sections_by bs v) d) in
      let e : None ≡ last_of 0 tests = unfold last_of in refl in
      e ∙ ap (λ (n : ℕ). last_of n tests) (sym none-there)

  pub search_none : (name : List ℕ) → no_search ≡ list_search (sections_by bs v) name
  unfolding list_search
  search_none name = by (blank name) (has_dot name)
    where
      by : (b c : Bool)
          → no_search
          ≡ cond b no_search
          (cond c (search_in (sections_by bs v) (after_dot name) (origin_of (sections_by bs v) (before_dot name)))
          (search_among (sections_by bs v) 0 (definition_count (sections_by bs v)) name))
      by true c = refl
      by false true = ap (search_in (sections_by bs v) (after_dot name)) (origin-none (before_dot name))
      by false false = among_none name

-- ---- by the name's form

module _ (bs : List ℕ) (v : ImageView) (name : List ℕ) (b : Bool) (hb : b ≡ blank name) where
  pub search_blank : b ≡ true → no_search ≡ list_search (sections_by bs v) name
  unfolding list_search
  search_blank y = rw (← hb, y)

  module _ (n : b ≡ false) (ds is ss : List ℕ) (p : ds ≡ section_bytes bs v.definitions definition_size) (q : is ≡ section_bytes bs v.items text_entry_size)
      (r : ss ≡ section_bytes bs v.strings 1) (dot : ℕ) (k : dot ≡ first_dot name) where
    lent_by : (a : ItemSearch) (first count : ℕ) (item : List ℕ) → a ≡ search_among (definition_parts ds is ss) first count item
        → a ≡ search_among (sections_by bs v) first count item
    lent_by a first count item g = g ∙ (λ j. search_among (definition_parts (p j) (q j) (r j)) first count item) ∙ search_by bs v first count item

    pub search_plain : (a : ItemSearch) → length name ≤ dot → a ≡ search_among (definition_parts ds is ss) 0 (length ds / definition_size) name
        → a ≡ list_search (sections_by bs v) name
    unfolding list_search
    search_plain a l g =
        rw (← hb, n, ← k, le-ltb dot (length name) l)
        (lent_by a 0 (length ds / definition_size) name g ∙ ap (λ (m : ℕ). search_among (sections_by bs v) 0 m name) every)
      where
        every : length ds / definition_size ≡ definition_count (sections_by bs v)
        every = sym (definition-count ds) ∙ ap (λ (x : List ℕ). length (words_of x) / definition_words) p ∙ unfold sections_by in refl

    module _ (l : dot < length name) (o : Option ℕ) (ho : o ≡ origin_of (definition_parts ds [] ss) (take dot name)) where
      origin_is : o ≡ origin_of (sections_by bs v) (take dot name)
      origin_is = ho ∙ (λ j. origin_of (definition_parts (p j) [] (r j)) (take dot name)) ∙ origin_by bs v (take dot name)

      dotted : (a : ItemSearch) → a ≡ search_in (sections_by bs v) (drop (suc dot) name) o → a ≡ list_search (sections_by bs v) name
      unfolding list_search before_dot after_dot
      dotted a g =
          rw (← hb, n, ← k, lt-ltb dot (length name) l) (g ∙ ap (search_in (sections_by bs v) (drop (suc dot) name)) origin_is)

      pub search_no_origin : o ≡ None → no_search ≡ list_search (sections_by bs v) name
      search_no_origin h = dotted no_search (sym (ap (search_in (sections_by bs v) (drop (suc dot) name)) h))

      pub search_origin : (d : ℕ) → o ≡ Some d → (a : ItemSearch)
          → a ≡ search_among (definition_parts ds is ss) d 1 (take (length name - (dot + 1)) (drop (dot + 1) name))
          → a ≡ list_search (sections_by bs v) name
      search_origin d h a g =
          dotted a
          (lent_by a d 1 (drop (suc dot) name) (rw (to_end (dot + 1) name, add-one dot) at g)
          ∙ sym (ap (search_in (sections_by bs v) (drop (suc dot) name)) h))
