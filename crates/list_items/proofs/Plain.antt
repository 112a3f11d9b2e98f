-- Where the definitions passed their rules: a search answers what the look-up through all of them does, and searches as many definitions
-- as the plain reading says.
use Rattle.std.specs.Prelude.{None, Option, Some, is_some}
use Prim.Native.Nat.{ℕ, ◌+◌, ◌<◌}
use mathlib.Core.Path.{◌≡◌, refl, sym, ap, ◌∙◌}
use mathlib.Core.List.{List}
use mathlib.Core.Bool.{Bool, true, false, cond, true≢false}
use native.Mathlib.Omega.{arith}
use native.Mathlib.Nat.{add-zero}
use native.Mathlib.Decide.{ℕ_discrete}
use Rattle.laws.specs.Counted.{last_of}
use Rattle.texts.specs.Text.{same}
use Rattle.texts.proofs.Text.{same-equal, equal-same}
use Rattle.texts.specs.Dots.{has_dot, before_dot, after_dot}
use Rattle.utf8.specs.White.{blank}
use Rattle.image.specs.Sections.{Sections, definition_count, definition_word}
use Rattle.image.proofs.Parts.{good-part}
use Rattle.definitions.specs.Definitions.{definition_text, definitions_rule}
use Rattle.definitions.proofs.Definitions.{Definitions, definitions-passed, definition-once}
use Rattle.lookups.specs.declared.ListItem.{ListItem}
use Rattle.lookups.specs.Lookup.{item_place, definition_name, answering_place, answers, list_item_at, list_item_in, last_item, list_item}
use Rattle.lookups.proofs.Plain.{Last, last_some, last_none, last-like, last-none_of, last_is}
use Rattle.lookups.proofs.Given.{listed-given, listed-refused}
use Rattle.list_items.specs.declared.ItemSearch.{ItemSearch}
use Rattle.list_items.specs.Search.{among_at, search_among, no_search, origin_of, search_in, list_search}
use Rattle.list_items.specs.Plain.{SearchCount}

-- ---- without an origin the tests are alike

module _ (s : Sections) (name : List ℕ) where
  front : (d : ℕ) → 0 + d ≡ d
  front d = omega arith

  plain-test : (d : ℕ) → is_some (item_place s (0 + d) name) ≡ answers s false name name d
  unfolding answering_place
  plain-test d = ap (λ (m : ℕ). is_some (item_place s m name)) (front d)

  plain_at : (x : Option ℕ) → (among_at s 0 (definition_count s) name x).answer ≡ list_item_in s false name name x
  unfolding answering_place
  plain_at None = refl
  plain_at (Some d) = ap (λ (m : ℕ). list_item_at s m (item_place s m name)) (front d)

  plain-same : (search_among s 0 (definition_count s) name).answer ≡ last_item s false name name
  unfolding search_among last_item
  plain-same =
      plain_at (last_of (definition_count s) (λ d. is_some (item_place s (0 + d) name)))
      ∙ ap (list_item_in s false name name)
      (last-like (definition_count s) (λ d. is_some (item_place s (0 + d) name)) (answers s false name name) (λ d h. plain-test d))

  -- of one definition: its item, and 1
  one_answer : (d : ℕ) → (search_among s d 1 name).answer ≡ list_item_at s d (item_place s d name)
  unfolding search_among last_of
  one_answer d = by (item_place s (d + 0) name) refl
    where
      by : (o : Option ℕ) → item_place s (d + 0) name ≡ o → (among_at s d 1 name (cond (is_some o) (Some 0) None)).answer ≡ list_item_at s d (item_place s d name)
      by None e = sym (ap (list_item_at s d) (sym (ap (λ (m : ℕ). item_place s m name) (add-zero d)) ∙ e))
      by (Some j) e = ap (λ (m : ℕ). list_item_at s m (item_place s m name)) (add-zero d)

  one_count : (d : ℕ) → (search_among s d 1 name).searched ≡ 1
  unfolding search_among last_of
  one_count d = by (is_some (item_place s (d + 0) name))
    where
      by : (b : Bool) → (among_at s d 1 name (cond b (Some 0) None)).searched ≡ 1
      by true = refl
      by false = refl

-- ---- with one, at most one definition is it

module _ (s : Sections) (passed : Definitions s) (origin name : List ℕ) where
  abbrev n : ℕ
  n = definition_count s

  abbrev is_origin : ℕ → Bool
  is_origin d = same origin (definition_name s d)

  abbrev answering : ℕ → Bool
  answering = answers s true origin name

  name-plain : (d : ℕ) → d < n → definition_name s d ≡ definition_text s d
  name-plain d h = good-part s.strings (definition_word s d 0) (definition_word s d 1) (passed.each d h).text

  bears : (d : ℕ) → d < n → is_origin d ≡ true → definition_text s d ≡ origin
  bears d h e = sym (name-plain d h) ∙ sym (same-equal origin (definition_name s d) e)

  borne : (d : ℕ) → d < n → definition_text s d ≡ origin → is_origin d ≡ true
  borne d h e = equal-same origin (definition_name s d) (sym e ∙ sym (name-plain d h))

  one : (d e : ℕ) → d < n → e < n → is_origin d ≡ true → is_origin e ≡ true → d ≡ e
  one d e h k p q = definition-once s passed d e h k (bears d h p ∙ sym (bears e k q))

  -- what is not the origin does not answer
  quiet : (d : ℕ) → is_origin d ≡ false → answering d ≡ false
  unfolding answering_place
  quiet d h = rw h

  loud : (d : ℕ) → is_origin d ≡ true → answering_place s true origin name d ≡ item_place s d name
  unfolding answering_place
  loud d h = rw h

  not-origin : (d e : ℕ) → d < n → e < n → is_origin d ≡ true → (e ≡ d → ⊥) → is_origin e ≡ false
  not-origin d e h k p u = by (is_origin e) refl
    where
      by : (b : Bool) → is_origin e ≡ b → is_origin e ≡ false
      by true q = absurd (u (one e d k h q p))
      by false q = q

  at_one : (d : ℕ) → Last n is_origin d → (x : Option ℕ) → item_place s d name ≡ x → list_item_at s d x ≡ list_item_in s true origin name (last_of n answering)
  at_one d l None e =
      sym (ap (list_item_in s true origin name) (last-none_of n answering (λ c h. by c h (ℕ_discrete c d))))
    where
      by : (c : ℕ) → c < n → Dec (c ≡ d) → answering c ≡ false
      by c h (yes z) = ap is_some (ap (answering_place s true origin name) z ∙ loud d l.passes ∙ e)
      by c h (no z) = quiet c (not-origin d c l.below h l.passes z)
  at_one d l (Some j) e =
      sym
      (ap (list_item_in s true origin name)
      (last_is n answering d
      (record { below = l.below; passes = ap is_some (loud d l.passes ∙ e); last = λ c a b. quiet c (l.last c a b) }))
      ∙ ap (list_item_at s d) (loud d l.passes ∙ e))

  at_last : (x : Option ℕ) → last_of n is_origin ≡ x → (search_in s name x).answer ≡ list_item_in s true origin name (last_of n answering)
  at_last None e = sym (ap (list_item_in s true origin name) (last-none_of n answering (λ d h. quiet d (last_none is_origin n d e h))))
  at_last (Some d) e = one_answer s name d ∙ at_one d (last_some is_origin n d e) (item_place s d name) refl

  dotted-same : (search_in s name (origin_of s origin)).answer ≡ last_item s true origin name
  unfolding origin_of last_item
  dotted-same = at_last (last_of n is_origin) refl

  -- one definition is searched if there is an origin, else none
  one_searched : (d : ℕ) → d < n → definition_text s d ≡ origin → (search_in s name (origin_of s origin)).searched ≡ 1
  unfolding origin_of
  one_searched d h e = by (last_of n is_origin) refl
    where
      by : (x : Option ℕ) → last_of n is_origin ≡ x → (search_in s name x).searched ≡ 1
      by None q = absurd (true≢false (sym (borne d h e) ∙ last_none is_origin n d q h))
      by (Some c) q = one_count s name c

  none-searched : ((d : ℕ) → d < n → definition_text s d ≡ origin → ⊥) → (search_in s name (origin_of s origin)).searched ≡ 0
  unfolding origin_of
  none-searched no_one = by (last_of n is_origin) refl
    where
      by : (x : Option ℕ) → last_of n is_origin ≡ x → (search_in s name x).searched ≡ 0
      by None q = refl
      by (Some d) q = let l = last_some is_origin n d q in absurd (no_one d l.below (bears d l.below l.passes))

-- ---- the answers are alike

pub same_answer : (s : Sections) → definitions_rule s ≡ 0 → (name : List ℕ) → (list_search s name).answer ≡ list_item s name
unfolding list_search list_item
same_answer s p name = by (blank name) (has_dot name)
  where
    by : (b c : Bool)
        → (cond b no_search (cond c (search_in s (after_dot name) (origin_of s (before_dot name))) (search_among s 0 (definition_count s) name))).answer
        ≡ cond b None (cond c (last_item s true (before_dot name) (after_dot name)) (last_item s false name name))
    by true c = refl
    by false true = dotted-same s (definitions-passed s p) (before_dot name) (after_dot name)
    by false false = plain-same s name

-- ---- how many definitions' items are searched

module _ (s : Sections) (name : List ℕ) where
  abbrev all_searched : ItemSearch
  all_searched = search_among s 0 (definition_count s) name

  abbrev holding : ℕ → Bool
  holding d = is_some (item_place s (0 + d) name)

  abbrev last-holding : Option ℕ
  last-holding = last_of (definition_count s) holding

  its_definition : (d : ℕ) (o : Option ℕ) (item : ListItem) → list_item_at s d o ≡ Some item → d ≡ item.definition
  its_definition d None item e = let z : ◌≡◌ {A = ℕ} 0 1 = cc in absurd (omega arith)
  its_definition d (Some j) item e = cc

  down_to : (item : ListItem) → all_searched.answer ≡ Some item → item.definition + all_searched.searched ≡ definition_count s
  unfolding search_among
  down_to item = by last-holding refl
    where
      by : (x : Option ℕ) → last-holding ≡ x → (among_at s 0 (definition_count s) name x).answer ≡ Some item
          → item.definition + (among_at s 0 (definition_count s) name x).searched ≡ definition_count s
      by None q e = let z : ◌≡◌ {A = ℕ} 0 1 = cc in absurd (omega arith)
      by (Some d) q e =
          let l = last_some holding (definition_count s) d q in
          let same = its_definition (0 + d) (item_place s (0 + d) name) item e in
          omega (arith, l.below)

  holds-none : (d : ℕ) (o : Option ℕ) → is_some o ≡ true → list_item_at s d o ≡ None → ⊥
  holds-none d None h e = true≢false (sym h)
  holds-none d (Some j) h e = let z : ◌≡◌ {A = ℕ} 0 1 = cc in omega arith

  every_one : all_searched.answer ≡ None → all_searched.searched ≡ definition_count s
  unfolding search_among
  every_one = by last-holding refl
    where
      by : (x : Option ℕ) → last-holding ≡ x → (among_at s 0 (definition_count s) name x).answer ≡ None
          → (among_at s 0 (definition_count s) name x).searched ≡ definition_count s
      by None q e = refl
      by (Some d) q e = absurd (holds-none (0 + d) (item_place s (0 + d) name) (last_some holding (definition_count s) d q).passes e)

  counted : Definitions s → SearchCount s name (list_search s name)
  unfolding list_search
  counted passed =
      record {
        blank-name = λ b. rw b;
        origin = λ b c d o. rw (b, c) (one_searched s passed (before_dot name) (after_dot name) d o.definition o.text);
        no_origin = λ b c no_one.
            rw (b, c) (none-searched s passed (before_dot name) (after_dot name) (λ d h e. no_one d (record { definition = h; text = e })));
        answered = λ b c item. rw (b, c) (λ e. down_to item (listed-given all_searched.answer item e));
        missing = λ b c. rw (b, c) (λ e. every_one (listed-refused all_searched.answer e));
      }

pub search_counted : (s : Sections) → definitions_rule s ≡ 0 → (name : List ℕ) → SearchCount s name (list_search s name)
search_counted s p name = counted s name (definitions-passed s p)
