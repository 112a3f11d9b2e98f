-- Nothing sticks at the edge: on accepted bytes an exported query answers exactly if the inner one does, with its words.
use Rattle.std.specs.Prelude.{None, Option, Some, ℕ}
use Prim.Native.Nat.{ℕ, ◌+◌, ◌≤◌, ◌<◌, ◌^◌}
use mathlib.Core.Path.{◌≡◌, refl, sym, ap, ◌∙◌}
use mathlib.Core.List.{List, [], ◌∷◌}
use mathlib.Core.Bool.{Bool, true, false, cond}
use Rattle.std.proofs.lemmas.Option.{same_Some}
use Rattle.std.proofs.lemmas.Option.{none-some}
use native.Mathlib.Omega.{arith}
use lib.ListN.{length}
use lib.Dec.{leb}
use borrow.Author.Tests.{leb-true, eqb-true}
use Rattle.laws.proofs.First.{both}
use Rattle.laws.proofs.Flags.{both_true}
use Rattle.words.specs.Words.{word_at}
use Rattle.checksum.specs.Crc.{checksum_of}
use Rattle.image.specs.declared.ImageView.{ImageView}
use Rattle.image.specs.Sections.{Sections, definition_count, present}
use Rattle.image.specs.Header.{version, header_rule, view_of, sections_by, sections_of, length_at, checksum_at, version_at}
use Rattle.image.proofs.OpenedHeader.{Opens, opens, view-inside, view-counts, length-word}
use Rattle.definitions.specs.Definitions.{definitions_rule}
use Rattle.load.specs.Load.{load_rule, loaded_of, loaded_by}
use Rattle.views.specs.declared.Span.{Span}
use Rattle.views.specs.View.{span, shown, node_view}
use Rattle.views.specs.Children.{child_count_of, named_count_of, child_query, named_query, text_query}
use Rattle.views.specs.Lists.{list_part, list_entry, list_origin, definition_query, item_query}
use Rattle.walks.specs.Walk.{components, resolve}
use Rattle.depth.specs.Depth.{depth_of}
use Rattle.pages.specs.Page.{slot_view}
use Rattle.lookups.specs.Lookup.{searched, find_named, list_item}
use Rattle.list_items.specs.Search.{list_search}
use Rattle.list_items.proofs.Plain.{same_answer}
use Rattle.target_counts.specs.Summary.{AddsUp}
use Rattle.target_counts.proofs.Sums.{accepted-adds_up}
use Rattle.promises.specs.Answers.{Answer, given, of_count, of_loaded}
use Rattle.promises.proofs.Acceptance.{load-accepted, accepted-passed}
use Rattle.technician.specs.Technician.{strings_count_at, header_word, HeaderTells}
use Rattle.technician.proofs.Accepted.{accepted-header}
use Rattle.answers.specs.AnswerWords.{answer_after, found_answer, named_answer, place_answer, part_words, part_answer, entry_answer, definition_answer, item_answer, list_item_answer, list_count_words}
use Rattle.answers.specs.Exports.{Answers}
use Rattle.answers.specs.NodeViewWords.{node_answer, list_place}
use Rattle.answers.proofs.AnswerSlices.{count-some, part-some}
use Rattle.answers.proofs.Sizes.{Size, some_size, none-size, found-size, list-item-size, answering}
use Rattle.answers.proofs.ItemNumbers.{definitions_few, item-words}
use Rattle.answers.proofs.Records.{eight}
use Rattle.answers.proofs.ListPlaces.{Lies, list-lies}
use Rattle.story_image.specs.Exported.{view_length, words_of_view, view_by, under, written_after}
use Rattle.story_image.specs.Queries.{at_list, first_words, searched_after}
use Rattle.story_image.specs.Accepted.{ViewOf, PageExports, CountExports, Exports, AcceptedExports, words_of_part, words_of_text}
use Rattle.story_image.proofs.Views.{view-back, enough, searched-under}
use Rattle.story_image.proofs.Pages.{page-under}
use Rattle.story_image.proofs.TargetCounts.{count_under, count-exports}
use Rattle.views.specs.declared.ItemView.{ItemView}
use Rattle.views.specs.declared.ListEntry.{ListEntry}
use Rattle.views.specs.declared.NodeView.{NodeView}
use Rattle.views.specs.declared.NamedChildView.{NamedChildView}
use Rattle.views.specs.declared.DefinitionView.{DefinitionView}

-- ---- how many words an answer has

named-size : (a : Option NamedChildView) → Size 3 (named_answer a)
named-size (Some e) = some_size 3 _ refl
named-size None = none-size 3

text-size : (strings : ℕ) (a : Option Span) → Size 2 (words_of_text strings a)
text-size strings (Some t) = some_size 2 _ refl
text-size strings None = none-size 2

place-size : (a : Option Span) → Size 2 (place_answer a)
place-size (Some t) = some_size 2 _ refl
place-size None = none-size 2

entry-size : (a : Option ListEntry) → Size 5 (entry_answer a)
entry-size (Some e) = some_size 5 _ refl
entry-size None = none-size 5

definition-size : (a : Option DefinitionView) → Size 3 (definition_answer a)
definition-size (Some d) = some_size 3 _ refl
definition-size None = none-size 3

first-size : (s : Sections) (d : ℕ) (a : Option DefinitionView) → Size 1 (first_words s d a)
first-size s d (Some x) = some_size 1 _ refl
first-size s d None = none-size 1

item-size : (a : Option ItemView) → Size 3 (item_answer a)
item-size (Some i) = some_size 3 _ refl
item-size None = none-size 3

node-size : (a : Option NodeView) → Size 10 (node_answer a)
node-size (Some v) = let e = eight v.kind in some_size 10 _ (omega arith)
node-size None = none-size 10

counts-size : (payload : List ℕ) → Size 2 (list_count_words payload)
counts-size payload = by (leb 8 (length payload))
  where
    by : (b : Bool) → Size 2 (cond b (Some (word_at payload 0 ∷ word_at payload 4 ∷ [])) None)
    by true = some_size 2 _ refl
    by false = none-size 2

list-size : (k : ℕ) (o : Option Span) (query : Span → Option (List ℕ)) → ((t : Span) → Size k (query t)) → Size k (at_list o query)
list-size k None query h = none-size k
list-size k (Some t) query h = h t

-- ---- the view that a load wrote

right-version : (bs : List ℕ) → Opens bs → (view_of bs).version ≡ version
unfolding view_of
right-version bs o = eqb-true (word_at bs version_at) version o.versioned

module _ (bs view : List ℕ) (versioned : (view_of bs).version ≡ version) (v : ViewOf bs view) where
  view-long : view_length ≤ length view
  unfolding written_after
  view-long = rw v.written (omega arith)

  written_back : view_by (words_of_view (view_of bs)) ≡ view_by view
  unfolding written_after
  written_back = rw v.written

  view-same : view_of bs ≡ view_by view
  view-same = sym (view-back (view_of bs) versioned) ∙ written_back

  pub asked_as : (query : ImageView → Option (List ℕ)) → under view query ≡ query (view_of bs)
  asked_as query = sym (enough view query view-long (view_of bs) view-same)

  paged_as : (numbers slots : List ℕ) → PageExports bs view (sections_by bs (view_of bs)) numbers slots
  paged_as numbers slots =
      let p = page-under bs view numbers slots view-long (view_of bs) view-same _ _ refl refl in
      record { number = sym p.0; written = sym p.1 }

  counted_as : AddsUp (sections_by bs (view_of bs)) → (summary : List ℕ) → CountExports bs view (sections_by bs (view_of bs)) summary
  counted_as adds summary =
      let p = count_under bs view summary view-long (view_of bs) view-same _ _ refl refl in
      count-exports bs view (sections_by bs (view_of bs)) summary adds (sym p.0) (sym p.1)

  searched_as : (name searched : List ℕ)
      → searched_after bs view name searched ≡ answer_after (Some ((list_search (sections_by bs (view_of bs)) name).searched ∷ [])) searched
  searched_as name searched = sym (searched-under bs view name searched view-long (view_of bs) view-same _ refl _ refl)

-- ---- words of the header

-- a count that is given, in words
count-given : (a : Option ℕ) (n : ℕ) → of_count a ≡ given n → Answers 1 (found_answer a) (Some (n ∷ []))
count-given (Some m) n e =
    let same : m ≡ n = same_Some m n (ap (λ (x : Answer ℕ). x.value) e) in
    answering 1 _ _ (ap (λ (k : ℕ). Some (k ∷ [])) same) (some_size 1 (n ∷ []) refl)
count-given None n e = absurd (none-some n (ap (λ (x : Answer ℕ). x.value) e))

-- ---- accepted bytes

module _ (bs : List ℕ) (o : Opens bs) (short : length bs < 2 ^ 32) where
  abbrev own : Sections
  own = sections_of bs

  text-whole : (t : Span) → part_answer (length bs) (view_of bs).strings.offset (text_query own t) ≡ words_of_text (view_of bs).strings.offset (text_query own t)
  unfolding text_query
  text-whole t = by (shown (length own.strings) t.offset t.len) refl
    where
      by : (b : Bool) → shown (length own.strings) t.offset t.len ≡ b
          → part_answer (length bs) (view_of bs).strings.offset (cond b (Some t) None)
          ≡ words_of_text (view_of bs).strings.offset (cond b (Some t) None)
      by true e =
          let inside = leb-true (t.offset + t.len) (length own.strings) (both_true (present t.offset t.len) _ e).1 in
          let within = (view-inside bs o).strings in
          let long = (view-counts bs o).strings in
          sym (part-some (length bs) (view_of bs).strings.offset t (omega arith) (omega arith))
      by false e = refl

  payload-whole : (p : Option Span) → Lies (length own.payload) p
      → at_list p (λ t. part_words (length bs) (view_of bs).payload.offset t) ≡ at_list p (λ t. Some (words_of_part (view_of bs).payload.offset t))
  payload-whole None h = refl
  payload-whole (Some t) h =
      let inside = h t refl in
      let within = (view-inside bs o).payload in
      let long = (view-counts bs o).payload in
      sym (part-some (length bs) (view_of bs).payload.offset t (omega arith) (omega arith))

module _ (bs view : List ℕ) (o : Opens bs) (short : length bs < 2 ^ 32) (lists : definitions_rule (sections_of bs) ≡ 0) (adds : AddsUp (sections_of bs)) (t : HeaderTells bs (view_of bs)) (v : ViewOf bs view) where
  abbrev s : Sections
  s = sections_of bs

  abbrev at_node : ℕ → Option Span
  at_node i = list_place (node_view s i)

  pub exports : Exports bs view s
  exports =
      record {
        node-view = λ i. answering 10 _ _ (asked_as bs view (right-version bs o) v _) (node-size (node_view s i));
        page = λ numbers slots. paged_as bs view (right-version bs o) v numbers slots;
        count = counted_as bs view (right-version bs o) v adds;
        slot-view = λ slot. answering 10 _ _ (asked_as bs view (right-version bs o) v _) (node-size (slot_view s slot));
        depth = λ i. answering 1 _ _ (asked_as bs view (right-version bs o) v _) (found-size (depth_of s i));
        text = λ at len. answering 2 _ _ (asked_as bs view (right-version bs o) v _ ∙ text-whole bs o short (span at len)) (text-size _ (text_query s (span at len)));
        child-count = λ i. answering 1 _ _ (asked_as bs view (right-version bs o) v _) (found-size (child_count_of s i));
        child = λ i j. answering 1 _ _ (asked_as bs view (right-version bs o) v _) (found-size (child_query s i j));
        named-child-count = λ i. answering 1 _ _ (asked_as bs view (right-version bs o) v _) (found-size (named_count_of s i));
        named-child = λ i j. answering 3 _ _ (asked_as bs view (right-version bs o) v _) (named-size (named_query s i j));
        find-named-child = λ i name. answering 1 _ _ (asked_as bs view (right-version bs o) v _) (found-size (find_named s i name));
        list-payload = λ i.
            answering 2 _ _ (asked_as bs view (right-version bs o) v _ ∙ payload-whole bs o short (at_node i) (list-lies s i))
            (list-size 2 (at_node i) _ (λ t. some_size 2 (words_of_part (view_of bs).payload.offset t) refl));
        list_counts = λ i. answering 2 _ _ (asked_as bs view (right-version bs o) v _) (list-size 2 (at_node i) _ (λ t. counts-size (list_part s t)));
        list-entry = λ i j.
            answering 5 _ _ (asked_as bs view (right-version bs o) v _) (list-size 5 (at_node i) _ (λ t. entry-size (list_entry (list_part s t) s.strings j)));
        list-origin = λ i j.
            answering 2 _ _ (asked_as bs view (right-version bs o) v _) (list-size 2 (at_node i) _ (λ t. place-size (list_origin (list_part s t) s.strings j)));
        definition-count =
            answering 1 _ _ (asked_as bs view (right-version bs o) v _ ∙ sym (count-some (definition_count s) (definitions_few bs o short)))
            (some_size 1 (definition_count s ∷ []) refl);
        definition = λ d. answering 3 _ _ (asked_as bs view (right-version bs o) v _) (definition-size (definition_query s d));
        first-item = λ d. answering 1 _ _ (asked_as bs view (right-version bs o) v _) (first-size s d (definition_query s d));
        definition-item = λ d j. answering 3 _ _ (asked_as bs view (right-version bs o) v _) (item-size (item_query s d j));
        list-item = λ name.
            answering 3 _ _
            (asked_as bs view (right-version bs o) v _ ∙ ap list_item_answer (same_answer s lists name) ∙ item-words bs o short name)
            (list-item-size (list_item s name));
        searched = searched_as bs view (right-version bs o) v;
        walk = λ origin relative path names.
            answering 1 _ _ (asked_as bs view (right-version bs o) v _) (found-size (resolve s relative origin (components names path)));
        total-length = count-given (header_word bs length_at) (length bs) t.total;
        strings-length = count-given (header_word bs strings_count_at) (length s.strings) t.strings;
        checksum = count-given (header_word bs checksum_at) (checksum_of bs) t.checksum;
      }

pub accepted-exports : AcceptedExports
unfolding load_rule loaded_of
accepted-exports bs view work b h v =
    let o = opens bs (both (header_rule bs) _ h).0 in
    let t = accepted-header bs work (view_of bs) (ap (λ (n : ℕ). of_loaded (loaded_by n (view_of bs))) h) in
    exports bs view o (length-word bs b o) (accepted-passed bs (load-accepted bs work h)).definitions (accepted-adds_up bs work h) t v
