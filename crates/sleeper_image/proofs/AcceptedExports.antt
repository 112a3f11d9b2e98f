-- Nothing sticks at the edge of the sleeper's reader: on accepted bytes an exported query answers exactly if the inner one does, with its words.
use Rattle.std.specs.Prelude.{None, Option, Some, ℕ, ℤ}
use Prim.Native.Nat.{ℕ, ◌≤◌, ◌<◌}
use mathlib.Core.Path.{◌≡◌, refl, sym, ap, ◌∙◌}
use mathlib.Core.List.{List, [], ◌∷◌}
use native.Mathlib.Omega.{arith}
use lib.ListN.{length, drop}
use Rattle.laws.specs.Lists.{Below}
use Rattle.image.specs.Sections.{Sections, definition_count}
use Rattle.image.specs.Header.{view_of, sections_of}
use Rattle.image.proofs.OpenedHeader.{opens, length-word}
use Rattle.load.specs.Load.{Accepted}
use Rattle.views.specs.Children.{child_count_of, named_count_of, child_query}
use Rattle.depth.specs.Depth.{depth_of}
use Rattle.lookups.specs.Lookup.{find_named, list_item}
use Rattle.list_items.specs.Search.{list_search}
use Rattle.list_items.proofs.Plain.{same_answer}
use Rattle.walks.specs.Walk.{components, resolve}
use Rattle.promises.proofs.Acceptance.{load-accepted, accepted-passed}
use Rattle.answers.specs.AnswerWords.{answer_after, found_answer, count_words, list_item_answer}
use Rattle.answers.specs.Exports.{Answers, words_of_list_item}
use Rattle.answers.specs.Lent.{written_after}
use Rattle.answers.proofs.AnswerSlices.{count-some}
use Rattle.answers.proofs.Sizes.{Size, some_size, none-size, found-size, list-item-size, answering}
use Rattle.answers.proofs.ItemNumbers.{definitions_few, item-words}
use Rattle.sleeper.specs.declared.SleeperView.{SleeperView}
use Rattle.sleeper.specs.declared.SleeperValue.{SleeperValue}
use Rattle.sleeper.specs.declared.SleeperValue.TheVariants as value
use Rattle.sleeper.specs.declared.SleeperKind.{SleeperKind}
use Rattle.sleeper.specs.declared.SleeperKind.TheVariants as kind
use Rattle.sleeper.specs.Reader.{without_places, sleeper_sections}
use Rattle.sleeper.specs.Seen.{sleeper_view, sleeper_named, sleeper_definition, sleeper_first_item, sleeper_definition_item}
use Rattle.sleeper.specs.NodeWords.{value_words, kind_words, node_answer}
use Rattle.sleeper.specs.Texts.{sleeper_text}
use Rattle.sleeper.specs.Lists.{sleeper_list_items, sleeper_list_origins, sleeper_entry}
use Rattle.sleeper_promises.proofs.SameView.{whole-sections, passed-rules}
use Rattle.sleeper_image.specs.Exported.{view_length, view_by, under}
use Rattle.sleeper_image.specs.Queries.{entry_answer, item_answer, searched_after}
use Rattle.sleeper_image.specs.Texts.{text_kinds, which_by, text_under, length_words}
use Rattle.sleeper_image.specs.Accepted.{ViewOf, SleeperExports, AcceptedSleeperExports}
use Rattle.sleeper_image.proofs.Views.{enough, view-back, one_version, searched-under}
use Rattle.sleeper_image.proofs.TextCopies.{under_some}
use Rattle.sleeper.specs.declared.SleeperEntry.{SleeperEntry}
use Rattle.sleeper.specs.declared.SleeperNode.{SleeperNode}

-- ---- how many words an answer has

six_of_value : (v : SleeperValue) → length (value_words v) ≡ 6
six_of_value (value.Bool b) = refl
six_of_value (value.Int i) = refl
six_of_value (value.Float bits x) = refl
six_of_value value.String = refl
six_of_value value.List = refl
six_of_value value.DivertTarget = refl
six_of_value (value.VariablePointer context) = refl

six : (k : SleeperKind) → length (kind_words k) ≡ 6
six (kind.Container flags name) = refl
six (kind.ChoicePoint flags target) = refl
six (kind.ControlCommand c) = refl
six (kind.Divert path target variable arguments conditional external pushes p) = refl
six kind.Glue = refl
six (kind.NativeFunction o) = refl
six kind.Tag = refl
six (kind.Value v) = six_of_value v
six (kind.VariableAssignment global new) = refl
six (kind.VariableReference target) = refl
six kind.Void = refl

node-size : (a : Option SleeperNode) → Size 8 (node_answer a)
node-size (Some v) = let e = six v.kind in some_size 8 _ (omega arith)
node-size None = none-size 8

entry-size : (a : Option SleeperEntry) → Size 2 (entry_answer a)
entry-size (Some e) = some_size 2 _ refl
entry-size None = none-size 2

item-size : (a : Option ℤ) → Size 1 (item_answer a)
item-size (Some i) = some_size 1 _ refl
item-size None = none-size 1

length-size : (o : Option (List ℕ)) → Size 1 (length_words o)
length-size None = none-size 1
length-size (Some t) = some_size 1 (length t ∷ []) refl

-- ---- under the view that a load wrote

module _ (bs view : List ℕ) (b : Below 256 bs) (a : Accepted bs) (v : ViewOf bs view) where
  abbrev s : Sections
  s = sections_of bs

  abbrev kept : SleeperView
  kept = without_places (view_of bs)

  own : sleeper_sections bs kept ≡ s
  own = whole-sections bs (opens bs (passed-rules bs a).header) b

  view-long : view_length ≤ length view
  unfolding written_after
  view-long = rw v.written (omega arith)

  view-same : kept ≡ view_by view
  unfolding written_after
  view-same = sym (view-back kept (drop view_length v.lent) (one_version bs a)) ∙ ap view_by (sym v.written)

  asked_as : (query : Sections → Option (List ℕ)) → under view (λ u. query (sleeper_sections bs u)) ≡ query s
  asked_as query = sym (enough view (λ u. query (sleeper_sections bs u)) view-long kept view-same) ∙ ap query own

  text_as : (kind p q : ℕ) → kind < text_kinds → text_under bs view kind p q ≡ sleeper_text s (which_by kind p q)
  text_as kind p q h =
      sym (under_some bs view kind p q view-long h kept view-same _ refl) ∙ ap (λ (t : Sections). sleeper_text t (which_by kind p q)) own

  searched_as : (name lent : List ℕ) → searched_after bs view name lent ≡ answer_after (Some ((list_search s name).searched ∷ [])) lent
  searched_as name lent =
      sym (searched-under bs view name lent view-long kept view-same _ refl _ refl)
      ∙ ap (λ (t : Sections). answer_after (Some ((list_search t name).searched ∷ [])) lent) own

  item_as : (name : List ℕ) → list_item_answer (list_search s name).answer ≡ words_of_list_item (list_item s name)
  item_as name =
      let o = opens bs (passed-rules bs a).header in
      ap list_item_answer (same_answer s (accepted-passed bs a).definitions name) ∙ item-words bs o (length-word bs b o) name

  count_as : count_words (definition_count s) ≡ Some (definition_count s ∷ [])
  count_as = let o = opens bs (passed-rules bs a).header in sym (count-some (definition_count s) (definitions_few bs o (length-word bs b o)))

  counted : (query : Sections → Option ℕ) → Answers 1 (under view (λ u. found_answer (query (sleeper_sections bs u)))) (found_answer (query s))
  counted query = answering 1 _ _ (asked_as (λ t. found_answer (query t))) (found-size (query s))

  found_at_lem : (query : Sections → Option ℕ) → Answers 1 (under view (λ u. found_answer (query (sleeper_sections bs u)))) (found_answer (query s))
  found_at_lem query = answering 1 _ _ (asked_as (λ t. found_answer (query t))) (found-size (query s))

  exports : SleeperExports bs view s
  exports =
      record {
        node-view = λ i. answering 8 _ _ (asked_as (λ t. node_answer (sleeper_view t i))) (node-size (sleeper_view s i));
        text = text_as;
        text-length = λ kind p q h. answering 1 _ _ (ap length_words (text_as kind p q h)) (length-size (sleeper_text s (which_by kind p q)));
        depth = λ i. counted (λ t. depth_of t i);
        child-count = λ i. counted (λ t. child_count_of t i);
        named-child-count = λ i. counted (λ t. named_count_of t i);
        child = λ i j. found_at_lem (λ t. child_query t i j);
        named-child = λ i j. found_at_lem (λ t. sleeper_named t i j);
        find-named-child = λ i name. found_at_lem (λ t. find_named t i name);
        list-items = λ i. counted (λ t. sleeper_list_items t i);
        list-origins = λ i. counted (λ t. sleeper_list_origins t i);
        list-entry = λ i j. answering 2 _ _ (asked_as (λ t. entry_answer (sleeper_entry t i j))) (entry-size (sleeper_entry s i j));
        definition-count = answering 1 _ _ (asked_as (λ t. count_words (definition_count t)) ∙ count_as) (some_size 1 (definition_count s ∷ []) refl);
        definition = λ d. counted (λ t. sleeper_definition t d);
        first-item = λ d. counted (λ t. sleeper_first_item t d);
        definition-item = λ d j. answering 1 _ _ (asked_as (λ t. item_answer (sleeper_definition_item t d j))) (item-size (sleeper_definition_item s d j));
        list-item = λ name. answering 3 _ _ (asked_as (λ t. list_item_answer (list_search t name).answer) ∙ item_as name) (list-item-size (list_item s name));
        searched = searched_as;
        walk = λ origin relative path names. found_at_lem (λ t. resolve t relative origin (components names path));
      }

pub accepted-exports : AcceptedSleeperExports
accepted-exports bs view work b h v = exports bs view b (load-accepted bs work h) v
