-- The numbers of a page and of queries.
use Rattle.std.specs.Prelude.{None, Some}
use Prim.Native.Nat.{ℕ}
use mathlib.Core.Path.{refl}
use Rattle.laws.specs.Lists.{has}
use Rattle.pages.specs.Page.{page_rule}
use Rattle.views.specs.Answers.{of_node, of_found, of_count, of_named, of_text, of_entry, of_definition, of_item}
use Rattle.lookups.specs.Answers.{of_list_item}
use Rattle.refusal_numbers.specs.Numbers.{OneOf, page_numbers, query_numbers, PageNumbers, QueryNumbers}
use Rattle.refusal_numbers.proofs.OneOf.{In, among, numbers}

page-number : (slots room : ℕ) → In page_numbers (page_rule slots room)
unfolding page_rule has
page-number slots room = search numbers

pub page-numbers : PageNumbers
page-numbers slots room = among page_numbers _ (page-number slots room)

pub query-numbers : QueryNumbers
unfolding has
query-numbers =
    record {
      node = λ a. elim a as (λ k. OneOf query_numbers (of_node k).number) [ Some v ↦ refl | None ↦ refl ];
      found = λ a. elim a as (λ k. OneOf query_numbers (of_found k).number) [ Some n ↦ refl | None ↦ refl ];
      count = λ a. elim a as (λ k. OneOf query_numbers (of_count k).number) [ Some n ↦ refl | None ↦ refl ];
      named = λ a. elim a as (λ k. OneOf query_numbers (of_named k).number) [ Some c ↦ refl | None ↦ refl ];
      text = λ a. elim a as (λ k. OneOf query_numbers (of_text k).number) [ Some t ↦ refl | None ↦ refl ];
      entry = λ a. elim a as (λ k. OneOf query_numbers (of_entry k).number) [ Some e ↦ refl | None ↦ refl ];
      definition = λ a. elim a as (λ k. OneOf query_numbers (of_definition k).number) [ Some d ↦ refl | None ↦ refl ];
      item = λ a. elim a as (λ k. OneOf query_numbers (of_item k).number) [ Some i ↦ refl | None ↦ refl ];
      list-item = λ a. elim a as (λ k. OneOf query_numbers (of_list_item k).number) [ Some i ↦ refl | None ↦ refl ];
    }
