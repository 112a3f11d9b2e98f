-- The numbers that exported functions return.
use Rattle.std.specs.Prelude.{None, Option, Some}
use Prim.Native.Nat.{ℕ}
use mathlib.Core.Path.{ap, ◌∙◌}
use mathlib.Core.List.{List}
use lib.ListN.{length}
use Rattle.laws.specs.Lists.{has}
use Rattle.answers.specs.AnswerWords.{number_of}
use Rattle.answers.specs.Lent.{spelled_number}
use Rattle.pages.specs.Page.{page_rule}
use Rattle.target_counts.specs.Summary.{summary_rule}
use Rattle.refusal_numbers.specs.Numbers.{query_numbers, encode_numbers}
use Rattle.refusal_numbers.proofs.OneOf.{In, among, numbers}
use Rattle.refusal_numbers.proofs.Loads.{load-numbers}
use Rattle.refusal_numbers.proofs.Drafts.{encode-numbers, resolve-numbers}
use Rattle.refusal_numbers.proofs.Counts.{draft-count-numbers, set-target-numbers}
use Rattle.story_image.specs.Queries.{page_number, count_number}
use Rattle.story_image.specs.Numbers.{page_export_numbers, count_export_numbers, spell_numbers, ExportNumbers}

query-number : (o : Option (List ℕ)) (n : ℕ) → In query_numbers (number_of o n)
unfolding number_of has
query-number None n = search numbers
query-number (Some ws) n = search numbers

page-number : (view count slots : ℕ) → In page_export_numbers (page_number view count slots)
unfolding page_number page_rule has
page-number view count slots = search numbers

count-number : (bytes view : List ℕ) (words : ℕ) → In count_export_numbers (count_number bytes view words)
unfolding count_number summary_rule has
count-number bytes view words = search numbers

spell-number : (o : Option (List ℕ)) (room lent : ℕ) → In spell_numbers (spelled_number o room lent)
unfolding has
spell-number None room lent = search numbers
spell-number (Some t) room lent = search numbers

pub export_numbers : ExportNumbers
export_numbers =
    record {
      load = λ bs view work. load-numbers bs _;
      query = λ o before after r a. ap (λ (n : ℕ). has n query_numbers) a.number ∙ among query_numbers _ (query-number o (length before));
      page = λ view count slots. among page_export_numbers _ (page-number view count slots);
      count = λ bytes view words. among count_export_numbers _ (count-number bytes view words);
      spell = λ o text₀ text long₀ long r a.
          ap (λ (n : ℕ). has n spell_numbers) a.number ∙ among spell_numbers _ (spell-number o (length text₀) (length long₀));
      write = λ ink s out₀ out work₀ work written₀ written r a. ap (λ (n : ℕ). has n encode_numbers) a.number ∙ encode-numbers ink s _ (length out₀);
      resolve = resolve-numbers;
      draft-count = draft-count-numbers;
      set-target = set-target-numbers;
    }
