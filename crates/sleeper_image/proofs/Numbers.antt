-- The numbers that exported functions of the sleeper's reader return.
use Rattle.std.specs.Prelude.{None, Option, Some}
use Prim.Native.Nat.{ℕ}
use mathlib.Core.Path.{ap, ◌∙◌}
use mathlib.Core.List.{List}
use lib.ListN.{length}
use Rattle.laws.specs.Lists.{has}
use Rattle.answers.specs.AnswerWords.{number_of}
use Rattle.answers.specs.Lent.{spelled_number}
use Rattle.refusal_numbers.specs.Numbers.{query_numbers}
use Rattle.refusal_numbers.proofs.OneOf.{In, among, numbers}
use Rattle.refusal_numbers.proofs.Loads.{load-numbers}
use Rattle.sleeper_image.specs.Numbers.{text_numbers, SleeperExportNumbers}

query-number : (o : Option (List ℕ)) (n : ℕ) → In query_numbers (number_of o n)
unfolding number_of has
query-number None n = search numbers
query-number (Some ws) n = search numbers

text-number : (o : Option (List ℕ)) (room lent : ℕ) → In text_numbers (spelled_number o room lent)
unfolding has
text-number None room lent = search numbers
text-number (Some t) room lent = search numbers

pub export_numbers : SleeperExportNumbers
export_numbers =
    record {
      load = λ bs view work. load-numbers bs _;
      query = λ o before after r a. ap (λ (n : ℕ). has n query_numbers) a.number ∙ among query_numbers _ (query-number o (length before));
      text = λ o text₀ text size₀ size r a.
          ap (λ (n : ℕ). has n text_numbers) a.number ∙ among text_numbers _ (text-number o (length text₀) (length size₀));
    }
