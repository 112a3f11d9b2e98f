-- Which numbers each exported function of the sleeper's reader can return, by what its contract says of the number.
use Rattle.std.specs.Prelude.{ℕ, List, [], ◌∷◌, Option}
use Rattle.image.specs.Refusals.{not_found, no_room}
use Rattle.load.specs.Load.{load_rule}
use Rattle.answers.specs.AnswerWords.{Answered}
use Rattle.answers.specs.Lent.{Spelled}
use Rattle.refusal_numbers.specs.Numbers.{OneOf, load_numbers, query_numbers}
use Rattle.sleeper_image.specs.Exported.{lent_words}

-- 18, 23
abbrev pub text_numbers : List ℕ
text_numbers = 0 ∷ not_found ∷ no_room ∷ []

pub record SleeperExportNumbers : Type 0 where
  -- story_image_sleeper_load
  pub load : (bs : List ℕ) (view work : ℕ) → OneOf load_numbers (load_rule bs (lent_words view work))
  -- every query that fills an answer
  pub query : (o : Option (List ℕ)) (before after : List ℕ) (r : ℕ) → Answered o before after r → OneOf query_numbers r
  -- story_image_sleeper_text
  pub text : (o : Option (List ℕ)) (text₀ text size₀ size : List ℕ) (r : ℕ) → Spelled o text₀ text size₀ size r → OneOf text_numbers r
