-- An exported query against the inner one.
use Rattle.std.specs.Prelude.{ℕ, ◌≤◌, ◌≡◌, List, [], ◌∷◌, length, None, Option, Some}
use Rattle.image.specs.Refusals.{not_found}
use Rattle.answers.specs.AnswerWords.{number_of, unsigned}
use Rattle.lookups.specs.declared.ListItem.{ListItem}

-- with k words or more lent for the answer, the query returns 0 exactly if the inner one answers, and 18 exactly if it does not; its words
-- are then the inner one's
pub record Answers (k : ℕ) (exported inner : Option (List ℕ)) : Type 0 where
  pub words : exported ≡ inner
  pub found : (ws : List ℕ) → inner ≡ Some ws → (length ws ≡ k) × ((n : ℕ) → k ≤ n → number_of exported n ≡ 0)
  pub missing : inner ≡ None → (n : ℕ) → number_of exported n ≡ not_found

-- a list item without a case for numbers that a word does not hold
abbrev pub words_of_list_item : Option ListItem → Option (List ℕ)
words_of_list_item (Some i) = Some (i.definition ∷ i.item ∷ unsigned i.value ∷ [])
words_of_list_item None = None
