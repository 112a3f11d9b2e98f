-- How many words an answer has, and so when an exported query answers as the inner one does.
use Rattle.std.specs.Prelude.{None, Option, Some, ℕ}
use Prim.Native.Nat.{ℕ}
use mathlib.Core.Path.{◌≡◌, refl, sym, ap, ◌∙◌}
use mathlib.Core.List.{List, [], ◌∷◌}
use mathlib.Core.Bool.{Bool, cond}
use Rattle.std.proofs.lemmas.Option.{same_Some}
use Rattle.std.proofs.lemmas.Option.{none-some}
use lib.ListN.{length}
use borrow.Author.Tests.{le-leb}
use Rattle.answers.specs.AnswerWords.{number_of, found_answer}
use Rattle.answers.specs.Exports.{Answers, words_of_list_item}
use Rattle.lookups.specs.declared.ListItem.{ListItem}

abbrev pub Size : ℕ → Option (List ℕ) → Type 0
Size k o = (ws : List ℕ) → o ≡ Some ws → length ws ≡ k

pub some_size : (k : ℕ) (us : List ℕ) → length us ≡ k → Size k (Some us)
some_size k us h ws e = ap length (sym (same_Some us ws e)) ∙ h

pub none-size : (k : ℕ) → Size k None
none-size k ws e = absurd (none-some _ e)

pub found-size : (a : Option ℕ) → Size 1 (found_answer a)
found-size (Some n) = some_size 1 (n ∷ []) refl
found-size None = none-size 1

pub list-item-size : (a : Option ListItem) → Size 3 (words_of_list_item a)
list-item-size (Some i) = some_size 3 _ refl
list-item-size None = none-size 3

pub answering : (k : ℕ) (exported inner : Option (List ℕ)) → exported ≡ inner → Size k inner → Answers k exported inner
unfolding number_of
answering k exported inner e size =
    record {
      words = e;
      found = λ ws h. (size ws h, λ n l. ap (λ (o : Option (List ℕ)). number_of o n) (e ∙ h) ∙ ap (λ (b : Bool). cond b 0 18) (le-leb (length ws) n (rw (size ws h) l)));
      missing = λ h n. ap (λ (o : Option (List ℕ)). number_of o n) (e ∙ h);
    }
