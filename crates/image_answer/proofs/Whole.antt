-- What is read of an input tells its answer: all of it, or more than the longest image.
use Rattle.std.proofs.Common.{ℕ, ◌≤◌, ◌≡◌, List, [], ◌++◌, length, sym, ap, ◌∙◌, subst, arith, append-nil, length-append, Option, Some, None, IfSome, Result, Ok, Err, OnOk}
use native.Mathlib.Decide.{dec_lt}
use Rattle.std.specs.Io.KnownBytes.{Appends, Consumes, IsAtEnd}
use Rattle.image_answer.specs.declared.Answer.{Answer}
use Rattle.image_answer.specs.Answer.{limit, answer_of, line_of}
use Rattle.image_answer.proofs.Enough.{long}

of_all : (bs front rest : List ℕ) → bs ≡ front ++ rest → (length front ≤ limit → rest ≡ []) → answer_of front ≡ answer_of bs
of_all bs front rest e end =
    elim (dec_lt limit (length front)) [
      | yes l ↦ sym (long front l) ∙ long bs (omega (arith, ap length e, length-append front rest))
      | no n ↦ ap answer_of (sym (e ∙ ap (λ (l : List ℕ). front ++ l) (end (omega arith)) ∙ append-nil front))
    ]

-- a line that is written for what was read is the whole input's
pub said : {A E : Type 0} (r : Result A E) (before after w w' : Option (List ℕ)) (front : List ℕ) (a : Answer)
    → Consumes before after front → (length front ≤ limit → IsAtEnd after) → a ≡ answer_of front
    → OnOk r (Appends w w' (line_of a)) → OnOk r (IfSome before (λ bs. Appends w w' (line_of (answer_of bs))))
said (Err e) before after w w' front a h end is p = tt
said (Ok x) None after w w' front a h end is p = tt
said (Ok x) (Some bs) None w w' front a h end is p = absurd h
said (Ok x) (Some bs) (Some rest) w w' front a h end is p =
    subst (λ (b : Answer). Appends w w' (line_of b)) (is ∙ of_all bs front rest h end) p
