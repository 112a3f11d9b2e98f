-- The lines of answers, as formatting writes them.
use Rattle.std.proofs.Common.{ℕ, ◌<◌, ◌^◌, ◌≡◌, [], ◌∷◌, ◌++◌, refl, sym, arith, append_assoc}
use Rattle.std.specs.Fmt as fmt
use Rattle.std.proofs.lemmas.Fmt.{decimal_by_steps}
use Rattle.texts.specs.Text.{ascii}
use Rattle.texts.specs.Decimal.{decimal}
use Rattle.texts.proofs.Decimal.{decimal_one, decimal-more}
use Rattle.image_answer.specs.Answer.{accepted_line, refused_line, long_line}

formatted : (n : ℕ) → n < 2 ^ 32 → fmt.decimal n ≡ decimal n
formatted n h =
    decimal_by_steps (λ m ds. ds ≡ decimal m) (λ m l. sym (decimal_one m l)) (λ m ds l e. rw e (sym (decimal-more m l))) n (omega arith)

pub accepted-written : (version nodes : ℕ) → version < 2 ^ 32 → nodes < 2 ^ 32
    → 111 ∷ 107 ∷ 32 ∷ (fmt.decimal version ++ (32 ∷ (fmt.decimal nodes ++ (10 ∷ [])))) ≡ accepted_line version nodes
unfolding accepted_line ascii
accepted-written version nodes v n = rw (formatted version v, formatted nodes n) (simp append_assoc refl)

pub refused-written : (number : ℕ) → number < 2 ^ 32 → 110 ∷ 111 ∷ 32 ∷ (fmt.decimal number ++ (10 ∷ [])) ≡ refused_line number
unfolding refused_line ascii
refused-written number n = rw (formatted number n) refl

pub long-written : 108 ∷ 111 ∷ 110 ∷ 103 ∷ 10 ∷ [] ≡ long_line
unfolding long_line ascii
long-written = refl
