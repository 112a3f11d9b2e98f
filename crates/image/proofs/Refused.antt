-- A refusal that `?` hands on: its number is the answer's, and comes before that of any later rule.
use Rattle.std.specs.Prelude.{◌≡◌, ℕ, suc, pred, Result, Ok, Err, IsErrAnd, is_ok, is_err}
use Rattle.std.proofs.Common.{ap, refl, sym, ◌∙◌, arith}
use mathlib.Core.Bool.{true, false, false≢true}
use borrow.Author.Tests.{ne_eqb}
use Rattle.laws.specs.Refusal.{◌▸◌, passes}
use Rattle.image.specs.declared.refusal.Refusal.{Refusal}
use Rattle.image.specs.declared.refusal.Refusal.TheVariants as row
use Rattle.image.specs.Refusals.{refusal_number, refusal_in, numbered}

-- the numbers begin at 1
pub not-zero : (e : Refusal) → refusal_number e ≡ suc (pred (refusal_number e))
not-zero row.BadHeader = refl
not-zero row.BadVersion = refl
not-zero row.BadInkVersion = refl
not-zero row.BadLength = refl
not-zero row.BadSections = refl
not-zero row.BadChecksum = refl
not-zero row.TooFewWords = refl
not-zero row.BadRoot = refl
not-zero row.BadNode = refl
not-zero row.BadText = refl
not-zero row.BadRange = refl
not-zero row.BadTag = refl
not-zero row.LeftOver = refl
not-zero row.BadChild = refl
not-zero row.Unreached = refl
not-zero row.BadIndex = refl
not-zero row.BadDefinition = refl
not-zero row.NotFound = refl
not-zero row.BadDraft = refl
not-zero row.DraftUnreached = refl
not-zero row.DraftShape = refl
not-zero row.DraftPaths = refl
not-zero row.NoRoom = refl
not-zero row.TooFewSlots = refl
not-zero row.NoTarget = refl
not-zero row.NoContainer = refl
not-zero row.BadSummary = refl

module _ {A B : Type 0} (r : Result A Refusal) (e : Refusal) (q : Result B Refusal) (refused : r ≡ Err e) (given : IsErrAnd q (λ x. x ≡ e)) where
  pub handed-on : q ≡ Err e
  handed-on = by q given
    where
      by : (q : Result B Refusal) → IsErrAnd q (λ x. x ≡ e) → q ≡ Err e
      by (Ok x) h = absurd h
      by (Err x) h = ap Err h

  pub refused-numbered : numbered q ≡ Err (refusal_number e)
  refused-numbered = ap numbered handed-on

  pub refused-alike : refusal_in q ≡ refusal_in r
  refused-alike = ap refusal_in handed-on ∙ sym (ap refusal_in refused)

  -- the first of two rules is broken
  pub refused-first : (a b : ℕ) → refusal_in r ≡ a → refusal_in q ≡ (a ▸ b)
  unfolding ◌▸◌
  refused-first a b h =
      let n : a ≡ suc (pred (refusal_number e)) = sym h ∙ ap refusal_in refused ∙ not-zero e in
      rw n (refused-alike ∙ h ∙ n)

module _ {A : Type 0} (r : Result A Refusal) (x : A) (passed : r ≡ Ok x) (a : ℕ) (is : refusal_in r ≡ a) where
  pub passed-zero : a ≡ 0
  passed-zero = sym is ∙ ap refusal_in passed

  -- the first of two rules is kept
  pub passed-first : (b : ℕ) → (a ▸ b) ≡ b
  unfolding ◌▸◌
  passed-first b = rw passed-zero refl

-- what `?` found, as a fact of the number
pub some-refused : {A : Type 0} (r : Result A Refusal) (e : Refusal) → r ≡ Err e → refusal_in r ≡ 0 → ⊥
some-refused r e p z = let n : suc (pred (refusal_number e)) ≡ 0 = sym (not-zero e) ∙ sym (ap refusal_in p) ∙ z in absurd (omega arith)

pub none-refused : {A : Type 0} (r : Result A Refusal) (x : A) → r ≡ Ok x → refusal_in r ≡ 0
none-refused r x p = ap refusal_in p

-- what `is_ok` and `is_err` found
pub ok-passes : {A : Type 0} (r : Result A Refusal) → is_ok r ≡ passes (refusal_in r)
ok-passes (Ok x) = refl
ok-passes (Err e) = sym (ne_eqb (refusal_number e) 0 (λ z. let n : suc (pred (refusal_number e)) ≡ 0 = sym (not-zero e) ∙ z in absurd (omega arith)))

pub err-refused : {A : Type 0} (r : Result A Refusal) → is_err r ≡ true → refusal_in r ≡ 0 → ⊥
err-refused (Ok x) h = absurd (false≢true h)
err-refused (Err e) h = λ z. let n : suc (pred (refusal_number e)) ≡ 0 = sym (not-zero e) ∙ z in absurd (omega arith)

pub not-err-passed : {A : Type 0} (r : Result A Refusal) → is_err r ≡ false → refusal_in r ≡ 0
not-err-passed (Ok x) h = refl
not-err-passed (Err e) h = absurd (false≢true (sym h))
