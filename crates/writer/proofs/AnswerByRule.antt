-- The answer by the rule's number and the image's length, both ways.
use Prim.Native.Nat.{ℕ, ◌≤◌, ◌<◌}
use mathlib.Core.Path.{◌≡◌, refl, sym, ap, ◌∙◌}
use mathlib.Core.Bool.{Bool, true, false, cond, ◌&&◌}
use native.Mathlib.Omega.{arith}
use lib.Dec.{leb, eqb}
use borrow.Author.Tests.{le-leb, lt-leb, leb-true, leb-false, eq-eqb, ne_eqb, eqb-true, eqb-false}
use Rattle.laws.proofs.Flags.{both_true}
use Rattle.words.specs.Words.{NONE}
use Rattle.writer.specs.Encoded.{Written, Short, Refused}
use Rattle.writer.specs.Answer.{encoded_by, of_encoded}

module _ (r long : ℕ) where
  -- an output that is too short is told the length
  abbrev tells : Bool
  tells = eqb r 23 && leb long NONE

  tells_yes : tells ≡ true → (r ≡ 23) × (long ≤ NONE)
  tells_yes e = let x = both_true (eqb r 23) (leb long NONE) e in (eqb-true r 23 x.0, leb-true long NONE x.1)

  tells_no : tells ≡ false → r ≡ 23 → NONE < long
  tells_no e q = leb-false long NONE (sym (ap (λ (b : Bool). b && leb long NONE) (eq-eqb r 23 q)) ∙ e)

  -- ---- what is answered

  pub by_zero : r ≡ 0 → encoded_by r long ≡ Written long
  unfolding encoded_by
  by_zero e = rw (eq-eqb r 0 e) refl

  pub by_room : r ≡ 23 → long ≤ NONE → encoded_by r long ≡ Short long
  unfolding encoded_by
  by_room e h = rw (ne_eqb r 0 (λ q. omega arith), eq-eqb r 23 e, le-leb long NONE h) refl

  pub by_refusal : (r ≡ 0 → ⊥) → (r ≡ 23 → NONE < long) → encoded_by r long ≡ Refused r
  unfolding encoded_by
  by_refusal d h = rw (ne_eqb r 0 d) (go (eqb r 23) refl)
    where
      go : (b : Bool) → eqb r 23 ≡ b → cond (b && leb long NONE) (Short long) (Refused r) ≡ Refused r
      go true e = rw (lt-leb long NONE (h (eqb-true r 23 e))) refl
      go false e = refl

  pub number_by : (of_encoded (encoded_by r long)).number ≡ r
  unfolding encoded_by
  number_by = go (eqb r 0) refl tells refl
    where
      go : (a : Bool) → eqb r 0 ≡ a → (b : Bool) → tells ≡ b → (of_encoded (cond a (Written long) (cond b (Short long) (Refused r)))).number ≡ r
      go true e b f = sym (eqb-true r 0 e)
      go false e true f = sym (tells_yes f).0
      go false e false f = refl

  -- ---- what an answer says

  pub written_by : (n : ℕ) → encoded_by r long ≡ Written n → (r ≡ 0) × (n ≡ long)
  unfolding encoded_by
  written_by n = go (eqb r 0) refl tells refl
    where
      go : (a : Bool) → eqb r 0 ≡ a → (b : Bool) → tells ≡ b → cond a (Written long) (cond b (Short long) (Refused r)) ≡ Written n → (r ≡ 0) × (n ≡ long)
      go true e b f q = (eqb-true r 0 e, cc)
      go false e true f q = let z : ◌≡◌ {A = ℕ} 0 1 = cc in absurd (omega arith)
      go false e false f q = let z : ◌≡◌ {A = ℕ} 0 1 = cc in absurd (omega arith)

  pub short_by : (n : ℕ) → encoded_by r long ≡ Short n → (r ≡ 23) × (n ≡ long) × (long ≤ NONE)
  unfolding encoded_by
  short_by n = go (eqb r 0) refl tells refl
    where
      go : (a : Bool) → eqb r 0 ≡ a → (b : Bool) → tells ≡ b → cond a (Written long) (cond b (Short long) (Refused r)) ≡ Short n
          → (r ≡ 23) × (n ≡ long) × (long ≤ NONE)
      go true e b f q = let z : ◌≡◌ {A = ℕ} 0 1 = cc in absurd (omega arith)
      go false e true f q = ((tells_yes f).0, cc, (tells_yes f).1)
      go false e false f q = let z : ◌≡◌ {A = ℕ} 0 1 = cc in absurd (omega arith)

  pub refused_by : (k : ℕ) → encoded_by r long ≡ Refused k → (r ≡ k) × (k ≡ 0 → ⊥) × (k ≡ 23 → NONE < long)
  unfolding encoded_by
  refused_by k = go (eqb r 0) refl tells refl
    where
      go : (a : Bool) → eqb r 0 ≡ a → (b : Bool) → tells ≡ b → cond a (Written long) (cond b (Short long) (Refused r)) ≡ Refused k
          → (r ≡ k) × (k ≡ 0 → ⊥) × (k ≡ 23 → NONE < long)
      go true e b f q = let z : ◌≡◌ {A = ℕ} 0 1 = cc in absurd (omega arith)
      go false e true f q = let z : ◌≡◌ {A = ℕ} 0 1 = cc in absurd (omega arith)
      go false e false f q = let x : r ≡ k = cc in (x, λ z. eqb-false r 0 e (x ∙ z), λ z. tells_no f (x ∙ z))
