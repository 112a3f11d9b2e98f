-- Texts of commands and operators: their numbers, and the bytes that hold them.
use Rattle.std.specs.Prelude.{None, Some}
use Prim.Native.Nat.{ℕ, ◌-◌, ◌≤◌, ◌<◌}
use mathlib.Core.Path.{◌≡◌, refl, sym, ◌∙◌}
use mathlib.Core.List.{List, [], ◌∷◌}
use native.Mathlib.Omega.{arith}
use native.Mathlib.Nat.{not-suc-le-zero}
use lib.ListN.{length, get_or, replicate, length-replicate, length-append}
use lib.Seq.{length-take-le}
use lib.Dec.{leb}
use borrow.Author.Tests.{leb-true}
use Rattle.laws.specs.Refusal.{first_of, unless, refusals}
use Rattle.names.specs.Names.{commands, operators, number_in, names}
use Rattle.names.specs.Spelling.{element_at, name_of, spelled}
use Rattle.names.specs.declared.Name.{Name}
use Rattle.names.proofs.Distinct.{place-number}
use Rattle.names.proofs.Numbers.{Numbered, every, at_element, past_element, named-number, named_yes}
use Rattle.names.proofs.Spellings.{name-spelled}

-- ---- a name fits its bytes

pub name-fits : (w : Name) (t : List ℕ) → w ≡ name_of t → length t ≤ 11 → (w.len ≤ 11) × (length w.bytes ≡ 11)
name-fits w t e h =
    let zeros : length {A = ℕ} (replicate {A = ℕ} (11 - length t) 0) ≡ 11 - length t = length-replicate {A = ℕ} (11 - length t) 0 in
    rw e (h, length-append t (replicate (11 - length t) 0) ∙ rw zeros (omega arith))

pub spelled-long : (w : Name) → (w.len ≤ 11) × (length w.bytes ≡ 11) → length (spelled w) ≡ w.len
spelled-long w p = let h = p.0 in let e = p.1 in length-take-le w.len w.bytes (omega arith)

commands-short : first_of 26 (λ k. unless (leb (length (get_or commands k [])) 11) 1) ≡ 0
unfolding names refusals
commands-short = refl

pub command_short : (k : ℕ) → k < 26 → length (get_or commands k []) ≤ 11
command_short k h = leb-true (length (get_or commands k [])) 11 (every 26 (λ j. leb (length (get_or commands j [])) 11) commands-short k h)

operators-short : first_of 31 (λ k. unless (leb (length (get_or operators k [])) 11) 1) ≡ 0
unfolding names refusals
operators-short = refl

pub operator_short : (k : ℕ) → k < 31 → length (get_or operators k []) ≤ 11
operator_short k h = leb-true (length (get_or operators k [])) 11 (every 31 (λ j. leb (length (get_or operators j [])) 11) operators-short k h)

-- ---- the text of a number

pub command_count : length commands ≡ 26
unfolding names
command_count = refl

pub operator_count : length operators ≡ 31
unfolding names
operator_count = refl

module _ {A : Type 0} {number : A → ℕ} {kinds : List A} {names : List (List ℕ)} (n : Numbered number kinds names) (count : ℕ) (e : length names ≡ count) (k : ℕ) where
  pub past-names : count ≤ k → element_at names k ≡ None
  past-names h = past_element names k (omega arith)

  -- a number below the count is that of a kind
  pub some-kind : k < count → None ≡ element_at kinds k → ⊥
  some-kind h q = none-some kinds (omega (arith, n.counts)) q
    where
      none-some : (xs : List A) → k < length xs → None ≡ element_at xs k → ⊥
      none-some [] l p = not-suc-le-zero l
      none-some (x ∷ xs) l p = let s = at_element (x ∷ xs) k x l in let z : ◌≡◌ {A = ℕ} 0 1 = cc in omega arith

  module _ (h : k < count) (a : A) (q : Some a ≡ element_at kinds k) where
    pub kind-number : number a ≡ k
    kind-number =
        let t = get_or names k [] in
        let p : number_in names t ≡ Some k = place-number names n.apart k (omega arith) in
        let u = named-number n t a (sym (named_yes kinds names t k (Some a) (sym p) q)) in
        let z : Some k ≡ Some (number a) = sym p ∙ u in
        cc

    pub kind-spelled : (w : Name) → w ≡ name_of (get_or names (number a) []) → Some (spelled w) ≡ element_at names k
    kind-spelled w g =
        rw (g, name-spelled (get_or names (number a) []), kind-number) (sym (at_element names k [] (omega arith)))
