-- The rule of a text alone, by the tests that the code made; known names.
use Rattle.std.specs.Prelude.{None, Option, Some, is_some, ℕ}
use Prim.Native.Nat.{ℕ}
use mathlib.Core.Path.{◌≡◌, refl, sym, ◌∙◌}
use mathlib.Core.Bool.{Bool, true, false, not, cond}
use mathlib.Core.List.{List}
use lib.Dec.{eqb}
use borrow.Author.Tests.{eq-eqb, ne_eqb, not-false}
use Rattle.laws.specs.Refusal.{unless}
use Rattle.laws.proofs.First.{second, pass}
use Rattle.laws.proofs.Chains.{stop}
use Rattle.texts.specs.Text.{holds}
use Rattle.names.specs.Names.{commands, operators, number_in}
use Rattle.names.proofs.Distinct.{number-held}
use Rattle.image.specs.Sections.{part_at, good_in, text_or_empty}
use Rattle.image.proofs.Parts.{good-part}
use Rattle.records.specs.Shown.{text_rule}

-- ---- a name is known if it has a number

pub known-held : (names : List (List ℕ)) (t : List ℕ) (r : Option ℕ) → r ≡ number_in names t → is_some r ≡ holds names t
known-held names t (Some k) e = sym (rw (number-held names t, ← e))
known-held names t None e = sym (rw (number-held names t, ← e))

-- ---- by the flags that the tests gave

module _ (strings : List ℕ) (tag at len : ℕ) (p : Bool) (e : p ≡ good_in strings at len) where
  pub text_bad : not p ≡ true → 10 ≡ text_rule tag at len strings
  unfolding text_rule
  text_bad n = stop (good_in strings at len) p 10 _ refl e n

  module _ (n : not p ≡ false) where
    -- the text's bytes
    named_by_lem : (name : List ℕ) → name ≡ text_or_empty strings at len → name ≡ part_at strings at len
    named_by_lem name h = h ∙ good-part strings at len (sym e ∙ not-false p n)

    after : text_rule tag at len strings
        ≡ cond (eqb tag 3) (unless (holds commands (part_at strings at len)) 12) (cond (eqb tag 6) (unless (holds operators (part_at strings at len)) 12) 0)
    unfolding text_rule
    after = second _ _ (pass (good_in strings at len) 10 (sym e ∙ not-false p n))

    pub text_any : (tag ≡ 3 → ⊥) → (tag ≡ 6 → ⊥) → 0 ≡ text_rule tag at len strings
    text_any d f = sym (rw (ne_eqb tag 3 d, ne_eqb tag 6 f) at after)

    module _ (name : List ℕ) (h : name ≡ text_or_empty strings at len) (q : Bool) where
      command_rule : tag ≡ 3 → q ≡ holds commands name → unless q 12 ≡ text_rule tag at len strings
      command_rule t k = rw (k, named_by_lem name h) (sym (rw (eq-eqb tag 3 t) at after))

      operator_rule : (tag ≡ 3 → ⊥) → tag ≡ 6 → q ≡ holds operators name → unless q 12 ≡ text_rule tag at len strings
      operator_rule d t k = rw (k, named_by_lem name h) (sym (rw (ne_eqb tag 3 d, eq-eqb tag 6 t) at after))

      pub command_known : tag ≡ 3 → q ≡ holds commands name → q ≡ true → 0 ≡ text_rule tag at len strings
      unfolding unless
      command_known t k y = rw y at (command_rule t k)

      pub command_unknown : tag ≡ 3 → q ≡ holds commands name → q ≡ false → 12 ≡ text_rule tag at len strings
      unfolding unless
      command_unknown t k y = rw y at (command_rule t k)

      pub operator_known : (tag ≡ 3 → ⊥) → tag ≡ 6 → q ≡ holds operators name → q ≡ true → 0 ≡ text_rule tag at len strings
      unfolding unless
      operator_known d t k y = rw y at (operator_rule d t k)

      pub operator_unknown : (tag ≡ 3 → ⊥) → tag ≡ 6 → q ≡ holds operators name → q ≡ false → 12 ≡ text_rule tag at len strings
      unfolding unless
      operator_unknown d t k y = rw y at (operator_rule d t k)
