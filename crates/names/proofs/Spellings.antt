-- A name as it is handed back.
use Rattle.std.specs.Prelude.{Some}
use Prim.Native.Nat.{ℕ, ◌-◌}
use mathlib.Core.Path.{◌≡◌, sym, ◌∙◌}
use mathlib.Core.List.{List}
use lib.ListN.{length, replicate}
use lib.Seq.{take-append_seam}
use Rattle.names.specs.Names.{number_in}
use Rattle.names.specs.Spelling.{element_named, name_of, spelled}
use Rattle.names.proofs.Numbers.{Numbered, name_in, name-number, named-text}

-- what is handed back spells the name
pub name-spelled : (t : List ℕ) → spelled (name_of t) ≡ t
name-spelled t = take-append_seam t (replicate (11 - length t) 0)

module _ {A : Type 0} {number : A → ℕ} {kinds : List A} {names : List (List ℕ)} (n : Numbered number kinds names) where
  -- what is handed back for a kind is a known name, the kind's own
  pub spelled-number : (a : A) → number_in names (spelled (name_of (name_in number names a))) ≡ Some (number a)
  spelled-number a = rw (name-spelled (name_in number names a)) (name-number n a)

  -- a text that names a kind is spelt as it was
  pub spelled-text : (t : List ℕ) (a : A) → element_named kinds names t ≡ Some a → spelled (name_of (name_in number names a)) ≡ t
  spelled-text t a p = name-spelled (name_in number names a) ∙ sym (named-text n t a p)
