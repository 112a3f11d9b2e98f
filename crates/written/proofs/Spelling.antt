-- Names of commands and operators are written as `get_name` spells them.
use Rattle.std.specs.Prelude.{None, Option, Some}
use Prim.Native.Nat.{ℕ, ◌+◌}
use mathlib.Core.Path.{◌≡◌, refl, sym, ap}
use mathlib.Core.List.{List}
use mathlib.Core.Bool.{Bool, true, false, cond}
use Rattle.texts.specs.Text.{holds}
use Rattle.names.specs.Names.{commands, operators, number_in}
use Rattle.names.proofs.Distinct.{number-placed}
use Rattle.image.specs.Sections.{f, text_at}
use Rattle.draft_image.specs.Strings.{text_words}
use Rattle.draft_image.specs.Written.{field_words}
use Rattle.written.specs.Spelling.{name_at, get_name, spelling_of, Spells}

module _ (names : List (List ℕ)) (t : List ℕ) where
  -- a known name is its own name
  own_name : (o : Option ℕ) → number_in names t ≡ o → name_at names t o ≡ t
  own_name None e = refl
  own_name (Some k) e = sym (number-placed names t k e).text

  same-both : (b : Bool) (x y : List ℕ) → x ≡ y → cond b x y ≡ y
  same-both true x y e = e
  same-both false x y e = refl

  pub spelled_as_draft : spelling_of names t ≡ t
  unfolding spelling_of
  spelled_as_draft = same-both (holds names (get_name names t)) (get_name names t) t (own_name (number_in names t) refl)

pub writer_spells : Spells
unfolding field_words
writer_spells s order kept i k =
    let t = text_at s (f s i k) (f s i (k + 1)) in
    record {
      command_words = ap (text_words kept) (sym (spelled_as_draft commands t));
      operator_words = ap (text_words kept) (sym (spelled_as_draft operators t));
    }
