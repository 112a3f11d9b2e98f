-- Slices that are lent for results, on return: written at their start where nothing is refused; a text copied, and its length.
use Rattle.std.specs.Prelude.{ℕ, zero, suc, ◌≡◌, List, [], ◌∷◌, ◌++◌, cond, ◌&&◌, length, drop, leb, None, Option, Some}
use Rattle.image.specs.Refusals.{not_found, no_room}

-- what is lent on return: written at its start where nothing is refused, else as it was
unfoldable pub written_after : ℕ → List ℕ → List ℕ → List ℕ
written_after zero ws lent = ws ++ drop (length ws) lent
written_after (suc r) ws lent = lent

-- 0; 18 where there is no text; 23 where the text, or its length, has no room
abbrev pub spelled_number : Option (List ℕ) → ℕ → ℕ → ℕ
spelled_number None room lent = not_found
spelled_number (Some t) room lent = cond (leb 1 lent && leb (length t) room) 0 no_room

abbrev pub text_or : Option (List ℕ) → List ℕ
text_or None = []
text_or (Some t) = t

-- of the text, if there is one: what is returned, and the lent slices before and after
pub record Spelled (o : Option (List ℕ)) (text₀ text long₀ long : List ℕ) (r : ℕ) : Type 0 where
  pub number : r ≡ spelled_number o (length text₀) (length long₀)
  pub spelling : text ≡ written_after r (text_or o) text₀
  pub size : long ≡ written_after r (length (text_or o) ∷ []) long₀
