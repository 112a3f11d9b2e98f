-- Offsets of texts that work words hold: those of a part of the texts.
use Prim.Native.Nat.{ℕ, ◌+◌, ◌<◌}
use mathlib.Core.Path.{◌≡◌, ap, ◌∙◌}
use mathlib.Core.List.{List, [], ◌∷◌, ◌++◌}
use native.Mathlib.Omega.{arith}
use lib.ListN.{length, get_or, length-append, get_or-append}
use lib.Seq.{get_or-append-add}
use Rattle.laws.specs.Counted.{join_of, sum_of}
use Rattle.draft_image.specs.Strings.{offset_of}
use Rattle.draft_image.specs.Ready.{OffsetsAt}
use Rattle.draft_image.proofs.Joins.{sum_below, sum_const, join_length, join_at}

module _ (kept : List (List ℕ)) (w : List ℕ) (at : ℕ) where
  -- the word of the first
  pub offset_first : (t : List ℕ) (ts : List (List ℕ)) → OffsetsAt kept (t ∷ ts) w at → get_or w at 0 ≡ offset_of kept t
  offset_first t ts o = let z : at ≡ at + 0 = omega arith in ap (λ (k : ℕ). get_or w k 0) z ∙ o 0 (omega arith)

  pub offsets-left : (xs ys : List (List ℕ)) → OffsetsAt kept (xs ++ ys) w at → OffsetsAt kept xs w at
  offsets-left xs ys o k h = o k (omega (arith, length-append xs ys)) ∙ ap (offset_of kept) (get_or-append xs ys [] k h)

  pub offsets-right : (xs ys : List (List ℕ)) → OffsetsAt kept (xs ++ ys) w at → OffsetsAt kept ys w (at + length xs)
  offsets-right xs ys o k h =
      let z : at + length xs + k ≡ at + (length xs + k) = omega arith in
      ap (λ (m : ℕ). get_or w m 0) z ∙ o (length xs + k) (omega (arith, length-append xs ys)) ∙ ap (offset_of kept) (get_or-append-add xs ys k [])

  -- of part j of joined lists
  pub offsets-part : (n : ℕ) (g : ℕ → List (List ℕ)) → OffsetsAt kept (join_of n g) w at → (j : ℕ) → j < n
      → OffsetsAt kept (g j) w (at + sum_of j (λ m. length (g m)))
  offsets-part n g o j h k q =
      let before : ℕ = sum_of j (λ m. length (g m)) in
      let z : at + before + k ≡ at + (before + k) = omega arith in
      ap (λ (m : ℕ). get_or w m 0) z
      ∙ o (before + k) (omega (arith, join_length n g, sum_below j n (λ m. length (g m)) h))
      ∙ ap (offset_of kept) (join_at [] n j k g h q)

  -- of one text a part
  pub offsets-each : (n : ℕ) (text : ℕ → List ℕ) → OffsetsAt kept (join_of n (λ j. text j ∷ [])) w at → (j : ℕ) → j < n
      → get_or w (at + j) 0 ≡ offset_of kept (text j)
  offsets-each n text o j h =
      let z : at + j ≡ at + sum_of j (λ m. 1) + 0 = omega (arith, sum_const j 1) in
      ap (λ (k : ℕ). get_or w k 0) z ∙ offsets-part n (λ m. text m ∷ []) o j h 0 (omega arith)
