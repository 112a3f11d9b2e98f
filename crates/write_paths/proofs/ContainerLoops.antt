-- The loops that test and list containers.
use Prim.Native.Nat.{ℕ, ◌+◌, ◌≤◌, ◌<◌}
use mathlib.Core.Path.{◌≡◌, refl, ap, ◌∙◌}
use mathlib.Core.List.{List, [], ◌∷◌, ◌++◌, append-nil}
use mathlib.Core.Bool.{true, false}
use native.Mathlib.Omega.{arith}
use native.Mathlib.Numerals.{add-one}
use lib.ListN.{length, get_or, set, length-set, length-append}
use lib.Seq.{sets}
use lib.Dec.{eqb}
use borrow.Author.Tests.{eq-eqb, ne_eqb}
use Rattle.image.specs.Sections.{Sections, node_word}
use Rattle.image.specs.Entries.{record_of}
use Rattle.index.specs.Paths.{nameless}
use Rattle.draft.specs.Draft.{placed}
use Rattle.write_paths.proofs.WordLoop.{sets_last, sets-past}
use Rattle.write_paths.specs.Listed.{tag_at, containers_in, placed_in}

-- ---- placed

-- by its record
pub placed_record : (s : Sections) (v : ℕ) (nodes : List ℕ) (i : ℕ) → s.nodes ≡ nodes → s.version ≡ v → placed_in (record_of v nodes i) i ≡ placed s i
unfolding placed_in record_of placed nameless node_word
placed_record s v nodes i e z = rw (e, z)

-- ---- the list so far

pub record Listing (v : ℕ) (nodes w₀ w : List ℕ) (order count paths found j : ℕ) : Type 0 where
  pub within : j ≤ count
  pub size : found ≡ length (containers_in v nodes w₀ order j)
  pub few : found ≤ j
  pub words : w ≡ sets w₀ paths (containers_in v nodes w₀ order j)
  pub long : length w ≡ length w₀

module _ (v : ℕ) (nodes w₀ : List ℕ) (order count paths : ℕ) where
  pub list-start : Listing v nodes w₀ w₀ order count paths 0 0
  unfolding containers_in
  list-start = record { within = omega arith; size = refl; few = omega arith; words = refl; long = refl }

  module _ (w : List ℕ) (found j x : ℕ) (l : Listing v nodes w₀ w order count paths found j) (room : paths + count ≤ order) (h : j < count)
      (e : x ≡ get_or w (order + j) 0) where
    word : x ≡ get_or w₀ (order + j) 0
    word = e ∙ ap (λ (u : List ℕ). get_or u (order + j) 0) l.words ∙ sets-past (containers_in v nodes w₀ order j) w₀ paths (order + j) (omega (arith, l.size, l.few))

    pub list-take : tag_at v nodes x ≡ 1 → Listing v nodes w₀ (set w (paths + found) x) order count paths (found + 1) (j + 1)
    unfolding containers_in
    list-take t =
        let test : eqb (tag_at v nodes (get_or w₀ (order + j) 0)) 1 ≡ true = rw (← word) (eq-eqb _ _ t) in
        let more : containers_in v nodes w₀ order (j + 1) ≡ containers_in v nodes w₀ order j ++ (x ∷ []) = rw (add-one j, test, word) refl in
        record {
          within = omega arith;
          size = rw more (omega (arith, l.size, length-append (containers_in v nodes w₀ order j) (x ∷ [])));
          few = omega (arith, l.few);
          words =
              rw more
              (ap (λ (u : List ℕ). set u (paths + found) x) l.words ∙ ap (λ (n : ℕ). set (sets w₀ paths (containers_in v nodes w₀ order j)) (paths + n) x) l.size
              ∙ sets_last (containers_in v nodes w₀ order j) w₀ paths x);
          long = length-set w (paths + found) x ∙ l.long;
        }

    pub list-skip : (tag_at v nodes x ≡ 1 → ⊥) → Listing v nodes w₀ w order count paths found (j + 1)
    unfolding containers_in
    list-skip t =
        let test : eqb (tag_at v nodes (get_or w₀ (order + j) 0)) 1 ≡ false = rw (← word) (ne_eqb _ _ t) in
        let more : containers_in v nodes w₀ order (j + 1) ≡ containers_in v nodes w₀ order j = rw (add-one j, test) (append-nil (containers_in v nodes w₀ order j)) in
        record { within = omega arith; size = rw more l.size; few = omega (arith, l.few); words = rw more l.words; long = l.long }

  pub list_end : (w : List ℕ) (found j : ℕ) → Listing v nodes w₀ w order count paths found j → count ≤ j
      → (found ≡ length (containers_in v nodes w₀ order count)) × (w ≡ sets w₀ paths (containers_in v nodes w₀ order count))
  list_end w found j l h =
      let e : j ≡ count = omega (arith, l.within) in
      (rw (← e) l.size, rw (← e) l.words)
