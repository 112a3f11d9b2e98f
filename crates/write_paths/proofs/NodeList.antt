-- The list of nodes, sorted by numbers that stand for its places: the words from step to step.
use Prim.Native.Nat.{ℕ, zero, suc, ◌+◌, ◌-◌, ◌≤◌, ◌<◌}
use mathlib.Core.Path.{◌≡◌, refl, sym, ap, ◌∙◌}
use mathlib.Core.List.{List, [], ◌∷◌}
use mathlib.Core.Bool.{Bool, true, false, false≢true}
use native.Mathlib.Omega.{arith}
use lib.ListN.{length, get_or, take, drop}
use lib.Seq.{sets, get_or-take, length-sets}
use Rattle.laws.specs.Counted.{join_of, all_of}
use Rattle.laws.proofs.Lists.{drop_more}
use Rattle.laws.proofs.Members.{length_join, get_join, all_ext}
use Rattle.laws.specs.Sorted.{isort}
use Rattle.texts.specs.Text.{rising, by_key}
use Rattle.write_sorting.specs.Sorted.{up_from, part}
use Rattle.write_sorting.proofs.MergeInPlace.{get_d-later}
use Rattle.draft.specs.declared.layout.Layout.{Layout}
use Rattle.write_text_keys.specs.Keys.{key_of, key_in}
use Rattle.write_paths.specs.Arranged.{sorted_names, Arranged}
use Rattle.write_paths.proofs.WordLoop.{sets_at, sets-drop}

-- ---- texts that rise

-- the first one rises
pub rises_none : (key : ℕ → List ℕ) (w : List ℕ) (i : ℕ) → i < 1 → rising (λ j. key (get_or w j 0)) i ≡ true
rises_none key w zero h = refl
rises_none key w (suc i) h = absurd (omega arith)

-- any other, by the one before it
pub rises_at_lem : (key : ℕ → List ℕ) (w : List ℕ) (i : ℕ) → 1 ≤ i → by_key key (get_or w (i - 1) 0) (get_or w i 0) ≡ rising (λ j. key (get_or w j 0)) i
rises_at_lem key w zero h = absurd (omega arith)
rises_at_lem key w (suc i) h = let less : suc i - 1 ≡ i = omega arith in rw less refl

-- ---- from step to step

module _ (w₀ : List ℕ) (found at list : ℕ) (room : found + found ≤ at) (after : at ≤ list) (fits : list + found ≤ length w₀) where
  -- the first words are numbered
  module _ (w₁ : List ℕ) (numbered : part 0 found w₁ ≡ up_from 0 (found - 0)) (rest : drop found w₁ ≡ drop found w₀) where
    pub numbered-front : take found w₁ ≡ up_from 0 found
    numbered-front = let e : found - 0 ≡ found = omega arith in ap (λ (k : ℕ). take k w₁) (sym e) ∙ numbered ∙ ap (up_from 0) e

    pub numbered-behind : drop at w₁ ≡ drop at w₀
    numbered-behind = drop_more found at w₁ w₀ (omega arith) rest

  -- they are sorted, which leaves what is behind
  module _ (w₂ sorted : List ℕ) (front : take found w₂ ≡ sorted) (behind : drop at w₂ ≡ drop at w₀) (long : length w₂ ≡ length w₀) where
    pub sorted_at : (i : ℕ) → i < found → get_or w₂ i 0 ≡ get_or sorted i 0
    sorted_at i h = sym (get_or-take found w₂ i 0 h) ∙ ap (λ (l : List ℕ). get_or l i 0) front

    -- the list's words are put in their order
    module _ (w₃ w₄ : List ℕ) (gathered : w₃ ≡ sets w₂ found (join_of found (λ i. get_or w₂ (list + get_or w₂ i 0) 0 ∷ [])))
        (settled : w₄ ≡ sets w₃ list (join_of found (λ i. get_or w₃ (found + i) 0 ∷ []))) where
      long₃ : length w₃ ≡ length w₀
      long₃ = ap {B = ℕ} length gathered ∙ length-sets w₂ found (join_of found (λ i. get_or w₂ (list + get_or w₂ i 0) 0 ∷ [])) ∙ long

      pub settled_long : length w₄ ≡ length w₀
      settled_long = ap {B = ℕ} length settled ∙ length-sets w₃ list (join_of found (λ i. get_or w₃ (found + i) 0 ∷ [])) ∙ long₃

      pub settled_behind : drop (list + found) w₄ ≡ drop (list + found) w₀
      settled_behind =
          ap (drop (list + found)) settled
          ∙ sets-drop (join_of found (λ i. get_or w₃ (found + i) 0 ∷ [])) w₃ list (list + found) (omega (arith, length_join found (λ i. get_or w₃ (found + i) 0)))
          ∙ ap (drop (list + found)) gathered
          ∙ sets-drop (join_of found (λ i. get_or w₂ (list + get_or w₂ i 0) 0 ∷ [])) w₂ found (list + found)
          (omega (arith, length_join found (λ i. get_or w₂ (list + get_or w₂ i 0) 0))) ∙ drop_more at (list + found) w₂ w₀ (omega arith) behind

      pub settled_at : (i : ℕ) → i < found → get_or w₄ (list + i) 0 ≡ get_or w₀ (list + get_or sorted i 0) 0
      settled_at i h =
          ap (λ (l : List ℕ). get_or l (list + i) 0) settled
          ∙ sets_at (join_of found (λ j. get_or w₃ (found + j) 0 ∷ [])) w₃ list i (omega (arith, length_join found (λ j. get_or w₃ (found + j) 0)))
          (omega (arith, long₃, length_join found (λ j. get_or w₃ (found + j) 0)))
          ∙ get_join 0 found (λ j. get_or w₃ (found + j) 0) i h ∙ ap (λ (l : List ℕ). get_or l (found + i) 0) gathered
          ∙ sets_at (join_of found (λ j. get_or w₂ (list + get_or w₂ j 0) 0 ∷ [])) w₂ found i (omega (arith, length_join found (λ j. get_or w₂ (list + get_or w₂ j 0) 0)))
          (omega (arith, long, length_join found (λ j. get_or w₂ (list + get_or w₂ j 0) 0)))
          ∙ get_join 0 found (λ j. get_or w₂ (list + get_or w₂ j 0) 0) i h ∙ get_d-later at (list + get_or w₂ i 0) w₂ w₀ behind (omega arith)
          ∙ ap (λ (x : ℕ). get_or w₀ (list + x) 0) (sorted_at i h)

-- ---- the whole sort

module _ (v : ℕ) (nodes strings : List ℕ) (l : Layout) (w₀ w₁ w₂ : List ℕ) (found : ℕ) (room : found + found ≤ l.at)
    (fits : l.at + l.paths + found ≤ length w₀) (numbered : part 0 found w₁ ≡ up_from 0 (found - 0)) (rest : drop found w₁ ≡ drop found w₀)
    (front : take found w₂ ≡ isort (by_key (key_in v nodes strings l w₁)) (take found w₁)) (behind : drop l.at w₂ ≡ drop l.at w₁)
    (long : length w₂ ≡ length w₀) where
  abbrev key : ℕ → List ℕ
  key = key_in v nodes strings l w₀

  abbrev list : ℕ
  list = l.at + l.paths

  behind₁ : drop l.at w₁ ≡ drop l.at w₀
  behind₁ = numbered-behind w₀ found l.at list room (omega arith) fits w₁ numbered rest

  front₂ : take found w₂ ≡ sorted_names key found
  front₂ =
      front ∙ ap (λ (tab : List ℕ). isort (by_key (key_of v nodes strings l.texts l.paths l.lengths tab)) (take found w₁)) behind₁
      ∙ ap (isort (by_key key)) (numbered-front w₀ found l.at list room (omega arith) fits w₁ numbered rest)

  rising₂ : (i : ℕ) → i < found → rising (λ j. key_in v nodes strings l w₂ (get_or w₂ j 0)) i ≡ rising (λ j. key (get_or (sorted_names key found) j 0)) i
  rising₂ zero h = refl
  rising₂ (suc i) h =
      rw (
        behind ∙ behind₁,
        sorted_at w₀ found l.at list room (omega arith) fits w₂ (sorted_names key found) front₂ (behind ∙ behind₁) long i (omega arith),
        sorted_at w₀ found l.at list room (omega arith) fits w₂ (sorted_names key found) front₂ (behind ∙ behind₁) long (suc i) h,
      ) refl

  module _ (r : Bool) (tested : r ≡ all_of found (rising (λ i. key_in v nodes strings l w₂ (get_or w₂ i 0)))) where
    answer : r ≡ all_of found (rising (λ i. key (get_or (sorted_names key found) i 0)))
    answer = tested ∙ all_ext found _ _ rising₂

    pub arranged-not : r ≡ false → Arranged key w₀ list found w₂ false
    arranged-not e =
        record {
          answer = sym e ∙ answer;
          nodes = λ z. absurd (false≢true z);
          behind = drop_more l.at (list + found) w₂ w₀ (omega arith) (behind ∙ behind₁);
        }

    pub arranged : r ≡ true → (w₃ w₄ : List ℕ) → w₃ ≡ sets w₂ found (join_of found (λ i. get_or w₂ (list + get_or w₂ i 0) 0 ∷ []))
        → w₄ ≡ sets w₃ list (join_of found (λ i. get_or w₃ (found + i) 0 ∷ [])) → Arranged key w₀ list found w₄ true
    arranged e w₃ w₄ gathered settled =
        record {
          answer = sym e ∙ answer;
          nodes =
              λ z i h. settled_at w₀ found l.at list room (omega arith) fits w₂ (sorted_names key found) front₂ (behind ∙ behind₁) long w₃ w₄ gathered settled i h;
          behind = settled_behind w₀ found l.at list room (omega arith) fits w₂ (sorted_names key found) front₂ (behind ∙ behind₁) long w₃ w₄ gathered settled;
        }
