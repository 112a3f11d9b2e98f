-- The loop that measures paths: the length of each listed node's path, in two words at the node's place of a table.
use Prim.Native.Nat.{ℕ, ◌+◌, ◌/◌, ◌%◌, ◌≤◌, ◌<◌}
use mathlib.Core.Path.{◌≡◌, refl, sym, ap, ◌∙◌, subst}
use mathlib.Core.List.{List}
use native.Mathlib.Omega.{arith}
use native.Mathlib.Decide.{ℕ_discrete}
use lib.ListN.{length, get_or, set, length-set}
use Rattle.write_text_keys.specs.Keys.{long_of}
use Rattle.write_paths.specs.Arranged.{Measured}
use lib.Seq.{get_or-set_same, get_or-set_other, take-set-le, drop-set-lt, get_or-take}

-- the first `found` words of the list at `list` name nodes below count; `size` is what is measured
module _ (w₀ : List ℕ) (list found table count : ℕ) (size : ℕ → ℕ) where
  abbrev node : ℕ → ℕ
  node k = get_or w₀ (list + k) 0

  abbrev Now : List ℕ → ℕ → Type 0
  Now w i = Measured w₀ list found table count size w i

  pub measure_start : Now w₀ 0
  measure_start = record { within = omega arith; long = refl; low = refl; high = refl; sizes = λ k h. absurd (omega arith) }

  module _ (before : list + found ≤ table) (room : table + count + count ≤ length w₀) (inside : (k : ℕ) → k < found → get_or w₀ (list + k) 0 < count)
      (w : List ℕ) (i : ℕ) (m : Now w i) (h : i < found) where
    -- the word that the list has
    pub measure_node : get_or w (list + i) 0 ≡ get_or w₀ (list + i) 0
    measure_node =
        sym (get_or-take table w (list + i) 0 (omega arith)) ∙ ap (λ (l : List ℕ). get_or l (list + i) 0) m.low ∙ get_or-take table w₀ (list + i) 0 (omega arith)

    module _ (x : ℕ) (e : x ≡ get_or w (list + i) 0) where
      is_node : x ≡ get_or w₀ (list + i) 0
      is_node = e ∙ measure_node

      pub node-below : x < count
      node-below = rw is_node (inside i h)

      pub measure_room : table + x + x + 1 < length w
      measure_room = omega (arith, m.long, node-below)

      module _ (n lo hi : ℕ) (v : n ≡ size x) (l : lo ≡ n % 4294967296) (u : hi ≡ n / 4294967296) where
        w' : List ℕ
        w' = set (set w (table + x + x) lo) (table + x + x + 1) hi

        at_low : get_or w' (table + x + x) 0 ≡ lo
        unfolding w'
        at_low =
            get_or-set_other (set w (table + x + x) lo) (table + x + x + 1) (table + x + x) hi 0 (λ q. omega arith)
            ∙ get_or-set_same w (table + x + x) lo 0 (omega (arith, measure_room))

        at_high : get_or w' (table + x + x + 1) 0 ≡ hi
        unfolding w'
        at_high = get_or-set_same (set w (table + x + x) lo) (table + x + x + 1) hi 0 (omega (arith, measure_room, length-set w (table + x + x) lo))

        here : long_of table w' x ≡ size x
        here = rw (at_low, at_high) (omega (arith, v, l, u))

        other : (y : ℕ) → (y ≡ x → ⊥) → long_of table w' y ≡ long_of table w y
        unfolding w'
        other y d =
            rw (
              get_or-set_other (set w (table + x + x) lo) (table + x + x + 1) (table + y + y) hi 0 (λ q. omega (arith, d)),
              get_or-set_other (set w (table + x + x) lo) (table + x + x + 1) (table + y + y + 1) hi 0 (λ q. omega (arith, d)),
              get_or-set_other w (table + x + x) (table + y + y) lo 0 (λ q. omega (arith, d)),
              get_or-set_other w (table + x + x) (table + y + y + 1) lo 0 (λ q. omega (arith, d)),
            ) refl

        size_at : (k : ℕ) → k < i + 1 → Dec (get_or w₀ (list + k) 0 ≡ x) → long_of table w' (get_or w₀ (list + k) 0) ≡ size (get_or w₀ (list + k) 0)
        size_at k q (yes d) = ap (long_of table w') d ∙ here ∙ ap size (sym d)
        size_at k q (no d) = other (get_or w₀ (list + k) 0) d ∙ m.sizes k (earlier (ℕ_discrete k i))
          where
            earlier : Dec (k ≡ i) → k < i
            earlier (yes z) = absurd (d (ap (λ (j : ℕ). get_or w₀ (list + j) 0) z ∙ sym is_node))
            earlier (no z) = omega arith

        pub measure_next : Now (set (set w (table + x + x) lo) (table + x + x + 1) hi) (i + 1)
        unfolding w'
        measure_next =
            record {
              within = omega arith;
              long = length-set (set w (table + x + x) lo) (table + x + x + 1) hi ∙ length-set w (table + x + x) lo ∙ m.long;
              low =
                  take-set-le table (set w (table + x + x) lo) (table + x + x + 1) hi (omega arith) ∙ take-set-le table w (table + x + x) lo (omega arith) ∙ m.low;
              high =
                  drop-set-lt (table + count + count) (set w (table + x + x) lo) (table + x + x + 1) hi (omega (arith, node-below))
                  ∙ drop-set-lt (table + count + count) w (table + x + x) lo (omega (arith, node-below)) ∙ m.high;
              sizes = λ k q. size_at k q (ℕ_discrete (get_or w₀ (list + k) 0) x);
            }

  pub measure_end : (w : List ℕ) (i : ℕ) → Now w i → found ≤ i → Now w found
  measure_end w i m h =
      let e : i ≡ found = omega (arith, m.within) in
      subst (λ (k : ℕ). Now w k) e m
