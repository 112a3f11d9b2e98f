-- Parents come first: in the list of containers where they do in the words that it is made of, and so a path's length is known by its parent's.
use Prim.Native.Nat.{ℕ, zero, suc, ◌+◌, ◌-◌, ◌*◌, ◌^◌, ◌≤◌, ◌<◌}
use mathlib.Core.Path.{◌≡◌, sym, ap, ◌∙◌, subst}
use mathlib.Core.List.{List, [], ◌∷◌, ◌++◌, append-nil}
use mathlib.Core.Bool.{Bool, true, false, cond}
use native.Mathlib.Omega.{arith}
use native.Mathlib.Decide.{ℕ_discrete, dec_lt}
use lib.ListN.{length, get_or, length-append, get_or-append}
use lib.Seq.{sets, get_or-append_seam}
use lib.Dec.{eqb}
use borrow.Author.Tests.{eq-eqb}
use Rattle.draft.specs.Source.{word_of}
use Rattle.write_text_keys.specs.Keys.{piece_length, long_of, joined_length, length_below, length_from}
use Rattle.write_text_keys.proofs.Lengths.{length-root, length-step, length-next}
use Rattle.write_paths.specs.Listed.{tag_at, containers_in, ParentListed, ParentsFirst}
use Rattle.write_paths.specs.Arranged.{Measured}
use Rattle.write_paths.proofs.WordLoop.{sets_at}

-- ---- in the list of containers

module _ (v : ℕ) (nodes w : List ℕ) (at : ℕ) where
  -- each container among the words has a place in the list
  container-place : (n j : ℕ) → j < n → tag_at v nodes (get_or w (at + j) 0) ≡ 1
      → (k : ℕ) × ((k < length (containers_in v nodes w at n)) × (get_or (containers_in v nodes w at n) k 0 ≡ get_or w (at + j) 0))
  unfolding containers_in
  container-place zero j h e = absurd (omega arith)
  container-place (suc n) j h e = go (dec_lt j n) (λ l. container-place n j l e)
    where
      front : List ℕ
      front = containers_in v nodes w at n

      more : List ℕ
      more = cond (eqb (tag_at v nodes (get_or w (at + n) 0)) 1) (get_or w (at + n) 0 ∷ []) []

      go : Dec (j < n) → (j < n → (k : ℕ) × ((k < length front) × (get_or front k 0 ≡ get_or w (at + j) 0)))
          → (k : ℕ) × ((k < length (front ++ more)) × (get_or (front ++ more) k 0 ≡ get_or w (at + j) 0))
      go (yes l) r =
          let p = r l in
          (p.0, (omega (arith, p.1.0, length-append front more), get_or-append front more 0 p.0 p.1.0 ∙ p.1.1))
      go (no l) r =
          let last : j ≡ n = omega arith in
          let tag : tag_at v nodes (get_or w (at + n) 0) ≡ 1 = ap (λ (i : ℕ). tag_at v nodes (get_or w (at + i) 0)) (sym last) ∙ e in (
            length front,
            rw (eq-eqb _ _ tag) (
              omega (arith, length-append front (get_or w (at + n) 0 ∷ [])),
              get_or-append_seam front (get_or w (at + n) 0) [] 0 ∙ ap (λ (i : ℕ). get_or w (at + i) 0) (sym last),
            ),
          )

  -- the parent of the list's k-th is at an earlier place
  record Earlier (c : List ℕ) (k : ℕ) : Type 0 where
    place : ℕ
    earlier : place < k
    parent : get_or c place 0 ≡ word_of v nodes (get_or c k 0) 0
    container : tag_at v nodes (get_or c place 0) ≡ 1

  -- it stays so when more is listed
  earlier_on : (c d : List ℕ) (k : ℕ) → k < length c → Earlier c k → Earlier (c ++ d) k
  earlier_on c d k h e =
      let here = get_or-append c d 0 k h in
      let there = get_or-append c d 0 e.place (omega (arith, e.earlier)) in
      record {
        place = e.place;
        earlier = e.earlier;
        parent = there ∙ e.parent ∙ ap (λ (x : ℕ). word_of v nodes x 0) (sym here);
        container = ap (tag_at v nodes) there ∙ e.container;
      }

  listed-first : (n : ℕ) → ParentsFirst v nodes w at n → (k : ℕ) → k < length (containers_in v nodes w at n)
      → (get_or (containers_in v nodes w at n) k 0 ≡ 0 → ⊥) → Earlier (containers_in v nodes w at n) k
  unfolding containers_in
  listed-first zero first k h d = absurd (omega arith)
  listed-first (suc n) first k h d =
      go (eqb (tag_at v nodes (get_or w (at + n) 0)) 1) (listed-first n (λ i l. first i (omega arith))) h d
    where
      front : List ℕ
      front = containers_in v nodes w at n

      x : ℕ
      x = get_or w (at + n) 0

      -- the last one, whose parent's word is an earlier one
      newest : ParentListed v nodes w at n → Earlier (front ++ (x ∷ [])) (length front)
      newest u =
          let p = container-place n u.place u.earlier u.container in
          let there = get_or-append front (x ∷ []) 0 p.0 p.1.0 ∙ p.1.1 in
          record {
            place = p.0;
            earlier = p.1.0;
            parent = there ∙ u.parent ∙ ap (λ (y : ℕ). word_of v nodes y 0) (sym (get_or-append_seam front x [] 0));
            container = ap (tag_at v nodes) there ∙ u.container;
          }

      go : (b : Bool) → ((i : ℕ) → i < length front → (get_or front i 0 ≡ 0 → ⊥) → Earlier front i)
          → k < length (front ++ cond b (x ∷ []) []) → (get_or (front ++ cond b (x ∷ []) []) k 0 ≡ 0 → ⊥) → Earlier (front ++ cond b (x ∷ []) []) k
      go false r l q = rw append-nil (r k (rw append-nil at l) (rw append-nil at q))
      go true r l q = by (dec_lt k (length front))
        where
          by : Dec (k < length front) → Earlier (front ++ (x ∷ [])) k
          by (yes s) = earlier_on front (x ∷ []) k s (r k s (λ z. q (get_or-append front (x ∷ []) 0 k s ∙ z)))
          by (no s) =
              let last : k ≡ length front = omega (arith, length-append front (x ∷ [])) in
              let away : x ≡ 0 → ⊥ = λ z. q (ap (λ (i : ℕ). get_or (front ++ (x ∷ [])) i 0) last ∙ get_or-append_seam front x [] 0 ∙ z) in
              subst (λ (i : ℕ). Earlier (front ++ (x ∷ [])) i) (sym last) (newest (first n (omega arith) away))

  -- the list as words
  pub parents-listed : (n list found : ℕ) (w₁ : List ℕ) → ParentsFirst v nodes w at n → found ≡ length (containers_in v nodes w at n)
      → list + found ≤ length w → w₁ ≡ sets w list (containers_in v nodes w at n) → ParentsFirst v nodes w₁ list found
  parents-listed n list found w₁ first size room words k h d =
      let e = listed-first n first k (omega arith) (λ z. d (word k h ∙ z)) in
      let there = word e.place (omega (arith, e.earlier)) in
      record {
        place = e.place;
        earlier = e.earlier;
        parent = there ∙ e.parent ∙ ap (λ (x : ℕ). word_of v nodes x 0) (sym (word k h));
        container = ap (tag_at v nodes) there ∙ e.container;
      }
    where
      word : (i : ℕ) → i < found → get_or w₁ (list + i) 0 ≡ get_or (containers_in v nodes w at n) i 0
      word i l = ap (λ (u : List ℕ). get_or u (list + i) 0) words ∙ sets_at (containers_in v nodes w at n) w list i (omega arith) (omega arith)

-- ---- lengths

-- a piece and its dot are a word's worth at most
abbrev pub Short : ℕ → List ℕ → List ℕ → ℕ → ℕ → ℕ → Type 0
Short v nodes w list count i = (k : ℕ) → k < i → length_from count v nodes (get_or w (list + k) 0) ≤ 2 ^ 32 * k

module _ (v : ℕ) (nodes w₀ : List ℕ) (list found : ℕ) (first : ParentsFirst v nodes w₀ list found) where
  abbrev node : ℕ → ℕ
  node k = get_or w₀ (list + k) 0

  -- as many steps as are listed before a node lead to the root: more make no difference
  steady : (b k m n : ℕ) → k < b → k < found → k ≤ m → k ≤ n → length_from m v nodes (node k) ≡ length_from n v nodes (node k)
  steady zero k m n h f a c = absurd (omega arith)
  steady (suc b) k m n h f a c = by (ℕ_discrete (node k) 0) (λ j i l. steady b j (m - 1) (n - 1) i (omega arith) (omega arith) (omega arith))
    where
      by : Dec (node k ≡ 0) → ((j : ℕ) → j < b → j < k → length_from (m - 1) v nodes (node j) ≡ length_from (n - 1) v nodes (node j))
          → length_from m v nodes (node k) ≡ length_from n v nodes (node k)
      by (yes e) more = length-root v nodes m (node k) e ∙ sym (length-root v nodes n (node k) e)
      by (no d) more =
          let u = first k f d in
          length-step v nodes m (node k) (omega (arith, u.earlier)) d
          ∙ ap (λ (l : ℕ). joined_length (word_of v nodes (node k) 0) l (piece_length v nodes (node k)))
          (ap (length_from (m - 1) v nodes) (sym u.parent) ∙ more u.place (omega (arith, u.earlier)) u.earlier ∙ ap (length_from (n - 1) v nodes) u.parent)
          ∙ sym (length-step v nodes n (node k) (omega (arith, u.earlier)) d)

  module _ (table count : ℕ) (few : found ≤ count) (most : count ≤ 4294967295) where
    abbrev size : ℕ → ℕ
    size = length_from count v nodes

    -- x is next
    module _ (w : List ℕ) (i : ℕ) (m : Measured w₀ list found table count size w i) (short : Short v nodes w₀ list count i) (h : i < found) (x : ℕ) (is : x ≡ get_or w₀ (list + i) 0) where
      up : (x ≡ 0 → ⊥) → ParentListed v nodes w₀ list i
      up d = first i h (λ z. d (is ∙ z))

      abbrev above : ℕ
      above = word_of v nodes x 0

      parent_is : (d : x ≡ 0 → ⊥) → node (up d).place ≡ above
      parent_is d = (up d).parent ∙ ap (λ (y : ℕ). word_of v nodes y 0) (sym is)

      -- the table has its parent's length
      known : (d : x ≡ 0 → ⊥) → long_of table w above ≡ size (node (up d).place)
      known d = ap (long_of table w) (sym (parent_is d)) ∙ m.sizes (up d).place (up d).earlier

      low : (d : x ≡ 0 → ⊥) → long_of table w above ≤ 2 ^ 32 * (up d).place
      low d = rw (known d) (short (up d).place (up d).earlier)

      pub sum_fits : (x ≡ 0 → ⊥) → long_of table w above + 2 ^ 32 < 2 ^ 64
      sum_fits d = omega (arith, low d, (up d).earlier)

      module _ (r : ℕ) (e : r ≡ length_below (long_of table w above) v nodes x) where
        size_is : r ≡ size x
        size_is =
            e ∙ length-next v nodes count x (long_of table w above) (omega arith)
            (λ d. known d
            ∙ steady (suc (up d).place) (up d).place count (count - 1) (omega arith) (omega (arith, (up d).earlier)) (omega (arith, (up d).earlier)) (omega (arith, (up d).earlier))
            ∙ ap (length_from (count - 1) v nodes) (parent_is d))

        -- its length, and the bound
        pub size-next : r ≤ long_of table w above + 2 ^ 32 → (r ≡ size x) × Short v nodes w₀ list count (i + 1)
        size-next l = (size_is, λ k q. by k q (ℕ_discrete k i) (ℕ_discrete x 0))
          where
            by : (k : ℕ) → k < i + 1 → Dec (k ≡ i) → Dec (x ≡ 0) → size (node k) ≤ 2 ^ 32 * k
            by k q (no z) y = short k (omega arith)
            by k q (yes z) (yes y) =
                let none : size (node k) ≡ 0 = length-root v nodes count (node k) (ap node z ∙ sym is ∙ y) in
                omega (arith, none)
            by k q (yes z) (no y) =
                let this : size (node k) ≡ r = ap (λ (j : ℕ). size (node j)) z ∙ ap size (sym is) ∙ sym size_is in
                omega (arith, this, low y, (up y).earlier)
