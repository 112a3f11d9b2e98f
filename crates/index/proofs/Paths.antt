-- Paths step by step up to the root: what a comparison from the end of a text on sees at each node, and how far a path depends on its bound.
use Prim.Native.Nat.{ℕ, zero, suc, ◌+◌, ◌-◌, ◌≤◌, ◌<◌}
use mathlib.Core.Path.{◌≡◌, refl, sym, ap, ◌∙◌}
use mathlib.Core.List.{List, [], ◌∷◌, ◌++◌}
use mathlib.Core.Bool.{Bool, true, false, ◌&&◌}
use native.Mathlib.Omega.{arith}
use native.Mathlib.Numerals.{add-one}
use native.Mathlib.Decide.{ℕ_discrete}
use lib.ListN.{length, get_or, take, drop, length-drop}
use lib.Seq.{take-suc, append_snoc, length-take-le}
use borrow.Author.Tests.{eq-eqb, ne_eqb}
use Rattle.laws.proofs.Flags.{both_true}
use Rattle.texts.specs.Text.{same}
use Rattle.texts.specs.Dots.{dot}
use Rattle.texts.proofs.Text.{same-equal, equal-same, same-unlike}
use Rattle.image.specs.Sections.{Sections, node_count, parent_of}
use Rattle.tree.specs.Reach.{climb, Climbs}
use Rattle.index.specs.declared.PathNode.{PathNode}
use Rattle.index.specs.Paths.{piece_of, piece, joined_by_dot, path_from, canonical_path, name_or_place, name_or_place_from, name_or_place_on_way, fits}
use Rattle.index.specs.Parts.{path_node_of}
use Rattle.index.proofs.Suffix.{cut, fits_path, fits-front, fits-other, fits-short}

-- ---- one step

pub joined-below : (parent : ℕ) (front last : List ℕ) → (parent ≡ 0 → ⊥) → joined_by_dot parent front last ≡ front ++ dot ∷ last
joined-below zero front last h = absurd (h refl)
joined-below (suc parent) front last h = refl

module _ (s : Sections) (n i : ℕ) (away : i ≡ 0 → ⊥) where
  pub path-step : path_from (suc n) s i ≡ joined_by_dot (parent_of s i) (path_from n s (parent_of s i)) (piece s i)
  unfolding path_from
  path-step = rw (ne_eqb i 0 away)

  pub way_step : name_or_place_from (suc n) s i ≡ (name_or_place s i && name_or_place_from n s (parent_of s i))
  unfolding name_or_place_from
  way_step = rw (ne_eqb i 0 away)

  pub path_top : parent_of s i ≡ 0 → path_from (suc n) s i ≡ piece s i
  path_top p = path-step ∙ rw p

  pub path-below : (parent_of s i ≡ 0 → ⊥) → path_from (suc n) s i ≡ path_from n s (parent_of s i) ++ (dot ∷ []) ++ piece s i
  path-below p = path-step ∙ joined-below (parent_of s i) (path_from n s (parent_of s i)) (piece s i) p ∙ sym (append_snoc (path_from n s (parent_of s i)) dot (piece s i))

-- ---- a text against a path, up to the bound

abbrev pub fits_from : ℕ → Sections → ℕ → List ℕ → Bool
fits_from n s i t = fits_path (name_or_place_from n s i) t (path_from n s i)

pub whole-fits : (s : Sections) (i : ℕ) (t : List ℕ) → fits s i t ≡ fits_from (node_count s) s i t
unfolding fits
whole-fits s i t = refl

pub fits_bound : (s : Sections) (i : ℕ) (t : List ℕ) → fits_from 0 s i t ≡ same t []
unfolding path_from name_or_place_from
fits_bound s i t = refl

pub fits-root : (s : Sections) (n i : ℕ) (t : List ℕ) → i ≡ 0 → fits_from n s i t ≡ same t []
unfolding path_from name_or_place_from
fits-root s zero i t e = refl
fits-root s (suc n) i t e = rw (eq-eqb i 0 e)

-- the root has nothing on its way
pub way_root : (s : Sections) (n : ℕ) → name_or_place_from n s 0 ≡ true
unfolding name_or_place_from
way_root s zero = refl
way_root s (suc n) = refl

-- nothing fits a nameless node of place NONE
pub step-lost : (s : Sections) (n i : ℕ) (t : List ℕ) → (i ≡ 0 → ⊥) → name_or_place s i ≡ false → fits_from (suc n) s i t ≡ false
step-lost s n i t away h = rw (way_step s n i away, h)

-- the piece of a node by the words that were read of it
abbrev pub piece_by : Sections → PathNode → List ℕ
piece_by s node = piece_of s.strings node.place node.offset node.len

-- a node that is not the root has been reached and read: the text has been compared from `end` on, and n steps are left above it
pub record PathReached (s : Sections) (t : List ℕ) (n at end : ℕ) (node : PathNode) : Type 0 where
  pub away : at ≡ 0 → ⊥
  pub read : node ≡ path_node_of s at
  pub inside : end ≤ length t
  pub has : name_or_place s at ≡ true

-- its piece is what stands before `end`, from a start on
pub record Matched (s : Sections) (t : List ℕ) (end start : ℕ) (node : PathNode) : Type 0 where
  pub size : start ≤ end
  pub long : end - start ≡ length (piece_by s node)
  pub like : same (take (end - start) (drop start t)) (piece_by s node) ≡ true

module _ {s : Sections} {t : List ℕ} {n at end : ℕ} {node : PathNode} (here : PathReached s t n at end node) where
  piece-read : piece s at ≡ piece_by s node
  unfolding piece
  piece-read = rw here.read

  parent-read : node.parent ≡ parent_of s at
  parent-read = rw here.read

  -- it has a piece, so what is left to ask is the way above it
  way : name_or_place_from (suc n) s at ≡ name_or_place_from n s (parent_of s at)
  way = way_step s n at here.away ∙ ap (λ (b : Bool). b && name_or_place_from n s (parent_of s at)) here.has

  -- the path ends with the piece
  path-ends : (lead : List ℕ) × (path_from (suc n) s at ≡ lead ++ piece_by s node)
  path-ends = by (ℕ_discrete (parent_of s at) 0)
    where
      by : Dec (parent_of s at ≡ 0) → (lead : List ℕ) × (path_from (suc n) s at ≡ lead ++ piece_by s node)
      by (yes p) = ([], path_top s n at here.away p ∙ piece-read)
      by (no p) = (
        path_from n s (parent_of s at) ++ (dot ∷ []),
        path-below s n at here.away p ∙ ap (λ (l : List ℕ). path_from n s (parent_of s at) ++ (dot ∷ []) ++ l) piece-read,
      )

  -- the text is shorter than the piece
  pub step-short : end < length (piece_by s node) → fits_from (suc n) s at (take end t) ≡ false
  step-short h =
      rw path-ends.1
      (fits-short (name_or_place_from (suc n) s at) (take end t) path-ends.0 (piece_by s node) (rw (length-take-le end t here.inside) h))

  -- it ends otherwise
  pub step_other : (start : ℕ) → start ≤ end → end - start ≡ length (piece_by s node) → same (take (end - start) (drop start t)) (piece_by s node) ≡ false
      → fits_from (suc n) s at (take end t) ≡ false
  step_other start size long u =
      let part = take (end - start) (drop start t) in
      let inside = here.inside in
      let l : length part ≡ end - start = length-take-le (end - start) (drop start t) (simp length-drop (omega arith)) in
      rw (path-ends.1, cut t start end size)
      (fits-other (name_or_place_from (suc n) s at) (take start t) part path-ends.0 (piece_by s node) (l ∙ long) (same-unlike part (piece_by s node) u))

  module _ {start : ℕ} (found : Matched s t end start node) where
    whole : take end t ≡ take start t ++ piece s at
    whole =
        cut t start end found.size
        ∙ ap (λ (l : List ℕ). take start t ++ l) (same-equal (take (end - start) (drop start t)) (piece_by s node) found.like ∙ sym piece-read)

    -- the topmost piece
    pub step_top : node.parent ≡ 0 → fits_from (suc n) s at (take end t) ≡ same (take start t) []
    step_top p =
        let q : parent_of s at ≡ 0 = sym parent-read ∙ p in
        rw (whole, path_top s n at here.away q, way, q, way_root s n)
        (fits-front true (take start t) [] (piece s at))

    module _ (below : node.parent ≡ 0 → ⊥) where
      lower : parent_of s at ≡ 0 → ⊥
      lower q = below (parent-read ∙ q)

      -- a dot is due before the piece
      due : fits_from (suc n) s at (take end t) ≡ fits_path (name_or_place_from n s (parent_of s at)) (take start t) (path_from n s (parent_of s at) ++ (dot ∷ []))
      due =
          rw (whole, path-below s n at here.away lower, way)
          (fits-front (name_or_place_from n s (parent_of s at)) (take start t) (path_from n s (parent_of s at) ++ (dot ∷ [])) (piece s at))

      -- what stands before the piece is given
      due_of_lem : (l : List ℕ) → take start t ≡ l
          → fits_from (suc n) s at (take end t) ≡ fits_path (name_or_place_from n s (parent_of s at)) l (path_from n s (parent_of s at) ++ (dot ∷ []))
      due_of_lem l e = due ∙ ap (λ (k : List ℕ). fits_path (name_or_place_from n s (parent_of s at)) k (path_from n s (parent_of s at) ++ (dot ∷ []))) e

      pub step-none : start ≡ 0 → fits_from (suc n) s at (take end t) ≡ false
      step-none e =
          due_of_lem [] (ap (λ (m : ℕ). take m t) e)
          ∙ fits-short (name_or_place_from n s (parent_of s at)) [] (path_from n s (parent_of s at)) (dot ∷ []) (omega arith)

      module _ (e : ℕ) (q : start ≡ e + 1) where
        byte : take start t ≡ take e t ++ (get_or t e 0 ∷ [])
        byte =
            let inside = here.inside in
            let size = found.size in
            ap (λ (m : ℕ). take m t) (q ∙ add-one e) ∙ take-suc t e 0 (omega arith)

        pub step_no_dot : (get_or t e 0 ≡ dot → ⊥) → fits_from (suc n) s at (take end t) ≡ false
        step_no_dot d =
            due_of_lem (take e t ++ (get_or t e 0 ∷ [])) byte
            ∙ fits-other (name_or_place_from n s (parent_of s at)) (take e t) (get_or t e 0 ∷ []) (path_from n s (parent_of s at)) (dot ∷ []) refl
            (λ r. d (ap (λ (l : List ℕ). get_or l 0 0) r))

        pub step_dot : get_or t e 0 ≡ dot → fits_from (suc n) s at (take end t) ≡ fits_from n s node.parent (take e t)
        step_dot d =
            due_of_lem (take e t ++ (dot ∷ [])) (byte ∙ ap (λ (b : ℕ). take e t ++ (b ∷ [])) d)
            ∙ fits-front (name_or_place_from n s (parent_of s at)) (take e t) (path_from n s (parent_of s at)) (dot ∷ [])
            ∙ ap (λ (p : ℕ). fits_from n s p (take e t)) (sym parent-read)

-- ---- a bound that is large enough makes no difference

pub path-enough : (s : Sections) (k n m i : ℕ) → climb s k i ≡ 0 → k < n → k < m → path_from n s i ≡ path_from m s i
unfolding climb path_from
path-enough s zero zero m i e h g = absurd (omega arith)
path-enough s zero (suc n) zero i e h g = absurd (omega arith)
path-enough s zero (suc n) (suc m) i e h g = rw (eq-eqb i 0 e)
path-enough s (suc k) zero m i e h g = absurd (omega arith)
path-enough s (suc k) (suc n) zero i e h g = absurd (omega arith)
path-enough s (suc k) (suc n) (suc m) i e h g = rw (path-enough s k n m (parent_of s i) e (omega arith) (omega arith))

pub way_enough : (s : Sections) (k n m i : ℕ) → climb s k i ≡ 0 → k < n → k < m → name_or_place_from n s i ≡ name_or_place_from m s i
unfolding climb name_or_place_from
way_enough s zero zero m i e h g = absurd (omega arith)
way_enough s zero (suc n) zero i e h g = absurd (omega arith)
way_enough s zero (suc n) (suc m) i e h g = rw (eq-eqb i 0 e)
way_enough s (suc k) zero m i e h g = absurd (omega arith)
way_enough s (suc k) (suc n) zero i e h g = absurd (omega arith)
way_enough s (suc k) (suc n) (suc m) i e h g = rw (way_enough s k n m (parent_of s i) e (omega arith) (omega arith))

-- the root has the empty path
pub path-root : (s : Sections) (n : ℕ) → path_from n s 0 ≡ []
unfolding path_from
path-root s zero = refl
path-root s (suc n) = refl

-- parent steps from node i, which is not the root, lead to the root: one from its parent on is fewer
module _ (s : Sections) (i : ℕ) (away : i ≡ 0 → ⊥) (climbs : Climbs s (node_count s) i) where
  record Above : Type 0 where
    steps : ℕ
    bound : ℕ
    whole : node_count s ≡ suc bound
    few : steps < bound
    arrives : climb s steps (parent_of s i) ≡ 0

  above : Above
  unfolding climb
  above = by climbs.steps (node_count s) refl climbs.few climbs.arrives
    where
      by : (k n : ℕ) → node_count s ≡ n → k < n → climb s k i ≡ 0 → Above
      by zero n e h a = absurd (away a)
      by (suc k) zero e h a = absurd (omega arith)
      by (suc k) (suc n) e h a = record { steps = k; bound = n; whole = e; few = omega arith; arrives = a }

  -- a path by that of the parent
  pub path-child : canonical_path s i ≡ joined_by_dot (parent_of s i) (canonical_path s (parent_of s i)) (piece s i)
  path-child =
      let a = above in
      ap (λ (n : ℕ). path_from n s i) a.whole
      ∙ path-step s a.bound i away
      ∙ ap (λ (l : List ℕ). joined_by_dot (parent_of s i) l (piece s i)) (path-enough s a.steps a.bound (node_count s) (parent_of s i) a.arrives a.few (omega arith))

  -- and whether it has all its pieces
  pub way_child : name_or_place_on_way s i ≡ (name_or_place s i && name_or_place_on_way s (parent_of s i))
  way_child =
      let a = above in
      ap (λ (n : ℕ). name_or_place_from n s i) a.whole
      ∙ way_step s a.bound i away
      ∙ ap (λ (b : Bool). name_or_place s i && b) (way_enough s a.steps a.bound (node_count s) (parent_of s i) a.arrives a.few (omega arith))

-- ---- the text that fits a node

pub fits_one : (s : Sections) (i : ℕ) (t : List ℕ) → fits s i t ≡ true → (name_or_place_on_way s i ≡ true) × (t ≡ canonical_path s i)
unfolding fits
fits_one s i t p = let r = both_true (name_or_place_on_way s i) (same t (canonical_path s i)) p in (r.0, same-equal t (canonical_path s i) r.1)

pub path-fits : (s : Sections) (i : ℕ) (t : List ℕ) → name_or_place_on_way s i ≡ true → t ≡ canonical_path s i → fits s i t ≡ true
unfolding fits
path-fits s i t h e = rw h (equal-same t (canonical_path s i) e)
