-- The canonical path of a container of a draft: its length by words alone, and that a path use's text is it.
use Prim.Native.Nat.{ℕ, zero, suc, ◌+◌, ◌-◌, ◌*◌, ◌≤◌, ◌<◌}
use mathlib.Core.Path.{◌≡◌, refl, sym, ap, ◌∙◌}
use mathlib.Core.List.{List, [], ◌∷◌, ◌++◌}
use mathlib.Core.Bool.{Bool, true, false, cond, not, ◌&&◌, true≢false}
use native.Mathlib.Omega.{arith}
use native.Mathlib.Nat.{le_refl, mul-le-mul_right}
use native.Mathlib.Decide.{ℕ_discrete, dec_lt}
use lib.Dec.{leb}
use lib.ListN.{length, get_or, drop, length-append, length-take, length-drop, get_or-eq_default}
use lib.Seq.{take-length, get_or-take, get_or-drop}
use borrow.Author.Tests.{eqb-true, leb-true}
use Rattle.laws.proofs.Flags.{both_true}
use Rattle.texts.specs.Decimal.{decimal}
use Rattle.texts.specs.Dots.{dot}
use Rattle.image.specs.Sections.{Sections, node_words, node_count, node_word, parent_of, f, part_at, absent, present, good_in, optional_in, good_optional, is_container}
use Rattle.tree.specs.Reach.{climb, Climbs}
use Rattle.index.specs.Paths.{no_name, piece_of, piece, joined_by_dot, path_from, canonical_path}
use Rattle.index.proofs.Paths.{path-step, path_top, path-below}
use Rattle.draft.specs.Source.{word_of}
use Rattle.write_text_keys.specs.Keys.{piece_length, at_end, piece_byte, read_back, node_of, long_of, key_of, joined_length, length_from}
use Rattle.write_text_keys.proofs.Lengths.{length-root, length-step}
use Rattle.write_text_keys.proofs.BackwardReads.{with_left, step_up_lem, dot_up, read_one, piece-read}
use Rattle.write_text_keys.proofs.Uses.{path_key}

-- ---- one piece: the words of a good optional name, and a place

module _ (strings : List ℕ) (place at len : ℕ) (good : optional_in strings at len ≡ true) where
  -- a name that is there lies inside
  name-inside : no_name at len ≡ false → at + len ≤ length strings
  unfolding good_in
  name-inside e = by (absent at len) refl
    where
      by : (b : Bool) → absent at len ≡ b → at + len ≤ length strings
      by true p = absurd (true≢false (sym (rw p) ∙ e))
      by false p =
          let g : (present at len && leb (at + len) (length strings) && _) ≡ true = rw p at good in
          leb-true (at + len) (length strings) (both_true (present at len) (leb (at + len) (length strings)) (both_true (present at len && leb (at + len) (length strings)) _ g).0).1

  name-length : at + len ≤ length strings → length (part_at strings at len) ≡ len
  unfolding part_at
  name-length h = simp (length-take, length-drop) (omega arith)

  plain-length : cond (no_name at len) (length (decimal place)) len ≡ length (piece_of strings place at len)
  unfolding piece_of
  plain-length = by (no_name at len) refl
    where
      by : (b : Bool) → no_name at len ≡ b → cond b (length (decimal place)) len ≡ length (cond b (decimal place) (part_at strings at len))
      by true e = refl
      by false e = sym (name-length (name-inside e))

  plain_byte : (i : ℕ) → i < length (piece_of strings place at len)
      → cond (not (no_name at len)) (get_or strings (cond (no_name at len) place at + i) 0) (get_or (decimal (cond (no_name at len) place at)) i 0) ≡ get_or (piece_of strings place at len) i 0
  unfolding piece_of part_at
  plain_byte i = by (no_name at len) refl
    where
      by : (b : Bool) → no_name at len ≡ b → i < length (cond b (decimal place) (part_at strings at len))
          → cond (not b) (get_or strings (cond b place at + i) 0) (get_or (decimal (cond b place at)) i 0) ≡ get_or (cond b (decimal place) (part_at strings at len)) i 0
      by true e h = refl
      by false e h =
          let l = name-length (name-inside e) in
          let g : i < len = omega arith in
          sym (get_or-take len (drop at strings) i 0 g ∙ get_or-drop at strings i 0)

joined_length_lem : (parent : ℕ) (front last : List ℕ) → length (joined_by_dot parent front last) ≡ joined_length parent (length front) (length last)
joined_length_lem zero front last = refl
joined_length_lem (suc parent) front last = length-append front (dot ∷ last) ∙ omega arith

-- ---- up the parents

-- a container of whole records is a node
pub container-inside : (s : Sections) → length s.nodes ≡ node_count s * node_words s.version → (y : ℕ) → is_container s y ≡ true → y < node_count s
unfolding node_word
container-inside s whole y c = by (dec_lt y (node_count s))
  where
    w : ℕ
    w = node_words s.version

    by : Dec (y < node_count s) → y < node_count s
    by (yes h) = h
    by (no h) =
        let few : node_count s ≤ y = omega arith in
        let past : node_count s * w ≤ y * w = mul-le-mul_right w few in
        let z : get_or s.nodes (y * w + 2) 0 ≡ 0 = get_or-eq_default s.nodes 0 {n = y * w + 2} (omega (arith, past, whole)) in
        let o : get_or s.nodes (y * w + 2) 0 ≡ 1 = eqb-true (get_or s.nodes (y * w + 2) 0) 1 c in
        absurd (omega arith)

-- what holds of the nodes that are containers holds of every number that reads as one
pub every-container : (s : Sections) → length s.nodes ≡ node_count s * node_words s.version → (P : ℕ → Type 0)
    → ((y : ℕ) → y < node_count s → is_container s y ≡ true → P y) → (y : ℕ) → is_container s y ≡ true → P y
every-container s whole P all y c = all y (container-inside s whole y c) c

-- a draft's sections; every container's name is good
module _ (s : Sections) (v : ℕ) (nodes strings : List ℕ) (n : s.nodes ≡ nodes) (t : s.strings ≡ strings) (w : s.version ≡ v)
    (names : (y : ℕ) → is_container s y ≡ true → good_optional s (f s y 0) (f s y 1) ≡ true) where
  word_in_lem : (x k : ℕ) → word_of v nodes x k ≡ node_word s x k
  unfolding node_word
  word_in_lem x k = rw (n, w)

  good : (x : ℕ) → is_container s x ≡ true → optional_in strings (word_of v nodes x 3) (word_of v nodes x 4) ≡ true
  good x c = rw (← t, word_in_lem x 3, word_in_lem x 4) (names x c)

  piece_in : (x : ℕ) → piece_of strings (word_of v nodes x 1) (word_of v nodes x 3) (word_of v nodes x 4) ≡ piece s x
  unfolding piece
  piece_in x = rw (← t, word_in_lem x 1, word_in_lem x 3, word_in_lem x 4)

  length_in : (x : ℕ) → is_container s x ≡ true → piece_length v nodes x ≡ length (piece s x)
  unfolding piece_length
  length_in x c = plain-length strings (word_of v nodes x 1) (word_of v nodes x 3) (word_of v nodes x 4) (good x c) ∙ ap length (piece_in x)

  byte_at : (x : ℕ) → is_container s x ≡ true → (i : ℕ) → i < length (piece s x) → piece_byte strings (at_end v nodes x) i ≡ get_or (piece s x) i 0
  unfolding at_end
  byte_at x c i h =
      plain_byte strings (word_of v nodes x 1) (word_of v nodes x 3) (word_of v nodes x 4) (good x c) i (rw (← piece_in x) at h)
      ∙ ap (λ (l : List ℕ). get_or l i 0) (piece_in x)

  -- the piece of a container, with m bytes before it
  piece_back : (x m k : ℕ) → is_container s x ≡ true → k ≡ m + length (piece s x) → read_back k v nodes strings (at_end v nodes x) ≡ read_back m v nodes strings (with_left (at_end v nodes x) 0) ++ piece s x
  unfolding at_end
  piece_back x m k c e =
      piece-read v nodes strings (piece s x) (length (piece s x)) m k (at_end v nodes x) (length_in x c) (le_refl (length (piece s x))) (byte_at x c) e
      ∙ ap (λ (l : List ℕ). read_back m v nodes strings (with_left (at_end v nodes x) 0) ++ l) (take-length (piece s x))

  -- the dot before it, and the piece above
  dot_back : (x m : ℕ) → read_back (suc m) v nodes strings (with_left (at_end v nodes x) 0) ≡ read_back m v nodes strings (at_end v nodes (parent_of s x)) ++ (dot ∷ [])
  unfolding at_end
  dot_back x m =
      read_one v nodes strings m (suc m) (with_left (at_end v nodes x) 0) (omega arith)
      ∙ rw (step_up_lem v nodes (with_left (at_end v nodes x) 0) refl, dot_up strings (with_left (at_end v nodes x) 0) refl, word_in_lem x 0)

  -- parent steps from x on arrive at the root, each at a container
  record Up (k x : ℕ) : Type 0 where
    here : is_container s x ≡ true
    arrives : climb s k x ≡ 0
    above : (j : ℕ) → j < k → is_container s (climb s (suc j) x) ≡ true

  -- one step
  up : (k x : ℕ) → (x ≡ 0 → ⊥) → Up k x → Up (k - 1) (parent_of s x)
  unfolding climb
  up zero x away u = absurd (away u.arrives)
  up (suc k) x away u =
      let e : suc k - 1 ≡ k = omega arith in
      rw e (record { here = u.above 0 (omega arith); arrives = u.arrives; above = λ j h. u.above (suc j) (omega arith) })

  length_up : (m k x : ℕ) → Up k x → length_from m v nodes x ≡ length (path_from m s x)
  unfolding length_from path_from
  length_up zero k x u = refl
  length_up (suc m) k x u = by (ℕ_discrete x 0) (λ d. length_up m (k - 1) (parent_of s x) (up k x d u))
    where
      by : Dec (x ≡ 0) → ((x ≡ 0 → ⊥) → length_from m v nodes (parent_of s x) ≡ length (path_from m s (parent_of s x))) → length_from (suc m) v nodes x ≡ length (path_from (suc m) s x)
      by (yes e) more = length-root v nodes (suc m) x e ∙ sym (ap (λ (y : ℕ). length (path_from (suc m) s y)) e)
      by (no d) more =
          let q : suc m - 1 ≡ m = omega arith in
          length-step v nodes (suc m) x (omega arith) d
          ∙ rw (q, word_in_lem x 0, more d, length_in x u.here) (sym (joined_length_lem (parent_of s x) (path_from m s (parent_of s x)) (piece s x)))
          ∙ sym (ap length (path-step s m x d))

  read_up : (m k x : ℕ) → Up k x → read_back (length (path_from m s x)) v nodes strings (at_end v nodes x) ≡ path_from m s x
  unfolding path_from read_back
  read_up zero k x u = refl
  read_up (suc m) k x u = by (ℕ_discrete x 0) (ℕ_discrete (parent_of s x) 0) (λ d. read_up m (k - 1) (parent_of s x) (up k x d u))
    where
      front : List ℕ
      front = path_from m s (parent_of s x)

      by : Dec (x ≡ 0) → Dec (parent_of s x ≡ 0) → ((x ≡ 0 → ⊥) → read_back (length front) v nodes strings (at_end v nodes (parent_of s x)) ≡ front)
          → read_back (length (path_from (suc m) s x)) v nodes strings (at_end v nodes x) ≡ path_from (suc m) s x
      by (yes e) p more = rw e
      by (no d) (yes p) more = rw (path_top s m x d p) (piece_back x 0 (length (piece s x)) u.here (omega arith))
      by (no d) (no p) more =
          let l : length (front ++ (dot ∷ []) ++ piece s x) ≡ suc (length front) + length (piece s x) =
          length-append (front ++ (dot ∷ [])) (piece s x) ∙ omega (arith, length-append front (dot ∷ [])) in
          rw (path-below s m x d p)
          (piece_back x (suc (length front)) (length (front ++ (dot ∷ []) ++ piece s x)) u.here l ∙ rw (dot_back x (length front), more d))

  module _ (x : ℕ) (climbs : Climbs s (node_count s) x) (container : is_container s x ≡ true) where
    whole : Up climbs.steps x
    whole = record { here = container; arrives = climbs.arrives; above = climbs.containers }

    -- the length of the canonical path
    pub path-long : length_from (node_count s) v nodes x ≡ length (canonical_path s x)
    path-long = length_up (node_count s) climbs.steps x whole

    -- the text of the use that is x's path
    pub key_path : (texts paths lengths : ℕ) (tab : List ℕ) (a : ℕ) → texts ≤ a → x ≡ node_of texts paths tab a → long_of lengths tab x ≡ length (canonical_path s x)
        → key_of v nodes strings texts paths lengths tab a ≡ canonical_path s x
    key_path texts paths lengths tab a h e l =
        path_key v nodes strings texts paths lengths tab a x (length (canonical_path s x)) (at_end v nodes x) h e refl (sym l)
        ∙ read_up (node_count s) climbs.steps x whole
