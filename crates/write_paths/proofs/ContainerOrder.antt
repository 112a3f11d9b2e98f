-- Containers sorted by their places in a list: the order is that of their paths.
use Prim.Native.Nat.{ℕ, zero, suc, ◌+◌, ◌≤◌, ◌<◌}
use mathlib.Core.Path.{◌≡◌, refl, sym, ap, ◌∙◌}
use mathlib.Core.List.{List, [], ◌∷◌, ◌++◌, map}
use mathlib.Core.Bool.{Bool, true, false, cond}
use native.Mathlib.Omega.{arith}
use native.Mathlib.Numerals.{add-one}
use lib.ListN.{length, get_or}
use lib.Seq.{ext_get_or}
use lib.Dec.{eqb}
use Rattle.laws.specs.Counted.{all_of, join_of, those}
use Rattle.laws.proofs.Members.{All, all_join, length_join, get_join}
use Rattle.laws.specs.Sorted.{insert, isort}
use Rattle.laws.proofs.Sorted.{all_isort}
use Rattle.texts.specs.Text.{before, by_key}
use Rattle.image.specs.Sections.{Sections, node_count, node_word, is_container}
use Rattle.draft.specs.Numbering.{old_of}
use Rattle.draft_image.specs.Strings.{path_of, by_path}
use Rattle.draft_image.specs.Ready.{OldsAt}
use Rattle.draft.specs.Draft.{placed, paths_rule}
use Rattle.write_sorting.specs.Sorted.{up_from, Rises}
use Rattle.write_sorting.proofs.NumberedWords.{up_from-length, up_from-at, up_from-append}
use Rattle.write_sorting.proofs.KeyOrder.{rises-unlike, level_twice}
use Rattle.write_paths.specs.Listed.{tag_at, containers_in, containers, Permutation}
use Rattle.write_paths.proofs.Rule.{twice, once}

-- ---- the list in words

map_append : (g : ℕ → ℕ) (xs ys : List ℕ) → map g (xs ++ ys) ≡ map g xs ++ map g ys
map_append g [] ys = refl
map_append g (x ∷ xs) ys = ap (λ (l : List ℕ). g x ∷ l) (map_append g xs ys)

-- the containers among words that say the order
pub listed : (s : Sections) (order w : List ℕ) (at n : ℕ) → n ≤ node_count s → OldsAt order w (node_count s) at
    → containers_in s.version s.nodes w at n ≡ map (old_of order) (those n (λ j. is_container s (old_of order j)))
unfolding containers_in those
listed s order w at zero h o = refl
listed s order w at (suc n) h o =
    rw (o n (omega arith), listed s order w at n (omega arith) o)
    (ap (λ (l : List ℕ). map (old_of order) (those n (λ j. is_container s (old_of order j))) ++ l) (go (is_container s (old_of order n)) same_test)
    ∙ sym (map_append (old_of order) (those n (λ j. is_container s (old_of order j))) (cond (is_container s (old_of order n)) (n ∷ []) [])))
  where
    same_test : is_container s (old_of order n) ≡ eqb (tag_at s.version s.nodes (old_of order n)) 1
    same_test = unfold node_word in refl

    go : (b : Bool) → b ≡ eqb (tag_at s.version s.nodes (old_of order n)) 1
        → cond (eqb (tag_at s.version s.nodes (old_of order n)) 1) (old_of order n ∷ []) [] ≡ map (old_of order) (cond b (n ∷ []) [])
    go true e = rw (← e) refl
    go false e = rw (← e) refl

-- ---- sorting by keys that agree

insert_agrees : (j k : ℕ → List ℕ) (x : ℕ) (l : List ℕ) → j x ≡ k x → All (λ y. j y ≡ k y) l → insert (by_key j) x l ≡ insert (by_key k) x l
unfolding insert
insert_agrees j k x [] e a = refl
insert_agrees j k x (y ∷ ys) e a =
    rw (e, a.0) (ap (λ (l : List ℕ). cond (before (k y) (k x)) (y ∷ l) (x ∷ y ∷ ys)) (insert_agrees j k x ys e a.1))

pub sort_agrees : (j k : ℕ → List ℕ) (l : List ℕ) → All (λ y. j y ≡ k y) l → isort (by_key j) l ≡ isort (by_key k) l
unfolding isort
sort_agrees j k [] a = refl
sort_agrees j k (x ∷ xs) a =
    insert_agrees j k x (isort (by_key j) xs) a.0 (all_isort (by_key j) (λ y. j y ≡ k y) xs a.1)
    ∙ ap (insert (by_key k) x) (sort_agrees j k xs a.1)

-- ---- sorting names of things sorts the things

insert-map : (k : ℕ → List ℕ) (g : ℕ → ℕ) (x : ℕ) (l : List ℕ) → map g (insert (by_key (λ a. k (g a))) x l) ≡ insert (by_key k) (g x) (map g l)
unfolding insert
insert-map k g x [] = refl
insert-map k g x (y ∷ ys) = go (before (k (g y)) (k (g x))) (insert-map k g x ys)
  where
    go : (b : Bool) → map g (insert (by_key (λ a. k (g a))) x ys) ≡ insert (by_key k) (g x) (map g ys)
        → map g (cond b (y ∷ insert (by_key (λ a. k (g a))) x ys) (x ∷ y ∷ ys)) ≡ cond b (g y ∷ insert (by_key k) (g x) (map g ys)) (g x ∷ g y ∷ map g ys)
    go true r = ap (λ (l : List ℕ). g y ∷ l) r
    go false r = refl

pub sort-map : (k : ℕ → List ℕ) (g : ℕ → ℕ) (l : List ℕ) → map g (isort (by_key (λ a. k (g a))) l) ≡ isort (by_key k) (map g l)
unfolding isort
sort-map k g [] = refl
sort-map k g (x ∷ xs) = insert-map k g x (isort (by_key (λ a. k (g a))) xs) ∙ ap (insert (by_key k) (g x)) (sort-map k g xs)

-- ---- the numbers below n, as names of a list's places

up_join : (n : ℕ) → join_of n (λ i. i ∷ []) ≡ up_from 0 n
unfolding join_of up_from
up_join zero = refl
up_join (suc n) =
    let z : 0 + n ≡ n = omega arith in
    ap (λ (l : List ℕ). l ++ (n ∷ [])) (up_join n) ∙ sym (ap (up_from 0) (sym (add-one n)) ∙ up_from-append 0 n 1 ∙ ap (λ (k : ℕ). up_from 0 n ++ (k ∷ [])) z)

names_at : (n i : ℕ) → i < n → get_or (up_from 0 n) i 0 ≡ i
names_at n i h = let z : 0 + i ≡ i = omega arith in up_from-at 0 n i h ∙ z

pub names-length : (n : ℕ) → length (up_from 0 n) ≡ n
names-length n = up_from-length 0 n

through : (n : ℕ) (g : ℕ → ℕ) → map g (join_of n (λ i. i ∷ [])) ≡ join_of n (λ i. g i ∷ [])
unfolding join_of
through zero g = refl
through (suc n) g = map_append g (join_of n (λ i. i ∷ [])) (n ∷ []) ∙ ap (λ (l : List ℕ). l ++ (g n ∷ [])) (through n g)

names-map : (c : List ℕ) → map (λ a. get_or c a 0) (up_from 0 (length c)) ≡ c
names-map c =
    ap (map (λ a. get_or c a 0)) (sym (up_join (length c))) ∙ through (length c) (λ a. get_or c a 0)
    ∙ ext_get_or 0 (join_of (length c) (λ a. get_or c a 0 ∷ [])) c (length_join (length c) (λ a. get_or c a 0))
    (λ i h. get_join 0 (length c) (λ a. get_or c a 0) i (omega (arith, length_join (length c) (λ a. get_or c a 0))))

all_below : (P : ℕ → Type 0) (n : ℕ) → ((i : ℕ) → i < n → P i) → All P (up_from 0 n)
all_below P n h = rw (← up_join n) (all_join P n (λ i. i) h)

-- ---- the containers of a draft

module _ (s : Sections) (order : List ℕ) where
  abbrev boxes : List ℕ
  boxes = containers s order

  -- the path of the a-th
  abbrev pub place_path : ℕ → List ℕ
  place_path a = path_of s order (get_or boxes a 0)

  -- keys of places that are the paths
  module _ (key : ℕ → List ℕ) (agrees : (a : ℕ) → a < length boxes → key a ≡ place_path a) where
    same-sort : isort (by_key key) (up_from 0 (length boxes)) ≡ isort (by_key place_path) (up_from 0 (length boxes))
    same-sort = sort_agrees key place_path (up_from 0 (length boxes)) (all_below (λ a. key a ≡ place_path a) (length boxes) agrees)

    -- the key of what the list of names has at a place
    named : (a : ℕ) → a < length boxes → key (get_or (up_from 0 (length boxes)) a 0) ≡ place_path a
    named a h = ap key (names_at (length boxes) a h) ∙ agrees a h

    pub sorted-below : All (λ a. a < length boxes) (isort (by_key key) (up_from 0 (length boxes)))
    sorted-below = all_isort (by_key key) (λ a. a < length boxes) (up_from 0 (length boxes)) (all_below (λ a. a < length boxes) (length boxes) (λ i h. h))

    module _ (r : Permutation (node_count s) order) (all : all_of (node_count s) (placed s) ≡ true) where
      -- neighbours rise: rule 22 passes, and the places are in the order of the index
      module _ (rise : Rises (by_key key) (isort (by_key key) (up_from 0 (length boxes)))) where
        unlike : (a b : ℕ) → a < b → b < length boxes → place_path a ≡ place_path b → ⊥
        unlike a b l h e =
            rises-unlike key (up_from 0 (length boxes)) rise a b l (omega (arith, names-length (length boxes)))
            (named a (omega arith) ∙ e ∙ sym (named b h))

        pub paths-pass : paths_rule s ≡ 0
        paths-pass = once s order r all unlike

        pub paths-order : map (λ a. get_or boxes a 0) (isort (by_key key) (up_from 0 (length boxes))) ≡ by_path s order
        unfolding by_path
        paths-order =
            ap (map (λ a. get_or boxes a 0)) same-sort ∙ sort-map (path_of s order) (λ a. get_or boxes a 0) (up_from 0 (length boxes))
            ∙ ap (isort (by_key (path_of s order))) (names-map boxes)

      -- two neighbours do not: it refuses
      pub paths-refuse : (i : ℕ) → suc i < length boxes
          → by_key key (get_or (isort (by_key key) (up_from 0 (length boxes))) i 0) (get_or (isort (by_key key) (up_from 0 (length boxes))) (suc i) 0) ≡ false → paths_rule s ≡ 22
      paths-refuse i h e =
          let t = level_twice key (up_from 0 (length boxes)) i (omega (arith, names-length (length boxes))) e in
          let k : t.second < length boxes = omega (arith, t.within, names-length (length boxes)) in
          twice s order r t.first t.second t.later k (sym (named t.first (omega (arith, t.later))) ∙ t.alike ∙ named t.second k)
