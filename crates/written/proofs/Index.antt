-- The path index of a written image: its texts are the containers' canonical paths, and rise.
use Prim.Native.Nat.{ℕ, zero, suc, ◌<◌}
use mathlib.Core.Path.{◌≡◌, refl, sym, ap, ◌∙◌}
use mathlib.Core.Logic.{⊎_elim}
use mathlib.Core.List.{List, [], ◌∷◌, ◌++◌, append-nil}
use mathlib.Core.Bool.{Bool, true, false, cond, not, false≢true}
use native.Mathlib.Omega.{arith}
use native.Mathlib.Nat.{le_of_suc-le-suc}
use native.Mathlib.Decide.{dec_lt}
use lib.ListN.{length, get_or}
use borrow.Author.Tests.{not-true}
use Rattle.laws.specs.Counted.{sum_of, those}
use Rattle.laws.specs.Lists.{place_in}
use Rattle.laws.specs.Sorted.{insert, isort}
use Rattle.laws.proofs.First.{pass, then, first_of_lem}
use Rattle.laws.proofs.Flags.{all_at}
use Rattle.laws.proofs.Members.{and-true, All, all_map, all_append, sum_ext, those-length}
use Rattle.laws.proofs.Sorted.{all_isort, length-isort}
use Rattle.texts.specs.Text.{before, same, by_key, rising}
use Rattle.texts.proofs.Text.{same-turned, same-unlike, unlike-before}
use Rattle.image.specs.Sections.{Sections, node_count, index_count, index_word, is_container}
use Rattle.records.specs.Records.{container_of, containers_before}
use Rattle.index.specs.Paths.{canonical_path, name_or_place_on_way}
use Rattle.index.specs.Index.{index_text, index_entry_rule, index_rule}
use Rattle.index.proofs.Paths.{path-fits}
use Rattle.draft.specs.Draft.{new_path}
use Rattle.draft.specs.Numbering.{old_of}
use Rattle.draft_image.specs.Strings.{by_path, path_of, offset_of}
use Rattle.draft_image.specs.Written.{index_out}
use Rattle.draft_image.proofs.IndexOrder.{those-pass, path-node}
use Rattle.written.proofs.Lists.{or_else}
use Rattle.draft_image.proofs.Blocks.{w, index-count, index_word_lem}
use Rattle.written.proofs.Fields.{Given, counted, old_in, new_old, inside-written, container-same}
use Rattle.written.proofs.Rules.{good_at, text_at_lem}
use Rattle.written.proofs.Tree.{rising-same}
use Rattle.written.proofs.Paths.{path-good, path-same}
use Rattle.written.proofs.OnWay.{written_way}

-- ---- sorting

-- of two unlike texts one comes before
other : (a b : List ℕ) → before a b ≡ false → same a b ≡ false → before b a ≡ true
other a b p q = ⊎_elim (λ e. absurd (false≢true (sym p ∙ e))) (λ e. e) (unlike-before a b (same-unlike a b q))

module _ (key : ℕ → List ℕ) where
  -- each text comes after the one before it
  abbrev pub Rising : List ℕ → Type 0
  Rising [] = Unit {0}
  Rising (x ∷ []) = Unit {0}
  Rising (x ∷ y ∷ ys) = (before (key x) (key y) ≡ true) × Rising (y ∷ ys)

  abbrev pub Unlike : ℕ → ℕ → Type 0
  Unlike x y = same (key x) (key y) ≡ false

  abbrev pub Apart : List ℕ → Type 0
  Apart [] = Unit {0}
  Apart (x ∷ xs) = All (Unlike x) xs × Apart xs

  insert-rising : (i : ℕ) (js : List ℕ) → All (Unlike i) js → Rising js → Rising (insert (by_key key) i js)
  unfolding insert
  insert-rising i [] u r = tt
  insert-rising i (j ∷ []) u r = go (before (key j) (key i)) refl
    where
      go : (b : Bool) → before (key j) (key i) ≡ b → Rising (cond b (j ∷ i ∷ []) (i ∷ j ∷ []))
      go true e = (e, tt)
      go false e = (other (key j) (key i) e (same-turned (key i) (key j) ∙ u.0), tt)
  insert-rising i (j ∷ k ∷ ks) u r = go (before (key j) (key i)) refl (before (key k) (key i)) (insert-rising i (k ∷ ks) u.1 r.1)
    where
      go : (a : Bool) → before (key j) (key i) ≡ a → (b : Bool) → Rising (cond b (k ∷ insert (by_key key) i ks) (i ∷ k ∷ ks))
          → Rising (cond a (j ∷ cond b (k ∷ insert (by_key key) i ks) (i ∷ k ∷ ks)) (i ∷ j ∷ k ∷ ks))
      go true e true q = (r.0, q)
      go true e false q = (e, q)
      go false e b q = (other (key j) (key i) e (same-turned (key i) (key j) ∙ u.0), r)

  pub sort-rising : (is : List ℕ) → Apart is → Rising (isort (by_key key) is)
  unfolding isort
  sort-rising [] a = tt
  sort-rising (i ∷ is) a = insert-rising i (isort (by_key key) is) (all_isort (by_key key) (Unlike i) is a.0) (sort-rising is a.1)

  pub rising_at : (xs : List ℕ) (m : ℕ) → m < length xs → Rising xs → rising (λ k. key (get_or xs k 0)) m ≡ true
  rising_at xs zero h r = refl
  rising_at [] (suc m) h r = absurd (omega arith)
  rising_at (x ∷ []) (suc m) h r = absurd (omega arith)
  rising_at (x ∷ y ∷ ys) (suc zero) h r = r.0
  rising_at (x ∷ y ∷ ys) (suc (suc m)) h r = rising_at (y ∷ ys) (suc m) (le_of_suc-le-suc h) r.1

  apart-last : (xs : List ℕ) (n : ℕ) → Apart xs → All (λ x. Unlike x n) xs → Apart (xs ++ (n ∷ []))
  apart-last [] n a u = (tt, tt)
  apart-last (x ∷ xs) n a u = (all_append (Unlike x) xs (n ∷ []) a.0 (u.0, tt), apart-last xs n a.1 u.1)

-- ---- the numbers below n that pass a test

those-apart : (key : ℕ → List ℕ) (n : ℕ) (t : ℕ → Bool) → ((x y : ℕ) → x < y → y < n → t x ≡ true → t y ≡ true → same (key x) (key y) ≡ false) → Apart key (those n t)
unfolding those
those-apart key zero t u = tt
those-apart key (suc n) t u = go (those-apart key n t (λ x y h k p q. u x y h (omega arith) p q)) (t n) refl
  where
    go : Apart key (those n t) → (b : Bool) → t n ≡ b → Apart key (those n t ++ cond b (n ∷ []) [])
    go r true e = apart-last key (those n t) n r (all_map (those n t) (λ x p. u x n p.0 (omega arith) p.1 e) (those-pass n t))
    go r false e = rw append-nil r

module _ {s : Sections} {order : List ℕ} {kept : List (List ℕ)} (g : Given s order kept) where
  abbrev v : Sections
  v = w s order kept

  abbrev boxes : List ℕ
  boxes = by_path s order

  -- the node of index entry k
  abbrev target : ℕ → ℕ
  target k = get_or boxes k 0

  -- ---- containers by their paths

  -- two containers of the draft have unlike paths
  unlike-draft : (a b : ℕ) → a < b → b < node_count s → is_container s a ≡ true → is_container s b ≡ true → same (canonical_path s a) (canonical_path s b) ≡ false
  unfolding new_path
  unlike-draft a b h k p q =
      let earlier = or_else (not (is_container s b)) _ (g.taken.paths b k) (rw q refl) in
      not-true (same (canonical_path s a) (canonical_path s b)) (or_else (not (is_container s a)) _ (all_at b _ earlier a h) (rw p refl))

  unlike : (x y : ℕ) → x < y → y < node_count s → is_container s (old_of order x) ≡ true → is_container s (old_of order y) ≡ true
      → same (path_of s order x) (path_of s order y) ≡ false
  unlike x y h k p q =
      let a = old_of order x in
      let b = old_of order y in
      elim (dec_lt a b) [
        | yes l ↦ unlike-draft a b l (old_in g y k) p q
        | no n ↦
            let d : a ≡ b → ⊥ = λ e. differ (sym (new_old g x (omega arith)) ∙ ap (place_in order) e ∙ new_old g y k) in
            same-turned (canonical_path s b) (canonical_path s a) ∙ unlike-draft b a (omega arith) (old_in g x (omega arith)) q p
      ]
    where
      differ : x ≡ y → ⊥
      differ e = omega arith

  boxes-rise : Rising (path_of s order) boxes
  unfolding by_path
  boxes-rise =
      sort-rising (path_of s order) (those (node_count s) (λ j. is_container s (old_of order j)))
      (those-apart (path_of s order) (node_count s) (λ j. is_container s (old_of order j)) unlike)

  module _ (k : ℕ) (h : k < length boxes) where
    -- it is a container
    pub index-node : (target k < node_count s) × (is_container s (old_of order (target k)) ≡ true)
    index-node = path-node s order k h

    pub index-target : index_word v k 2 ≡ target k
    unfolding index_out
    index-target = index_word_lem s order kept k 2 h (omega arith)

    text-word : index_word v k 0 ≡ offset_of kept (path_of s order (target k))
    unfolding index_out
    text-word = index_word_lem s order kept k 0 h (omega arith)

    length-word : index_word v k 1 ≡ length (path_of s order (target k))
    unfolding index_out
    length-word = index_word_lem s order kept k 1 h (omega arith)

    index-text : index_text v k ≡ path_of s order (target k)
    index-text = text_at_lem g (path_of s order (target k)) (index_word v k 0) (index_word v k 1) (g.stored.index k h) text-word length-word

    -- the text is the target's canonical path
    pub index-path : index_text v k ≡ canonical_path v (index_word v k 2)
    index-path = index-text ∙ sym (ap (canonical_path v) index-target ∙ path-same g (target k) index-node.0 index-node.1)

  index_kept : (k : ℕ) → k < length boxes → index_entry_rule v k ≡ 0
  unfolding index_entry_rule
  index_kept k h =
      let b = index-node k h in
      then _ _
      (pass _ 10 (good_at g (path_of s order (target k)) (index_word v k 0) (index_word v k 1) (g.stored.index k h)
      (path-good g (old_of order (target k)) (old_in g (target k) b.0) b.1) (text-word k h) (length-word k h)))
      (then _ _
      (pass _ 9 (rw (index-target k h) (and-true _ _ (inside-written g (target k) b.0) (container-same g (target k) b.0 ∙ b.1))))
      (then _ _
      (pass _ 16 (rising-same k (index_text v) (λ m. path_of s order (target m)) (λ m q. index-text m (omega arith)) (rising_at (path_of s order) boxes k h boxes-rise)))
      (pass _ 16 (path-fits v (index_word v k 2) (index_text v k) (ap (name_or_place_on_way v) (index-target k h) ∙ written_way g (target k) b.0 b.1) (index-path k h)))))

  pub index-passes : index_rule v ≡ 0
  unfolding index_rule
  index-passes = first_of_lem (index_count v) (index_entry_rule v) (λ k h. index_kept k (omega (arith, index-count s order kept)))

  pub containers-kept : containers_before v (node_count v) ≡ index_count v
  containers-kept =
      ap (λ (n : ℕ). sum_of n (container_of v)) (counted g) ∙ sum_ext (node_count s) (container_of v) (λ j. cond (is_container s (old_of order j)) 1 0) one
      ∙ sym (those-length (node_count s) (λ j. is_container s (old_of order j))) ∙ all ∙ sym (index-count s order kept)
    where
      one : (j : ℕ) → j < node_count s → container_of v j ≡ cond (is_container s (old_of order j)) 1 0
      one j h = unfold container_of in ap (λ (b : Bool). cond b 1 0) (container-same g j h)

      all : length (those (node_count s) (λ j. is_container s (old_of order j))) ≡ length boxes
      all = unfold by_path in sym (length-isort (by_key (path_of s order)) (those (node_count s) (λ j. is_container s (old_of order j))))
