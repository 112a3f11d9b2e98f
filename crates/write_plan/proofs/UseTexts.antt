-- The texts of a draft's uses, by the tables in the work words; where they are stored.
use Prim.Native.Nat.{ℕ, zero, suc, ◌+◌, ◌*◌, ◌-◌, ◌≤◌, ◌<◌}
use mathlib.Core.Path.{◌≡◌, refl, sym, ap, ◌∙◌}
use mathlib.Core.List.{List, [], ◌∷◌, ◌++◌, map, append_assoc}
use mathlib.Core.Bool.{true, cond}
use native.Mathlib.Omega.{arith}
use native.Mathlib.Decide.{dec_lt}
use lib.ListN.{length, get_or, take, drop, length-append, length-map, get_or-append}
use lib.Seq.{get_or-append-add, get_or-drop, drop-drop, drop_at, length-take-le, ext_get_or}
use Rattle.laws.specs.Counted.{join_of, sum_of}
use Rattle.laws.specs.Sorted.{isort}
use Rattle.laws.proofs.Members.{length_join, get_join, those-length}
use Rattle.laws.proofs.Sorted.{all_isort, length-isort}
use Rattle.records.specs.Records.{container_of}
use Rattle.texts.specs.Text.{before, by_key}
use Rattle.image.specs.Sections.{Sections, node_count, f, is_container, good_optional}
use Rattle.draft.specs.Draft.{tables_rule, reach_rule, shape_rule, paths_rule}
use Rattle.draft.specs.Numbering.{numbering, old_of}
use Rattle.draft_image.specs.Strings.{uses, by_path, path_of}
use Rattle.draft_image.specs.Ready.{text_uses}
use Rattle.write_text_uses.specs.Uses.{use_words, with_words}
use Rattle.write_text_uses.proofs.Fits.{uses-length, use_at}
use Rattle.write_text_uses.proofs.Bounds.{olds-below}
use Rattle.write_text_uses.proofs.Sums.{sum_ordered}
use Rattle.write_sorting.specs.Sorted.{Rises}
use Rattle.write_sorting.proofs.ListProperties.{at_all, all_at}
use Rattle.write_sorting.proofs.KeyOrder.{unlike-rises}
use Rattle.write_interning.specs.Uses.{texts_of}
use Rattle.write_text_keys.specs.Keys.{key_of, long_of}
use Rattle.write_text_keys.proofs.Uses.{key_text}
use Rattle.write_text_keys.proofs.CanonicalPaths.{key_path, every-container}
use Rattle.write_paths.specs.Listed.{containers}
use Rattle.write_paths.proofs.Rule.{twice, those_at}
use Rattle.write_plan.proofs.Premises.{once, renumbers, rooted}

-- ---- the index rises

module _ (s : Sections) (p : tables_rule s ≡ 0) (q : reach_rule s ≡ 0) (free : paths_rule s ≡ 0) where
  abbrev order : List ℕ
  order = numbering s

  unlike : (a b : ℕ) → a < b → b < length (containers s order)
      → path_of s order (get_or (containers s order) a 0) ≡ path_of s order (get_or (containers s order) b 0) → ⊥
  unlike a b l h e = omega (arith, free, twice s order (renumbers s p q) a b l h e)

  sorted : isort (by_key (path_of s order)) (containers s order) ≡ by_path s order
  unfolding by_path
  sorted = refl

  pub index-rises : Rises (by_key (path_of s order)) (by_path s order)
  index-rises i h =
      ap (λ (l : List ℕ). before (path_of s order (get_or l i 0)) (path_of s order (get_or l (suc i) 0))) (sym sorted)
      ∙ unlike-rises (path_of s order) (containers s order) unlike i (rw sorted h)

  -- the k-th node of the index
  pub path_box : (k : ℕ) → k < length (by_path s order)
      → (old_of order (get_or (by_path s order) k 0) < node_count s) × (is_container s (old_of order (get_or (by_path s order) k 0)) ≡ true)
  path_box k h = all_at Box (by_path s order) (rw (← sorted) (all_isort (by_key (path_of s order)) Box (containers s order) (at_all Box (containers s order) each))) k h
    where
      Box : ℕ → Type 0
      Box j = (old_of order j < node_count s) × (is_container s (old_of order j) ≡ true)

      each : (i : ℕ) → i < length (containers s order) → Box (get_or (containers s order) i 0)
      each i l =
          let c = those_at (λ j. is_container s (old_of order j)) (node_count s) i l in
          ((renumbers s p q).old_inside (get_or (containers s order) i 0) c.0, c.1)

  -- as many entries as containers
  pub boxes-long : length (by_path s order) ≡ sum_of (node_count s) (container_of s)
  boxes-long =
      ap {B = ℕ} length (sym sorted) ∙ length-isort (by_key (path_of s order)) (containers s order)
      ∙ those-length (node_count s) (λ j. is_container s (old_of order j)) ∙ containers_sum ∙ sum_ordered (node_count s) order (once s p q) (container_of s)
    where
      containers_sum : sum_of (node_count s) (λ j. cond (is_container s (old_of order j)) 1 0) ≡ sum_of (node_count s) (λ j. container_of s (old_of order j))
      containers_sum = unfold container_of in refl

-- ---- lists of texts

pub texts-same : (n : ℕ) (key : ℕ → List ℕ) (us : List (List ℕ)) → length us ≡ n → ((a : ℕ) → a < n → key a ≡ get_or us a []) → texts_of key n ≡ us
texts-same n key us e h =
    ext_get_or [] (join_of n (λ k. key k ∷ [])) us (length_join n key ∙ sym e)
    (λ i l. get_join [] n key i (omega (arith, length_join n key)) ∙ h i (omega (arith, length_join n key)))

map-text : (g : ℕ → List ℕ) (xs : List ℕ) (i : ℕ) → i < length xs → get_or (map g xs) i [] ≡ g (get_or xs i 0)
map-text g [] i h = absurd (omega arith)
map-text g (x ∷ xs) zero h = refl
map-text g (x ∷ xs) (suc i) h = map-text g xs i (omega arith)

-- all uses: texts, then the paths of the index
module _ (s : Sections) where
  abbrev numbers : List ℕ
  numbers = numbering s

  pub uses-long : length (uses s numbers) ≡ length (text_uses s numbers) + length (by_path s numbers)
  unfolding uses
  uses-long =
      length-append (text_uses s numbers) (map (path_of s numbers) (by_path s numbers))
      ∙ ap (λ (n : ℕ). length (text_uses s numbers) + n) (length-map (by_path s numbers) (path_of s numbers))

  pub use_text : (a : ℕ) → a < length (text_uses s numbers) → get_or (uses s numbers) a [] ≡ get_or (text_uses s numbers) a []
  unfolding uses
  use_text a h = get_or-append (text_uses s numbers) (map (path_of s numbers) (by_path s numbers)) [] a h

  pub use_path : (k : ℕ) → k < length (by_path s numbers) → get_or (uses s numbers) (length (text_uses s numbers) + k) [] ≡ path_of s numbers (get_or (by_path s numbers) k 0)
  unfolding uses
  use_path k h =
      get_or-append-add (text_uses s numbers) (map (path_of s numbers) (by_path s numbers)) k [] ∙ map-text (path_of s numbers) (by_path s numbers) k h

-- ---- the tables behind the sorted words

-- words put at the front of the tables
pub tables_put : (w us : List ℕ) (at : ℕ) → at ≤ length w → drop at (with_words w at us) ≡ us ++ drop (length us) (drop at w)
tables_put w us at h =
    ap (drop at) (append_assoc (take at w) us (drop (at + length us) w)) ∙ drop_at (take at w) (us ++ drop (at + length us) w) at (length-take-le at w h)
    ∙ ap (λ (l : List ℕ). us ++ l) (sym (drop-drop (length us) at w))

put_front : (us tab : List ℕ) (k : ℕ) → k < length us → get_or (us ++ drop (length us) tab) k 0 ≡ get_or us k 0
put_front us tab k h = get_or-append us (drop (length us) tab) 0 k h

pub put_behind : (us tab : List ℕ) (k : ℕ) → length us ≤ k → get_or (us ++ drop (length us) tab) k 0 ≡ get_or tab k 0
put_behind us tab k h =
    let e : k ≡ length us + (k - length us) = omega arith in
    ap (λ (m : ℕ). get_or (us ++ drop (length us) tab) m 0) e ∙ get_or-append-add us (drop (length us) tab) (k - length us) 0
    ∙ get_or-drop (length us) tab (k - length us) 0 ∙ ap (λ (m : ℕ). get_or tab m 0) (sym e)

module _ (s : Sections) (p : tables_rule s ≡ 0) (q : reach_rule s ≡ 0) (r : shape_rule s ≡ 0) (free : paths_rule s ≡ 0)
    (paths lengths : ℕ) (room : 2 * length (text_uses s (numbering s)) ≤ paths) (gap : paths ≤ lengths) (tab : List ℕ)
    (boxes : (k : ℕ) → k < length (by_path s (numbering s)) → get_or tab (paths + k) 0 ≡ old_of (numbering s) (get_or (by_path s (numbering s)) k 0))
    (longs : (k : ℕ) → k < length (by_path s (numbering s))
    → long_of lengths tab (old_of (numbering s) (get_or (by_path s (numbering s)) k 0)) ≡ length (path_of s (numbering s) (get_or (by_path s (numbering s)) k 0))) where
  abbrev news : List ℕ
  news = numbering s

  abbrev texts : ℕ
  texts = length (text_uses s news)

  -- the tables with the words of the uses
  abbrev tab' : List ℕ
  tab' = use_words s news ++ drop (length (use_words s news)) tab

  abbrev key : ℕ → List ℕ
  key = key_of s.version s.nodes s.strings texts paths lengths tab'

  behind : (k : ℕ) → paths ≤ k → get_or tab' k 0 ≡ get_or tab k 0
  behind k h = put_behind (use_words s news) tab k (omega (arith, uses-length s news))

  pub boxes' : (k : ℕ) → k < length (by_path s news) → get_or tab' (paths + k) 0 ≡ old_of news (get_or (by_path s news) k 0)
  boxes' k h = behind (paths + k) (omega arith) ∙ boxes k h

  pub longs' : (k : ℕ) → k < length (by_path s news)
      → long_of lengths tab' (old_of news (get_or (by_path s news) k 0)) ≡ length (path_of s news (get_or (by_path s news) k 0))
  longs' k h =
      let x = old_of news (get_or (by_path s news) k 0) in
      rw (behind (lengths + x + x) (omega arith), behind (lengths + x + x + 1) (omega arith)) (longs k h)

  key_of_text : (a : ℕ) → a < texts → key a ≡ get_or (text_uses s news) a []
  key_of_text a h =
      let u = use_at s news p (olds-below s news p (once s p q)) a h in
      let first : get_or tab' (a + a) 0 ≡ get_or (use_words s news) (a + a) 0 = put_front (use_words s news) tab (a + a) (omega (arith, uses-length s news)) in
      let second : get_or tab' (a + a + 1) 0 ≡ get_or (use_words s news) (a + a + 1) 0 = put_front (use_words s news) tab (a + a + 1) (omega (arith, uses-length s news)) in
      key_text s.version s.nodes s.strings texts paths lengths tab' a h (rw (first, second) u.inside) ∙ rw (first, second) u.says

  key_of_path : (k : ℕ) → k < length (by_path s news) → key (texts + k) ≡ path_of s news (get_or (by_path s news) k 0)
  key_of_path k h =
      let x = old_of news (get_or (by_path s news) k 0) in
      let known = rooted s p q r in
      let names = every-container s known.whole (λ y. good_optional s (f s y 0) (f s y 1) ≡ true) (λ y l c. known.named y l c) in
      let box = path_box s p q free k h in
      let e : paths + (texts + k - texts) ≡ paths + k = omega arith in
      key_path s s.version s.nodes s.strings refl refl refl names x (known.climbs x box.0) box.1 texts paths lengths tab' (texts + k) (omega arith)
      (sym (ap (λ (m : ℕ). get_or tab' m 0) e ∙ boxes' k h)) (longs' k h)

  pub key_use : (a : ℕ) → a < texts + length (by_path s news) → key a ≡ get_or (uses s news) a []
  key_use a h = go (dec_lt a texts)
    where
      go : Dec (a < texts) → key a ≡ get_or (uses s news) a []
      go (yes l) = key_of_text a l ∙ sym (use_text s a l)
      go (no l) =
          let e : a ≡ texts + (a - texts) = omega arith in
          ap key e ∙ key_of_path (a - texts) (omega arith) ∙ sym (ap (λ (m : ℕ). get_or (uses s news) m []) e ∙ use_path s (a - texts) (omega arith))

  pub paths-rise : (a : ℕ) → texts ≤ a → suc a < texts + length (by_path s news) → before (key a) (key (suc a)) ≡ true
  paths-rise a l h =
      let k = a - texts in
      let e : a ≡ texts + k = omega arith in
      let e' : suc a ≡ texts + suc k = omega arith in
      rw (ap key e ∙ key_of_path k (omega arith), ap key e' ∙ key_of_path (suc k) (omega arith)) (index-rises s p q free k (omega arith))
