-- The containers of a draft listed, measured and sorted: rule 22, and the order of the index.
use Rattle.std.specs.Prelude.{Err, Ok, ℕ}
use Prim.Native.Nat.{ℕ, zero, suc, ◌+◌, ◌-◌, ◌≤◌, ◌<◌}
use mathlib.Core.Path.{◌≡◌, refl, sym, ap, ◌∙◌}
use mathlib.Core.List.{List, [], ◌∷◌, ◌++◌, map}
use mathlib.Core.Bool.{Bool, true, false, cond, false≢true}
use native.Mathlib.Omega.{arith}
use lib.ListN.{length, get_or, drop, length-map, length-append}
use lib.Seq.{sets, get_or-take, get_or-drop}
use lib.Dec.{eqb}
use Rattle.laws.specs.Counted.{all_of}
use Rattle.laws.proofs.Flags.{all_at}
use Rattle.laws.proofs.Lists.{drop_more}
use Rattle.laws.proofs.Members.{All, all_append}
use Rattle.laws.proofs.Sorted.{length-isort}
use Rattle.texts.specs.Text.{before, rising, by_key}
use Rattle.image.specs.Sections.{Sections, node_count, f, is_container, good_optional}
use Rattle.index.specs.Paths.{canonical_path}
use Rattle.draft.specs.Draft.{placed, paths_rule}
use Rattle.draft.specs.Numbering.{old_of}
use Rattle.draft_image.specs.Strings.{path_of, by_path}
use Rattle.draft_image.specs.Ready.{OldsAt}
use Rattle.write_sorting.specs.Sorted.{up_from, Rises}
use Rattle.draft.specs.declared.layout.Layout.{Layout}
use Rattle.write_text_keys.specs.Keys.{key_in, node_of, long_of, length_from}
use Rattle.write_text_keys.proofs.CanonicalPaths.{path-long, key_path, every-container}
use Rattle.write_paths.specs.Listed.{tag_at, containers_in, containers}
use Rattle.write_paths.specs.Arranged.{Measured, sorted_names, Arranged, Rooted, indexed_of, Indexes}
use Rattle.write_paths.proofs.Rule.{all_not, those_at, unplaced}
use Rattle.write_paths.proofs.WordLoop.{sets_at, sets-drop}
use Rattle.write_paths.proofs.ContainerOrder.{listed, names-length, sorted-below, paths-pass, paths-order, paths-refuse}
use Rattle.write_sorting.proofs.MergeInPlace.{get_d-later}

-- ---- what the loops need

pub containers_few : (v : ℕ) (nodes w : List ℕ) (at n : ℕ) → length (containers_in v nodes w at n) ≤ n
unfolding containers_in
containers_few v nodes w at zero = omega arith
containers_few v nodes w at (suc n) = go (eqb (tag_at v nodes (get_or w (at + n) 0)) 1) (containers_few v nodes w at n)
  where
    go : (b : Bool) → length (containers_in v nodes w at n) ≤ n → length (containers_in v nodes w at n ++ cond b (get_or w (at + n) 0 ∷ []) []) ≤ suc n
    go true h = omega (arith, length-append (containers_in v nodes w at n) (get_or w (at + n) 0 ∷ []))
    go false h = omega (arith, length-append (containers_in v nodes w at n) [])

containers-below : (v : ℕ) (nodes w : List ℕ) (at n count : ℕ) → ((j : ℕ) → j < n → get_or w (at + j) 0 < count) → All (λ x. x < count) (containers_in v nodes w at n)
unfolding containers_in
containers-below v nodes w at zero count h = tt
containers-below v nodes w at (suc n) count h = go (eqb (tag_at v nodes (get_or w (at + n) 0)) 1) (containers-below v nodes w at n count (λ j k. h j (omega arith)))
  where
    go : (b : Bool) → All (λ x. x < count) (containers_in v nodes w at n) → All (λ x. x < count) (containers_in v nodes w at n ++ cond b (get_or w (at + n) 0 ∷ []) [])
    go true a = all_append (λ x. x < count) (containers_in v nodes w at n) (get_or w (at + n) 0 ∷ []) a (h n (omega arith), tt)
    go false a = all_append (λ x. x < count) (containers_in v nodes w at n) [] a tt

all_place : (P : ℕ → Type 0) (xs : List ℕ) (i : ℕ) → All P xs → i < length xs → P (get_or xs i 0)
all_place P [] i a h = absurd (omega arith)
all_place P (x ∷ xs) zero a h = a.0
all_place P (x ∷ xs) (suc i) a h = all_place P xs i a.1 (omega arith)

map_at : (g : ℕ → ℕ) (xs : List ℕ) (i : ℕ) → i < length xs → get_or (map g xs) i 0 ≡ g (get_or xs i 0)
map_at g [] i h = absurd (omega arith)
map_at g (x ∷ xs) zero h = refl
map_at g (x ∷ xs) (suc i) h = map_at g xs i (omega arith)

-- the listed words name nodes
pub listed_below : (v : ℕ) (nodes w₀ w₁ : List ℕ) (order count list found : ℕ) → list + count ≤ order → order + count ≤ length w₀
    → ((j : ℕ) → j < count → get_or w₀ (order + j) 0 < count) → found ≡ length (containers_in v nodes w₀ order count)
    → w₁ ≡ sets w₀ list (containers_in v nodes w₀ order count) → (k : ℕ) → k < found → get_or w₁ (list + k) 0 < count
listed_below v nodes w₀ w₁ order count list found a b inside size words k h =
    let c = containers_in v nodes w₀ order count in
    rw (words, sets_at c w₀ list k (omega arith) (omega (arith, containers_few v nodes w₀ order count)))
    (all_place (λ x. x < count) c k (containers-below v nodes w₀ order count count inside) (omega arith))

-- ---- the whole

module _ (s : Sections) (olds : List ℕ) (v : ℕ) (nodes strings : List ℕ) (l : Layout) (w₀ : List ℕ) (order count : ℕ) (en : s.nodes ≡ nodes) (es : s.strings ≡ strings)
    (z : s.version ≡ v) (ec : node_count s ≡ count) (rooted : Rooted s olds) (known : OldsAt olds w₀ count order) where
  -- some container has no piece of a path
  pub indexed-unplaced : (p : Bool) → p ≡ all_of count (placed s) → p ≡ false → Indexes s olds l w₀ w₀ (Err 22)
  unfolding indexed_of
  indexed-unplaced p e q =
      let r : paths_rule s ≡ 22 = unplaced s (ap (λ (n : ℕ). all_of n (placed s)) ec ∙ sym e ∙ q) in
      record {
        answer = rw r refl;
        boxes = λ k. absurd (omega (arith, r));
        lengths = λ k. absurd (omega (arith, r));
        behind = refl;
      }

  abbrev list : ℕ
  list = l.at + l.paths

  abbrev table : ℕ
  table = l.at + l.lengths

  abbrev boxes : List ℕ
  boxes = containers s olds

  names-good : (y : ℕ) → is_container s y ≡ true → good_optional s (f s y 0) (f s y 1) ≡ true
  names-good y p = every-container s rooted.whole (λ x. good_optional s (f s x 0) (f s x 1) ≡ true) (λ x h q. rooted.named x h q) y p

  -- the node of place a
  abbrev box : ℕ → ℕ
  box a = old_of olds (get_or boxes a 0)

  box_in : (a : ℕ) → a < length boxes → (box a < node_count s) × (is_container s (box a) ≡ true)
  box_in a h =
      let p = those_at (λ j. is_container s (old_of olds j)) (node_count s) a h in
      (rooted.numbers.old_inside (get_or boxes a 0) p.0, p.1)

  all_listed : containers_in v nodes w₀ order count ≡ map (old_of olds) boxes
  all_listed =
      ap (λ (n : ℕ). containers_in v nodes w₀ order n) (sym ec) ∙ ap (λ (ns : List ℕ). containers_in v ns w₀ order (node_count s)) (sym en)
      ∙ ap (λ (u : ℕ). containers_in u s.nodes w₀ order (node_count s)) (sym z)
      ∙ listed s olds w₀ order (node_count s) (omega arith) (λ j h. known j (omega (arith, ec)))

  -- listed in w₁, measured in w₂
  module _ (first : l.texts ≡ 0) (gap : l.paths + count ≤ l.lengths) (behind : table + count + count ≤ order) (fits : order + count ≤ length w₀)
      (w₁ w₂ : List ℕ) (found : ℕ) (size : found ≡ length (containers_in v nodes w₀ order count))
      (words : w₁ ≡ sets w₀ list (containers_in v nodes w₀ order count))
      (measured : Measured w₁ list found table count (length_from count v nodes) w₂ found) where
    found_all : found ≡ length boxes
    found_all = size ∙ ap {B = ℕ} length all_listed ∙ length-map boxes (old_of olds)

    few : found ≤ count
    few = omega (arith, size, containers_few v nodes w₀ order count)

    in_list : (a : ℕ) → a < found → get_or w₂ (list + a) 0 ≡ box a
    in_list a h =
        let c = containers_in v nodes w₀ order count in
        sym (get_or-take table w₂ (list + a) 0 (omega (arith, few))) ∙ ap (λ (l : List ℕ). get_or l (list + a) 0) measured.low
        ∙ get_or-take table w₁ (list + a) 0 (omega (arith, few)) ∙ ap (λ (l : List ℕ). get_or l (list + a) 0) words
        ∙ sets_at c w₀ list a (omega (arith, size)) (omega (arith, few, size)) ∙ ap (λ (l : List ℕ). get_or l a 0) all_listed
        ∙ map_at (old_of olds) boxes a (omega (arith, found_all))

    in_list₁ : (a : ℕ) → a < found → get_or w₁ (list + a) 0 ≡ box a
    in_list₁ a h =
        sym (get_or-take table w₁ (list + a) 0 (omega (arith, few))) ∙ ap (λ (l : List ℕ). get_or l (list + a) 0) (sym measured.low)
        ∙ get_or-take table w₂ (list + a) 0 (omega (arith, few)) ∙ in_list a h

    long_box : (a : ℕ) → a < found → long_of table w₂ (box a) ≡ length (canonical_path s (box a))
    long_box a h =
        let k : a < length boxes = omega (arith, found_all) in
        ap (long_of table w₂) (sym (in_list₁ a h)) ∙ measured.sizes a h ∙ ap (length_from count v nodes) (in_list₁ a h)
        ∙ ap (λ (n : ℕ). length_from n v nodes (box a)) (sym ec)
        ∙ path-long s v nodes strings en es z names-good (box a) (rooted.climbs (box a) (box_in a k).0) (box_in a k).1

    -- the words of the tables, counted from where they begin
    tab_word : (w : List ℕ) (k : ℕ) → get_or (drop l.at w) k 0 ≡ get_or w (l.at + k) 0
    tab_word w k = get_or-drop l.at w k 0

    long_in : (w : List ℕ) (x : ℕ) → long_of l.lengths (drop l.at w) x ≡ long_of table w x
    long_in w x =
        let a : l.at + (l.lengths + x + x) ≡ table + x + x = omega arith in
        let b : l.at + (l.lengths + x + x + 1) ≡ table + x + x + 1 = omega arith in
        rw (tab_word w (l.lengths + x + x), tab_word w (l.lengths + x + x + 1), a, b) refl

    abbrev key : ℕ → List ℕ
    key = key_in v nodes strings l w₂

    node_of_lem : (a : ℕ) → a < found → box a ≡ node_of l.texts l.paths (drop l.at w₂) a
    node_of_lem a h =
        let e : l.at + (l.paths + (a - l.texts)) ≡ list + a = omega (arith, first) in
        sym (tab_word w₂ (l.paths + (a - l.texts)) ∙ ap (λ (k : ℕ). get_or w₂ k 0) e ∙ in_list a h)

    key_at : (a : ℕ) → a < length boxes → key a ≡ path_of s olds (get_or boxes a 0)
    key_at a h =
        let k : a < found = omega (arith, found_all) in
        key_path s v nodes strings en es z names-good (box a) (rooted.climbs (box a) (box_in a h).0) (box_in a h).1 l.texts l.paths l.lengths
        (drop l.at w₂) a (omega (arith, first)) (node_of_lem a k) (long_in w₂ (box a) ∙ long_box a k)

    module _ (p : Bool) (tested : p ≡ all_of count (placed s)) (passed : p ≡ true) (w₃ : List ℕ) (r : Bool) (arranged : Arranged key w₂ list found w₃ r) where
      all_placed : all_of (node_count s) (placed s) ≡ true
      all_placed = ap (λ (n : ℕ). all_of n (placed s)) ec ∙ sym tested ∙ passed

      behind-tables : drop (table + node_count s + node_count s) w₃ ≡ drop (table + node_count s + node_count s) w₀
      behind-tables =
          drop_more (list + found) (table + node_count s + node_count s) w₃ w₂ (omega (arith, few)) arranged.behind
          ∙ drop_more (table + count + count) (table + node_count s + node_count s) w₂ w₁ (omega (arith, ec)) measured.high
          ∙ ap (drop (table + node_count s + node_count s)) words
          ∙ sets-drop (containers_in v nodes w₀ order count) w₀ list (table + node_count s + node_count s) (omega (arith, few, size))

      tests : r ≡ all_of found (rising (λ i. key (get_or (sorted_names key found) i 0)))
      tests = arranged.answer

      sorted-same : sorted_names key found ≡ sorted_names key (length boxes)
      sorted-same = ap (sorted_names key) found_all

      -- the paths rise
      module _ (yes' : r ≡ true) where
        rise : Rises (by_key key) (sorted_names key (length boxes))
        rise i h =
            all_at (length boxes) (rising (λ j. key (get_or (sorted_names key (length boxes)) j 0)))
            (ap (λ (n : ℕ). all_of n (rising (λ j. key (get_or (sorted_names key n) j 0)))) (sym found_all) ∙ sym tests ∙ yes') (suc i)
            (omega (arith, length-isort (by_key key) (up_from 0 (length boxes)), names-length (length boxes)))

        passes : paths_rule s ≡ 0
        passes = paths-pass s olds key key_at rooted.numbers all_placed rise

        in_order_lem : map (λ a. get_or boxes a 0) (sorted_names key (length boxes)) ≡ by_path s olds
        in_order_lem = paths-order s olds key key_at rooted.numbers all_placed rise

        as_many : found ≡ length (by_path s olds)
        as_many =
            found_all ∙ sym (names-length (length boxes)) ∙ sym (length-isort (by_key key) (up_from 0 (length boxes)))
            ∙ sym (length-map (sorted_names key (length boxes)) (λ a. get_or boxes a 0)) ∙ ap {B = ℕ} length in_order_lem

        place-below : (k : ℕ) → k < found → get_or (sorted_names key (length boxes)) k 0 < length boxes
        place-below k h =
            all_place (λ a. a < length boxes) (sorted_names key (length boxes)) k (sorted-below s olds key key_at)
            (omega (arith, found_all, length-isort (by_key key) (up_from 0 (length boxes)), names-length (length boxes)))

        box_order : (k : ℕ) → k < found → box (get_or (sorted_names key (length boxes)) k 0) ≡ old_of olds (get_or (by_path s olds) k 0)
        box_order k h =
            ap (old_of olds)
            (sym (map_at (λ a. get_or boxes a 0) (sorted_names key (length boxes)) k (omega (arith, found_all, length-isort (by_key key) (up_from 0 (length boxes)), names-length (length boxes))))
            ∙ ap (λ (l : List ℕ). get_or l k 0) in_order_lem)

        list-order : (k : ℕ) → k < found → get_or w₃ (list + k) 0 ≡ old_of olds (get_or (by_path s olds) k 0)
        list-order k h =
            arranged.nodes yes' k h ∙ ap (λ (l : List ℕ). get_or w₂ (list + get_or l k 0) 0) sorted-same
            ∙ in_list (get_or (sorted_names key (length boxes)) k 0) (omega (arith, place-below k h, found_all)) ∙ box_order k h

        kept-long : (x : ℕ) → long_of table w₃ x ≡ long_of table w₂ x
        kept-long x =
            rw (
              get_d-later (list + found) (table + x + x) w₃ w₂ arranged.behind (omega (arith, few)),
              get_d-later (list + found) (table + x + x + 1) w₃ w₂ arranged.behind (omega (arith, few)),
            ) refl

        pub indexed : Indexes s olds l w₀ w₃ (Ok found)
        unfolding indexed_of
        indexed =
            record {
              answer = rw (passes, as_many) refl;
              boxes =
                  λ _ k h.
                  let e : l.at + (l.paths + k) ≡ list + k = omega arith in
                  tab_word w₃ (l.paths + k) ∙ ap (λ (i : ℕ). get_or w₃ i 0) e ∙ list-order k (omega (arith, as_many));
              lengths =
                  λ _ k h.
                  let q : k < found = omega (arith, as_many) in
                  long_in w₃ (old_of olds (get_or (by_path s olds) k 0)) ∙ kept-long (old_of olds (get_or (by_path s olds) k 0))
                  ∙ ap (long_of table w₂) (sym (box_order k q))
                  ∙ long_box (get_or (sorted_names key (length boxes)) k 0) (omega (arith, place-below k q, found_all))
                  ∙ ap (λ (x : ℕ). length (canonical_path s x)) (box_order k q);
              behind = behind-tables;
            }

      -- two are one
      module _ (no' : r ≡ false) where
        refuses : paths_rule s ≡ 22
        refuses =
            let x = all_not found (rising (λ i. key (get_or (sorted_names key found) i 0))) (sym tests ∙ no') in
            at_place x.0 x.1.0 x.1.1
          where
            at_place : (i : ℕ) → i < found → rising (λ j. key (get_or (sorted_names key found) j 0)) i ≡ false → paths_rule s ≡ 22
            at_place zero h e = absurd (false≢true (sym e))
            at_place (suc i) h e =
                paths-refuse s olds key key_at rooted.numbers all_placed i (omega (arith, found_all))
                (ap (λ (l : List ℕ). before (key (get_or l i 0)) (key (get_or l (suc i) 0))) (sym sorted-same) ∙ e)

        pub indexed-twice : Indexes s olds l w₀ w₃ (Err 22)
        unfolding indexed_of
        indexed-twice =
            record {
              answer = rw refuses refl;
              boxes = λ k. absurd (omega (arith, refuses));
              lengths = λ k. absurd (omega (arith, refuses));
              behind = behind-tables;
            }
