-- The loader's walk in work words: every mark is 1, and the stack stands right behind the marks.
use Prim.Native.Nat.{ℕ, suc, ◌+◌, ◌-◌, ◌≤◌, ◌<◌}
use mathlib.Core.Path.{◌≡◌, refl, sym, ap, ◌∙◌, subst}
use mathlib.Core.List.{List, [], ◌∷◌, ◌++◌}
use mathlib.Core.Bool.{Bool, true, false, not, not-not}
use native.Mathlib.Omega.{arith}
use lib.ListN.{length, get_or, drop, set, replicate, length-reverse, length-replicate, get_or-replicate, get_or-append}
use lib.Seq.{drop-set-lt, drop_at, drop-drop}
use Rattle.laws.specs.Refusal.{unless}
use Rattle.laws.specs.Counted.{sum_of, all_of}
use Rattle.laws.specs.Lists.{has}
use Rattle.laws.proofs.First.{first, second, pass, fail}
use Rattle.image.specs.Sections.{Sections, node_count, child_count, named_count}
use Rattle.tree.specs.Tree.{entries_rule, entry_nodes, Walked, walk, turns, load_walk, all_seen, tree_rule}
use Rattle.tree.specs.Work.{marked, tree_words, Entered, LoadWalkResult}
use Rattle.tree.specs.Parts.{EntriesOwned}
use Rattle.laws.proofs.Members.{All, all_reverse, all_ext, sum_ext}
use Rattle.tree.proofs.Entries.{entries-inside, entries-counted}
use Rattle.tree.proofs.PlainTree.{backwards}
use Rattle.tree.proofs.Machine.{Setting, Walking, turns_left, walk_start, walk_end, mark-seen, walk-marked, walk_refused, high-kept, top_below, push_room, walk-less, walk-entered}

abbrev pub one : ℕ → ℕ
one k = 1

abbrev pub pushed_entries : Sections → ℕ
pushed_entries s = child_count s + named_count s

abbrev pub LoadWalking : Sections → ℕ → List ℕ → List ℕ → ℕ → Type 0
LoadWalking s count w₀ w d = Walking (entries_rule s) (backwards s) one count count (pushed_entries s) w₀ w d

abbrev pub load_turns : Sections → ℕ → List ℕ → ℕ → ℕ
load_turns s count w d = turns_left (entries_rule s) (backwards s) one count count (pushed_entries s) w d

pub setting : (s : Sections) (count : ℕ) → count ≡ node_count s → EntriesOwned s → Setting (entries_rule s) (backwards s) one count count (pushed_entries s)
setting s count e c =
    record {
      some = omega (arith, c.some);
      above = omega arith;
      marks = λ k. omega arith;
      weighs =
          ap (λ (n : ℕ). sum_of n (λ i. length (backwards s i))) e
          ∙ sum_ext (node_count s) (λ i. length (backwards s i)) (λ i. length (entry_nodes s i)) (λ i h. length-reverse (entry_nodes s i))
          ∙ entries-counted s c;
      inside = λ i h p. subst (λ (n : ℕ). All (λ x. x < n) (backwards s i)) (sym e) (all_reverse (λ x. x < node_count s) (entry_nodes s i) (entries-inside s i p));
    }

whole : (s : Sections) → walk (entries_rule s) (backwards s) (1 + pushed_entries s) [] (0 ∷ []) ≡ load_walk s
unfolding load_walk
whole s = let e : 1 + pushed_entries s ≡ turns s = omega arith in ap (λ (n : ℕ). walk (entries_rule s) (backwards s) n [] (0 ∷ [])) e

module _ (s : Sections) (count : ℕ) (e : count ≡ node_count s) (c : EntriesOwned s) where
  abbrev here : Setting (entries_rule s) (backwards s) one count count (pushed_entries s)
  here = setting s count e c

  words : count + pushed_entries s + 1 ≡ tree_words s
  words = omega arith

  pub load-start : (w : List ℕ) → tree_words s ≤ length w → ((i : ℕ) → i < count → get_or w i 0 ≡ 0) → LoadWalking s count (set w count 0) (set w count 0) 1
  load-start w enough zeros = walk_start (entries_rule s) (backwards s) one count count (pushed_entries s) here w (omega arith) zeros

  -- the words behind stay, as they were before the root was stored
  pub kept-behind : (w₀ w : List ℕ) → drop (count + pushed_entries s + 1) w ≡ drop (count + pushed_entries s + 1) (set w₀ count 0) → drop (tree_words s) w ≡ drop (tree_words s) w₀
  kept-behind w₀ w k = rw words at (k ∙ drop-set-lt (count + pushed_entries s + 1) w₀ count 0 (omega arith))

  module _ (w₀ w : List ℕ) (d : ℕ) (inv : LoadWalking s count (set w₀ count 0) w d) where
    pub load_end : d ≤ 0 → LoadWalkResult s w₀ w 0
    load_end h =
        let end = walk_end (entries_rule s) (backwards s) one count count (pushed_entries s) here (set w₀ count 0) w d inv h in
        record {
          answer = ap (λ (x : Walked). x.refusal) (sym end ∙ whole s);
          marks = λ z i k.
              ap not (mark-seen (entries_rule s) (backwards s) one count count (pushed_entries s) here (set w₀ count 0) w d inv i (omega arith))
              ∙ not-not (has i inv.seen) ∙ ap (λ (x : Walked). has i x.seen) (sym end ∙ whole s);
          rest = kept-behind w₀ w inv.high;
        }

    -- node v is on top
    module _ (v : ℕ) (h : 0 < d) (top : v ≡ get_or w (count + (d - 1)) 0) where
      pub load_below : v < count
      load_below = top_below (entries_rule s) (backwards s) one count count (pushed_entries s) here (set w₀ count 0) w d inv v h top

      pub load-skip : (get_or w v 0 ≡ 0 → ⊥) → LoadWalking s count (set w₀ count 0) w (d - 1)
      load-skip k = walk-marked (entries_rule s) (backwards s) one count count (pushed_entries s) here (set w₀ count 0) w d inv v h top k

      module _ (z : get_or w v 0 ≡ 0) where
        pub load-room : count + (d - 1) + length (backwards s v) ≤ length (set w v 1)
        load-room = push_room (entries_rule s) (backwards s) one count count (pushed_entries s) here (set w₀ count 0) w d inv v h top z 1 (omega arith)

        -- it is taken
        module _ (w₁ : List ℕ) (r d' : ℕ) (entered : Entered (entries_rule s v) (backwards s v) count (d - 1) (set w v 1) w₁ r d')
            (kept : length w₁ ≡ length (set w v 1)) where
          pub load-less : r ≡ 0 → load_turns s count w₁ d' < load_turns s count w d
          load-less = walk-less (entries_rule s) (backwards s) one count count (pushed_entries s) here (set w₀ count 0) w d inv v h top z 1 refl w₁ r d' entered kept

          pub load-entered : r ≡ 0 → LoadWalking s count (set w₀ count 0) w₁ d'
          load-entered =
              walk-entered (entries_rule s) (backwards s) one count count (pushed_entries s) here (set w₀ count 0) w d inv v h top z 1 refl w₁ r d' entered kept

          pub load-refused : (r ≡ 0 → ⊥) → LoadWalkResult s w₀ w₁ r
          load-refused nz =
              let q : r ≡ suc (r - 1) = omega arith in
              let stopped = walk_refused (entries_rule s) (backwards s) one count count (pushed_entries s) here (set w₀ count 0) w d inv v h top z (r - 1) (sym entered.answer ∙ q) in
              record {
                answer = q ∙ ap (λ (x : Walked). x.refusal) (sym stopped ∙ whole s);
                marks = λ y. absurd (nz y);
                rest =
                    kept-behind w₀ w₁
                    (high-kept (entries_rule s) (backwards s) one count count (pushed_entries s) here (set w₀ count 0) w d inv v h top z 1 refl w₁ r d' entered kept);
              }

-- ---- the rule

module _ (s : Sections) (w₀ w : List ℕ) (r : ℕ) (l : LoadWalkResult s w₀ w r) where
  pub tree-refused : (r ≡ 0 → ⊥) → r ≡ tree_rule s
  unfolding tree_rule
  tree-refused nz =
      let q : r ≡ suc (r - 1) = omega arith in
      q ∙ sym (first (load_walk s).refusal _ (r - 1) (sym l.answer ∙ q))

  seen_all : r ≡ 0 → all_of (node_count s) (marked w) ≡ all_seen s (load_walk s).seen
  unfolding all_seen
  seen_all z = all_ext (node_count s) (marked w) (λ i. has i (load_walk s).seen) (l.marks z)

  module _ (z : r ≡ 0) (n : ℕ) (e : n ≡ node_count s) (b : Bool) (k : b ≡ all_of n (marked w)) where
    by_marks : tree_rule s ≡ unless b 15
    unfolding tree_rule
    by_marks =
        second (load_walk s).refusal _ (sym l.answer ∙ z)
        ∙ ap (λ (t : Bool). unless t 15) (sym (k ∙ ap (λ (m : ℕ). all_of m (marked w)) e ∙ seen_all z))

    pub tree-passes : b ≡ true → tree_rule s ≡ 0
    tree-passes t = by_marks ∙ pass b 15 t

    pub tree-unreached : b ≡ false → tree_rule s ≡ 15
    tree-unreached t = by_marks ∙ fail b 15 t

-- ---- cleared words

pub cleared-zero : (n : ℕ) (w : List ℕ) (i : ℕ) → i < n → get_or (replicate n 0 ++ drop n w) i 0 ≡ 0
cleared-zero n w i h =
    let k : i < length (replicate {A = ℕ} n 0) = omega (arith, length-replicate {A = ℕ} n 0) in
    get_or-append (replicate n 0) (drop n w) 0 i k ∙ get_or-replicate n i 0 0 h

pub cleared-rest : (n u : ℕ) (w : List ℕ) → n ≤ u → drop u (replicate n 0 ++ drop n w) ≡ drop u w
cleared-rest n u w h =
    let e : u ≡ n + (u - n) = omega arith in
    rw (e, ← drop-drop (u - n) n (replicate n 0 ++ drop n w), ← drop-drop (u - n) n w, drop_at (replicate n 0) (drop n w) n (length-replicate n 0))

-- what stays behind the words of a walk that began with its marks cleared
pub kept-words : (s : Sections) (n r : ℕ) (w₀ w₁ w : List ℕ) → n ≡ node_count s → w₁ ≡ replicate n 0 ++ drop n w₀ → LoadWalkResult s w₁ w r
    → drop (tree_words s) w ≡ drop (tree_words s) w₀
kept-words s n r w₀ w₁ w e k l = l.rest ∙ ap (drop (tree_words s)) k ∙ cleared-rest n (tree_words s) w₀ (omega arith)
