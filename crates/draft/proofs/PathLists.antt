-- The list of paths: whether its nodes rise, the entry of a node, hints, the entries that are right.
use Rattle.std.specs.Prelude.{None, Some, is_some}
use Prim.Native.Nat.{ℕ, zero, suc, ◌+◌, ◌-◌, ◌*◌, ◌%◌, ◌≤◌, ◌<◌}
use mathlib.Core.Path.{◌≡◌, refl, sym, ap, ◌∙◌, subst}
use mathlib.Core.Logic.{◌⊎◌, inl, inr}
use mathlib.Core.List.{List, [], ◌∷◌}
use mathlib.Core.Bool.{Bool, true, false, cond, not, ◌&&◌, ◌||◌, true≢false}
use native.Mathlib.Omega.{arith}
use native.Mathlib.Nat.{add-zero, not-suc-le-zero}
use native.Mathlib.Decide.{ℕ_discrete, dec_lt}
use lib.Dec.{leb, ltb, eqb}
use lib.ListN.{length, get_or}
use borrow.Author.Tests.{lt-ltb, le-ltb, le-leb, lt-leb, ltb-true, eq-eqb, ne_eqb, eqb-true, not-true, not-false}
use Rattle.std.specs.List.{list_all, range_with_len}
use Rattle.laws.specs.Counted.{all_of, last_of}
use Rattle.laws.specs.Lists.{has}
use Rattle.laws.proofs.Flags.{both_true, false-and, all_at, all_of_lem}
use Rattle.laws.proofs.Members.{All, Distinct, pigeon, all_ext}
use Rattle.image.specs.declared.NodeRecord.{NodeRecord}
use Rattle.image.specs.Sections.{absent, inside_among}
use Rattle.image.proofs.Tests.{inside-true}
use Rattle.records.specs.Flags.{external}
use Rattle.draft.proofs.Ranges.{all_after}
use Rattle.draft.specs.declared.path_list.PathEntry.{PathEntry}
use Rattle.draft.specs.declared.path_list.Hint.{Hint}
use Rattle.draft.specs.PathList.{path_count, path_word, path_origin, path_of, listed, new_origin, path_right, list_right, may_follow}
use Rattle.draft.specs.PathEntries.{path_entry, entry_right, paths_rise, Hinted}

-- ---- entries

-- the first word of an entry
pub origin-word : (entries : List ℕ) (k : ℕ) → get_or entries (k * 4) 0 ≡ path_origin entries k
unfolding path_word
origin-word entries k = rw (add-zero (k * 4))

pub entry-words : (entries : List ℕ) (k at : ℕ) → at ≡ k * 4
    → ◌≡◌ {A = PathEntry} (record { node = get_or entries at 0; relative = get_or entries (at + 1) 0; first = get_or entries (at + 2) 0; count = get_or entries (at + 3) 0 }) (path_entry entries k)
unfolding path_word
entry-words entries k at e =
    let z : at ≡ k * 4 + 0 = omega arith in
    cc

-- ---- whether the nodes rise

module _ (entries : List ℕ) where
  abbrev pub rises_at : ℕ → Bool
  rises_at k = ltb (path_origin entries k) (path_origin entries (suc k))

  -- the same of an entry and the one before it
  abbrev pub rises_to : ℕ → Bool
  rises_to k = ltb (path_origin entries (k - 1)) (path_origin entries k)

  pub rise_told : (n : ℕ) → n ≡ path_count entries → list_all rises_to (range_with_len 1 (n - 1)) ≡ paths_rise entries
  unfolding paths_rise
  rise_told n e =
      rw e
      (all_after rises_to rises_at 1 (path_count entries - 1)
      (λ i h.
      let z : 1 + i ≡ suc i = omega arith in
      let y : 1 + i - 1 ≡ i = omega arith in
      cc))

  -- of two entries of a list that rises
  pub rising_between : paths_rise entries ≡ true → (j k : ℕ) → j < k → k < path_count entries → path_origin entries j < path_origin entries k
  unfolding paths_rise
  rising_between p j zero h l = absurd (not-suc-le-zero h)
  rising_between p j (suc k) h l =
      let step = ltb-true (path_origin entries k) (path_origin entries (suc k)) (all_at (path_count entries - 1) rises_at p k (omega arith)) in
      elim (ℕ_discrete j k) [
        | yes e ↦ rw e step
        | no d ↦ let rest = rising_between p j k (omega arith) (omega arith) in omega arith
      ]

-- ---- the entry of a node

module _ (entries : List ℕ) (i : ℕ) where
  abbrev pub of_node : ℕ → Bool
  of_node k = eqb (path_origin entries k) i

  -- where none is, and where one is and none after it
  last_none : (n : ℕ) → ((k : ℕ) → k < n → of_node k ≡ false) → last_of n of_node ≡ None
  unfolding last_of
  last_none zero h = refl
  last_none (suc n) h = rw (h n (omega arith)) (last_none n (λ k l. h k (omega arith)))

  last_is : (n d : ℕ) → d < n → of_node d ≡ true → ((k : ℕ) → d < k → k < n → of_node k ≡ false) → last_of n of_node ≡ Some d
  unfolding last_of
  last_is zero d l y h = absurd (not-suc-le-zero l)
  last_is (suc n) d l y h = by (ℕ_discrete d n) (λ b. last_is n d b y (λ k a c. h k a (omega arith)))
    where
      by : Dec (d ≡ n) → (d < n → last_of n of_node ≡ Some d) → cond (of_node n) (Some n) (last_of n of_node) ≡ Some d
      by (yes e) next = rw (ap of_node (sym e) ∙ y) (ap Some (sym e))
      by (no e) next = rw (h n (omega arith) (omega arith)) (next (omega arith))

-- ---- hints

pub hint_starts : (entries : List ℕ) (b : Bool) → b ≡ paths_rise entries → Hinted entries 0 (record { rises = b; next = 0 })
hint_starts entries b e =
    record {
      order = e;
      below = λ y k l. absurd (not-suc-le-zero l);
      above = λ y k l h. omega arith;
    }

-- of a list that does not rise a hint says nothing else
pub hint_silent : (entries : List ℕ) (i j : ℕ) (h : Hint) → Hinted entries i h → h.rises ≡ false → Hinted entries j h
hint_silent entries i j h t e =
    record {
      order = t.order;
      below = λ y. absurd (true≢false (sym y ∙ e));
      above = λ y. absurd (true≢false (sym y ∙ e));
    }

module _ (entries : List ℕ) (i : ℕ) (h : Hint) (t : Hinted entries i h) (y : h.rises ≡ true) (b : Bool)
    (e : b ≡ (ltb h.next (path_count entries) && eqb (path_origin entries h.next) i)) where
  above : (k : ℕ) → h.next < k → k < path_count entries → i < path_origin entries k
  above k l c =
      let a = rising_between entries (sym t.order ∙ y) h.next k l c in
      let f = t.above y h.next (omega arith) (omega arith) in
      omega arith

  -- the hinted entry is of the node
  module _ (q : b ≡ true) where
    there : (h.next < path_count entries) × (path_origin entries h.next ≡ i)
    there =
        let both = both_true (ltb h.next (path_count entries)) (eqb (path_origin entries h.next) i) (sym e ∙ q) in
        (ltb-true h.next (path_count entries) both.0, eqb-true (path_origin entries h.next) i both.1)

    found : Some h.next ≡ path_of entries i
    unfolding path_of
    found =
        sym
        (last_is entries i (path_count entries) h.next there.0 (eq-eqb (path_origin entries h.next) i there.1)
        (λ k l c. ne_eqb (path_origin entries k) i (λ z. let a = above k l c in omega arith)))

    pub hint_room : h.next < path_count entries
    hint_room = there.0

    pub hint_steps : Hinted entries (i + 1) (record { rises = h.rises; next = h.next + 1 })
    hint_steps = record { order = t.order; below = λ z k l. lower k l (ℕ_discrete k h.next); above = λ z k l c. let a = above k (omega arith) c in omega arith }
      where
        lower : (k : ℕ) → k < h.next + 1 → Dec (k ≡ h.next) → path_origin entries k < i + 1
        lower k l (yes d) = let z : path_origin entries k ≡ i = ap (path_origin entries) d ∙ there.1 in omega arith
        lower k l (no d) = let z = t.below y k (omega arith) in omega arith

  -- it is of another node, or there is none
  module _ (q : b ≡ false) where
    beside : (k : ℕ) → h.next ≤ k → k < path_count entries → i < path_origin entries k
    beside k l c =
        elim (ℕ_discrete k h.next) [
          | yes d ↦
              let f = t.above y k l c in
              elim (ℕ_discrete (path_origin entries k) i) [
                | yes z ↦
                    absurd
                    (true≢false
                    (sym (rw (lt-ltb h.next (path_count entries) (omega arith), eq-eqb (path_origin entries h.next) i (ap (path_origin entries) (sym d) ∙ z)) refl) ∙ sym e ∙ q))
                | no z ↦ omega arith
              ]
          | no d ↦ above k (omega arith) c
        ]

    missed : None ≡ path_of entries i
    unfolding path_of
    missed = sym (last_none entries i (path_count entries) (λ k c. ne_eqb (path_origin entries k) i (apart k c (dec_lt k h.next))))
      where
        apart : (k : ℕ) → k < path_count entries → Dec (k < h.next) → path_origin entries k ≡ i → ⊥
        apart k c (yes l) z = let a = t.below y k l in omega arith
        apart k c (no l) z = let a = beside k (omega arith) c in omega arith

    pub hint_stays : Hinted entries (i + 1) h
    hint_stays = record { order = t.order; below = λ z k l. let a = t.below z k l in omega arith; above = λ z k l c. let a = beside k l c in omega arith }

  -- whether the node has an entry
  pub hinted_listed : b ≡ listed entries i
  hinted_listed = by b refl
    where
      by : (x : Bool) → b ≡ x → b ≡ listed entries i
      by true q = q ∙ ap is_some (found q)
      by false q = q ∙ ap is_some (missed q)

-- whether an entry is there and is of a node
module _ (entries : List ℕ) (k i count : ℕ) (counted : count ≡ path_count entries) where
  pub of_read : k < count → (a : ℕ) → a ≡ path_origin entries k → eqb a i ≡ (ltb k (path_count entries) && eqb (path_origin entries k) i)
  of_read l a e = rw (lt-ltb k (path_count entries) (omega arith), e)

  pub of_past : count ≤ k → false ≡ (ltb k (path_count entries) && eqb (path_origin entries k) i)
  of_past l = rw (le-ltb k (path_count entries) (omega arith))

-- ---- the nodes that follow a path

or-false : (b : Bool) → b ≡ ((b || false) || false)
or-false true = refl
or-false false = refl

module _ (r : NodeRecord) where
  pub follow_sure : (r.tag ≡ 2) ⊎ ((r.tag ≡ 13) ⊎ (r.tag ≡ 17)) → true ≡ may_follow r
  unfolding may_follow
  follow_sure (inl e) = rw (eq-eqb r.tag 2 e)
  follow_sure (inr (inl e)) = rw (ne_eqb r.tag 2 (λ z. omega arith), ne_eqb r.tag 4 (λ z. omega arith), eq-eqb r.tag 13 e)
  follow_sure (inr (inr e)) =
      rw (ne_eqb r.tag 2 (λ z. omega arith), ne_eqb r.tag 4 (λ z. omega arith), ne_eqb r.tag 13 (λ z. omega arith), eq-eqb r.tag 17 e)

  pub follow_divert : r.tag ≡ 4 → (b : Bool) → b ≡ (not (external r) && absent r.f3 r.f4) → b ≡ may_follow r
  unfolding may_follow
  follow_divert e b h =
      rw (ne_eqb r.tag 2 (λ z. omega arith), eq-eqb r.tag 4 e, ne_eqb r.tag 13 (λ z. omega arith), ne_eqb r.tag 17 (λ z. omega arith), ← h) (or-false b)

  pub follow_never : ((r.tag ≡ 2) ⊎ ((r.tag ≡ 13) ⊎ (r.tag ≡ 17)) → ⊥) → (r.tag ≡ 4 → ⊥) → false ≡ may_follow r
  unfolding may_follow
  follow_never h k =
      rw (ne_eqb r.tag 2 (λ z. h (inl z)), ne_eqb r.tag 4 k, ne_eqb r.tag 13 (λ z. h (inr (inl z))), ne_eqb r.tag 17 (λ z. h (inr (inr z))))

-- ---- the entries that are right

module _ (entries : List ℕ) (k : ℕ) where
  abbrev pub of_other : ℕ → Bool
  of_other j = not (eqb (path_origin entries j) (path_origin entries k))

  pub new_rising : paths_rise entries ≡ true → k < path_count entries → true ≡ new_origin entries k
  unfolding new_origin
  new_rising p h =
      sym
      (all_of_lem k of_other
      (λ j l. ap not (ne_eqb (path_origin entries j) (path_origin entries k) (λ e. let a = rising_between entries p j k l h in omega arith))))

module _ (nodes components : ℕ) (entries : List ℕ) (k : ℕ) (entry : PathEntry) (read : entry ≡ path_entry entries k) (b : Bool) (inside : b ≡ inside_among nodes entry.node) where
  own : b ≡ inside_among nodes (path_origin entries k)
  own = inside ∙ (λ j. inside_among nodes (read j).node)

  pub right-outside : not b ≡ true → false ≡ entry_right nodes components entries k
  unfolding entry_right
  right-outside h = rw (sym own ∙ not-true b h)

  module _ (passed : not b ≡ false) where
    pub right-flag : 1 < entry.relative → false ≡ entry_right nodes components entries k
    unfolding entry_right
    right-flag l =
        let z : entry.relative ≡ path_word entries k 1 = (λ j. (read j).relative) in
        rw (sym own ∙ not-false b passed, lt-leb (path_word entries k 1) 1 (omega arith))

    pub right-last : entry.relative ≤ 1 → leb (entry.first + entry.count) components ≡ entry_right nodes components entries k
    unfolding entry_right
    right-last l =
        let z : entry.relative ≡ path_word entries k 1 = (λ j. (read j).relative) in
        rw (sym own ∙ not-false b passed, le-leb (path_word entries k 1) 1 (omega arith)) (λ j. leb ((read j).first + (read j).count) components)

-- ---- the nodes of the first entries, the last one first: if none is twice, they are no more than there are nodes

module _ (entries : List ℕ) where
  abbrev origins : ℕ → List ℕ
  origins zero = []
  origins (suc n) = path_origin entries n ∷ origins n

  origins-length : (n : ℕ) → length (origins n) ≡ n
  origins-length zero = refl
  origins-length (suc n) = ap suc (origins-length n)

  origins-inside : (nodes n : ℕ) → ((k : ℕ) → k < n → path_origin entries k < nodes) → All (λ x. x < nodes) (origins n)
  origins-inside nodes zero h = tt
  origins-inside nodes (suc n) h = (h n (omega arith), origins-inside nodes n (λ k l. h k (omega arith)))

  not-among : (x n : ℕ) → ((j : ℕ) → j < n → path_origin entries j ≡ x → ⊥) → has x (origins n) ≡ false
  unfolding has
  not-among x zero h = refl
  not-among x (suc n) h = rw (ne_eqb x (path_origin entries n) (λ e. h n (omega arith) (sym e))) (not-among x n (λ j l. h j (omega arith)))

  origins-distinct : (n : ℕ) → ((k : ℕ) → k < n → new_origin entries k ≡ true) → Distinct (origins n)
  origins-distinct zero h = tt
  origins-distinct (suc n) h = (not-among (path_origin entries n) n (other n (h n (omega arith))), origins-distinct n (λ k l. h k (omega arith)))
    where
      other : (k : ℕ) → new_origin entries k ≡ true → (j : ℕ) → j < k → path_origin entries j ≡ path_origin entries k → ⊥
      other k p j l e =
          let q : all_of k (of_other entries k) ≡ true = unfold new_origin in p in
          true≢false (sym (all_at k (of_other entries k) q j l) ∙ ap not (eq-eqb (path_origin entries j) (path_origin entries k) e))

  few_origins : (nodes n : ℕ) → ((k : ℕ) → k < n → path_origin entries k < nodes) → ((k : ℕ) → k < n → new_origin entries k ≡ true) → n ≤ nodes
  few_origins nodes n h p = subst (λ (x : ℕ). x ≤ nodes) (origins-length n) (pigeon nodes (origins n) (origins-distinct n p) (origins-inside nodes n h))

-- ---- the whole list

all_both : (n : ℕ) (s t : ℕ → Bool) → all_of n (λ k. s k && t k) ≡ (all_of n s && all_of n t)
unfolding all_of
all_both zero s t = refl
all_both (suc n) s t = rw (all_both n s t) (swap (all_of n s) (all_of n t) (s n) (t n))
  where
    swap : (a b c d : Bool) → ((a && b) && (c && d)) ≡ ((a && c) && (b && d))
    swap true true c d = refl
    swap true false true d = refl
    swap true false false d = refl
    swap false b c d = refl

module _ (nodes components : ℕ) (entries : List ℕ) where
  abbrev fits : Bool
  fits = all_of (path_count entries) (entry_right nodes components entries)

  abbrev new : Bool
  new = all_of (path_count entries) (new_origin entries)

  right-both : (k : ℕ) → path_right nodes components entries k ≡ (entry_right nodes components entries k && new_origin entries k)
  unfolding path_right entry_right
  right-both k = go (inside_among nodes (path_origin entries k)) (new_origin entries k) (leb (path_word entries k 1) 1) (leb (path_word entries k 2 + path_word entries k 3) components)
    where
      go : (a b c d : Bool) → (a && b && c && d) ≡ ((a && c && d) && b)
      go true true true true = refl
      go true true true false = refl
      go true true false d = refl
      go true false true true = refl
      go true false true false = refl
      go true false false d = refl
      go false b c d = refl

  in_parts : all_of (path_count entries) (path_right nodes components entries) ≡ (fits && new)
  in_parts =
      all_ext (path_count entries) (path_right nodes components entries) (λ k. entry_right nodes components entries k && new_origin entries k) (λ k l. right-both k)
      ∙ all_both (path_count entries) (entry_right nodes components entries) (new_origin entries)

  pub list-broken : (length entries % 4 ≡ 0 → ⊥) → false ≡ list_right nodes components entries
  unfolding list_right
  list-broken h = rw (ne_eqb (length entries % 4) 0 h)

  -- entries of nodes that are all inside and all different are no more than the nodes
  module _ (f : fits ≡ true) where
    pub all_inside : (k : ℕ) → k < path_count entries → path_origin entries k < nodes
    unfolding entry_right
    all_inside k l =
        (inside-true nodes (path_origin entries k)
        (both_true (inside_among nodes (path_origin entries k)) _ (both_true (inside_among nodes (path_origin entries k) && leb (path_word entries k 1) 1) _ (all_at (path_count entries) (entry_right nodes components entries) f k l)).0).0
        ).0

    few : new ≡ true → path_count entries ≤ nodes
    few n = few_origins entries nodes (path_count entries) all_inside (all_at (path_count entries) (new_origin entries) n)

  module _ (count : ℕ) (e : count ≡ path_count entries) where
    pub list-many : nodes < count → false ≡ list_right nodes components entries
    unfolding list_right
    list-many l = sym (rw in_parts (last (eqb (length entries % 4) 0) fits new (λ f n. let m = few f n in omega arith)))
      where
        last : (a b c : Bool) → (b ≡ true → c ≡ true → ⊥) → (a && (b && c)) ≡ false
        last true true true h = absurd (h refl refl)
        last true true false h = refl
        last true false c h = refl
        last false b c h = refl

    pub list-unfit : false ≡ all_of count (entry_right nodes components entries) → false ≡ list_right nodes components entries
    unfolding list_right
    list-unfit h = rw (in_parts, ← e, ← h) (false-and (eqb (length entries % 4) 0))

    pub fits_read : true ≡ all_of count (entry_right nodes components entries) → fits ≡ true
    fits_read f = ap (λ (m : ℕ). all_of m (entry_right nodes components entries)) (sym e) ∙ sym f

    -- whole entries, each right by itself: whether each is of a new node decides
    pub list-decides : length entries % 4 ≡ 0 → true ≡ all_of count (entry_right nodes components entries) → (b : Bool) → b ≡ new → b ≡ list_right nodes components entries
    unfolding list_right
    list-decides h f b n = rw (eq-eqb (length entries % 4) 0 h, in_parts, fits_read f) n

    pub list-rises : length entries % 4 ≡ 0 → true ≡ all_of count (entry_right nodes components entries) → paths_rise entries ≡ true → true ≡ list_right nodes components entries
    list-rises h f p = list-decides h f true (sym (all_of_lem (path_count entries) (new_origin entries) (λ k l. sym (new_rising entries k p l))))
