-- What is found for one node, test by test.
use Rattle.std.specs.Prelude.{None, Option, Some, ℕ, Err, Ok, Result}
use Prim.Native.Nat.{ℕ, zero, suc, ◌+◌, ◌*◌, ◌-◌, ◌≤◌, ◌<◌}
use mathlib.Core.Path.{◌≡◌, refl, sym, ap, ◌∙◌}
use mathlib.Core.List.{List}
use mathlib.Core.Bool.{Bool, true, false, cond, not, true≢false}
use native.Mathlib.Omega.{arith}
use native.Mathlib.Nat.{not-suc-le-zero}
use native.Mathlib.Decide.{ℕ_discrete}
use lib.ListN.{length, get_or, take, drop}
use lib.Dec.{eqb}
use borrow.Author.Tests.{lt-ltb, eq-eqb, ne_eqb, eqb-true, eqb-false}
use Rattle.laws.specs.Refusal.{unless}
use Rattle.laws.specs.Counted.{last_of}
use Rattle.words.specs.Words.{NONE}
use Rattle.image.specs.declared.NodeRecord.{NodeRecord}
use Rattle.image.specs.Sections.{Sections, node_word, tag_of, part_at}
use Rattle.image.specs.Entries.{record_of, node_in}
use Rattle.image.proofs.Entries.{node_record}
use Rattle.draft.specs.declared.path_list.PathEntry.{PathEntry}
use Rattle.draft.specs.Source.{word_of}
use Rattle.draft.specs.PathList.{path_count, path_origin, path_of, may_follow}
use Rattle.draft.specs.PathEntries.{path_entry}
use Rattle.walks.specs.Walk.{component_words, index_kind, components, resolve}
use Rattle.target_finding.specs.Targets.{last_is_index, PathList, path_components, path_end, ends_in_index, needs_container, entry_rule, target_rule, entry_target, target_found, path_list}
use Rattle.target_finding.specs.Finding.{ComponentsInside, target_by, end_of, due_of, end_target, entry_answer}

-- ---- what an answer says

pub by_at : (r t n : ℕ) (a : Result ℕ ℕ) → a ≡ target_by r t → a ≡ Ok n → (r ≡ 0) × (n ≡ t)
unfolding target_by
by_at r t n a e q = go (eqb r 0) refl (sym q ∙ e)
  where
    go : (b : Bool) → eqb r 0 ≡ b → Ok n ≡ cond b (Ok t) (Err r) → (r ≡ 0) × (n ≡ t)
    go true h z = (eqb-true r 0 h, cc)
    go false h z = let w : ◌≡◌ {A = ℕ} 0 1 = cc in absurd (omega arith)

pub by_refused : (r t k : ℕ) (a : Result ℕ ℕ) → a ≡ target_by r t → a ≡ Err k → (k ≡ r) × (k ≡ 0 → ⊥)
unfolding target_by
by_refused r t k a e q = go (eqb r 0) refl (sym q ∙ e)
  where
    go : (b : Bool) → eqb r 0 ≡ b → Err k ≡ cond b (Ok t) (Err r) → (k ≡ r) × (k ≡ 0 → ⊥)
    go true h z = let w : ◌≡◌ {A = ℕ} 0 1 = cc in absurd (omega arith)
    go false h z = let w : k ≡ r = cc in (w, λ x. eqb-false r 0 h (sym w ∙ x))

-- ---- the last component

pub index-none : (lent : List ℕ) (first count : ℕ) → count ≡ 0 → false ≡ last_is_index lent first count
unfolding last_is_index
index-none lent first count e = rw e refl

pub index-last : (lent : List ℕ) (first count w : ℕ) → (count ≡ 0 → ⊥) → w ≡ get_or lent (component_words * (first + count - 1)) 0
    → eqb w index_kind ≡ last_is_index lent first count
unfolding last_is_index
index-last lent first count w d e = rw (lt-ltb 0 count (omega arith)) (ap (λ (x : ℕ). eqb x index_kind) e)

-- ---- whether a container is due

pub choice_due : (tag : ℕ) (b : Bool) → tag ≡ 2 → true ≡ needs_container tag b
unfolding needs_container
choice_due tag b e = rw e refl

pub reference_due : (tag : ℕ) (b : Bool) → tag ≡ 17 → true ≡ needs_container tag b
unfolding needs_container
reference_due tag b e = rw e refl

module _ (tag : ℕ) (choice : tag ≡ 2 → ⊥) (reference : tag ≡ 17 → ⊥) where
  pub none_due : (b : Bool) → (tag ≡ 4 → ⊥) → false ≡ needs_container tag b
  unfolding needs_container
  none_due b d = rw (ne_eqb tag 2 choice, ne_eqb tag 17 reference, ne_eqb tag 4 d) refl

  pub divert_due : (b c : Bool) → tag ≡ 4 → c ≡ b → not c ≡ needs_container tag b
  unfolding needs_container
  divert_due b c e q = rw e (ap not q)

-- ---- the end of a path

module _ (s : Sections) (due : Bool) (x : Option ℕ) where
  pub end_none : x ≡ None → Err 25 ≡ end_target s due x
  unfolding target_by
  end_none e = rw e refl

  module _ (n : ℕ) (e : x ≡ Some n) where
    pub end_free : due ≡ false → Ok n ≡ end_target s due x
    unfolding target_by unless
    end_free d = rw (e, d) refl

    -- where its tag was read
    module _ (tag : ℕ) (is : tag ≡ word_of s.version s.nodes n 2) where
      pub end_wrong : due ≡ true → (tag ≡ 1 → ⊥) → Err 26 ≡ end_target s due x
      unfolding target_by unless node_word
      end_wrong d q = rw (e, d, ne_eqb (word_of s.version s.nodes n 2) 1 (λ z. q (is ∙ z))) refl

      pub end_right : due ≡ true → tag ≡ 1 → Ok n ≡ end_target s due x
      unfolding target_by unless node_word
      end_right d q = rw (e, d, eq-eqb (word_of s.version s.nodes n 2) 1 (sym is ∙ q)) refl

-- its components, as a part of those that are lent
pub end_is : (s : Sections) (lent names : List ℕ) (e : PathEntry) (r : Option ℕ)
    → r ≡ resolve s (eqb e.relative 1) e.node (components names (take (3 * e.first + 3 * e.count - 3 * e.first) (drop (3 * e.first) lent)))
    → r ≡ end_of s lent names e
unfolding end_of part_at
end_is s lent names e r q =
    let z : 3 * e.first + 3 * e.count - 3 * e.first ≡ 3 * e.count = omega arith in
    rw z at q

-- ---- the entry of a node

last-there : (t : ℕ → Bool) (n k : ℕ) → last_of n t ≡ Some k → (k < n) × (t k ≡ true)
unfolding last_of
last-there t zero k e = let z : ◌≡◌ {A = ℕ} 0 1 = cc in absurd (omega arith)
last-there t (suc n) k e = go (t n) refl (λ q. last-there t n k q) e
  where
    go : (b : Bool) → t n ≡ b → (last_of n t ≡ Some k → (k < n) × (t k ≡ true)) → cond b (Some n) (last_of n t) ≡ Some k → (k < suc n) × (t k ≡ true)
    go true h next q = let z : n ≡ k = cc in (omega arith, ap t (sym z) ∙ h)
    go false h next q = let r = next q in (omega (arith, r.0), r.1)

pub path-there : (entries : List ℕ) (i k : ℕ) → path_of entries i ≡ Some k → (k < path_count entries) × (path_origin entries k ≡ i)
unfolding path_of
path-there entries i k e = let r = last-there (λ j. eqb (path_origin entries j) i) (path_count entries) k e in (r.0, eqb-true _ _ r.1)

last-nowhere : (t : ℕ → Bool) (n : ℕ) → last_of n t ≡ None → (k : ℕ) → k < n → t k ≡ false
unfolding last_of
last-nowhere t zero e k l = absurd (not-suc-le-zero l)
last-nowhere t (suc n) e k l = go (t n) refl e (ℕ_discrete k n) (λ q h. last-nowhere t n q k h)
  where
    go : (b : Bool) → t n ≡ b → cond b (Some n) (last_of n t) ≡ None → Dec (k ≡ n) → (last_of n t ≡ None → k < n → t k ≡ false) → t k ≡ false
    go true h q d next = let z : ◌≡◌ {A = ℕ} 0 1 = cc in absurd (omega arith)
    go false h q (yes d) next = ap t d ∙ h
    go false h q (no d) next = next q (omega arith)

-- a node that is not listed is of no entry
pub path-nowhere : (entries : List ℕ) (i : ℕ) → path_of entries i ≡ None → (k : ℕ) → k < path_count entries → path_origin entries k ≡ i → ⊥
unfolding path_of
path-nowhere entries i e k l q =
    true≢false (sym (eq-eqb (path_origin entries k) i q) ∙ last-nowhere (λ j. eqb (path_origin entries j) i) (path_count entries) e k l)

pub entry-inside : (entries lent : List ℕ) (k : ℕ) → k < path_count entries → ComponentsInside entries lent → (entry : PathEntry) → entry ≡ path_entry entries k
    → component_words * (entry.first + entry.count) ≤ length lent
entry-inside entries lent k l h entry r = rw r (h k l)

-- the node of an entry: its record was read, and whether it may follow a path
module _ (s : Sections) (lent names : List ℕ) (entry : PathEntry) (node : NodeRecord) (n : node ≡ record_of s.version s.nodes entry.node) (b : Bool) (m : b ≡ may_follow node) where
  may_is : may_follow (node_in s entry.node) ≡ b
  may_is = ap may_follow (sym (n ∙ node_record s s.version s.nodes entry.node refl refl)) ∙ sym m

  pub not-followed : b ≡ false → Ok NONE ≡ entry_answer s lent names entry
  unfolding entry_answer
  not-followed h = rw (may_is ∙ h) refl

  pub entry-followed : b ≡ true → (r : Result ℕ ℕ) → r ≡ end_target s (due_of lent node.tag entry) (end_of s lent names entry) → r ≡ entry_answer s lent names entry
  unfolding entry_answer
  entry-followed h r q =
      let tag : node.tag ≡ tag_of s entry.node = ap (λ (x : NodeRecord). x.tag) (n ∙ node_record s s.version s.nodes entry.node refl refl) in
      q ∙ ap (λ (x : ℕ). end_target s (due_of lent x entry) (end_of s lent names entry)) tag ∙ rw (may_is ∙ h) refl

module _ (s : Sections) (entries lent names : List ℕ) (i : ℕ) where
  abbrev p : PathList
  p = path_list entries lent names

  abbrev answer : Result ℕ ℕ
  answer = target_by (target_rule s p i) (target_found s p i)

  pub not_listed : path_of entries i ≡ None → Ok NONE ≡ answer
  unfolding target_rule target_found target_by
  not_listed e = rw e refl

  module _ (k : ℕ) (e : path_of entries i ≡ Some k) where
    entry-answer : entry_answer s lent names (path_entry entries k) ≡ answer
    unfolding entry_answer target_rule target_found end_of path_end path_components ends_in_index last_is_index
    entry-answer = rw (e, (path-there entries i k e).1) (go (may_follow (node_in s i)))
      where
        go : (b : Bool) → cond b (target_by (entry_rule s p i (Some k)) (entry_target s p i (Some k))) (Ok NONE)
            ≡ target_by (cond b (entry_rule s p i (Some k)) 0) (cond b (entry_target s p i (Some k)) NONE)
        go true = refl
        go false = unfold target_by in refl

    pub by_entry : (entry : PathEntry) → entry ≡ path_entry entries k → (r : Result ℕ ℕ) → r ≡ entry_answer s lent names entry → r ≡ answer
    by_entry entry w r q = q ∙ ap (entry_answer s lent names) w ∙ entry-answer
