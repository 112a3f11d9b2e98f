-- The list of paths, who follows a path and who needs a container, in plain words, both ways.
use Rattle.std.specs.Prelude.{None, Option, Some, is_some}
use Prim.Native.Nat.{ℕ, ◌+◌, ◌/◌, ◌%◌, ◌≤◌, ◌<◌}
use mathlib.Core.Path.{◌≡◌, refl, sym, ap, ◌∙◌}
use mathlib.Core.Logic.{◌≢◌, inl, inr}
use mathlib.Core.Bool.{Bool, true, false, ◌&&◌, ◌||◌, not, true≢false}
use native.Mathlib.Omega.{arith}
use native.Mathlib.Decide.{ℕ_discrete, dec_lt}
use lib.ListN.{length}
use lib.Dec.{leb, ltb, eqb}
use borrow.Author.Tests.{eq-eqb, ne_eqb, le-leb, lt-ltb, eqb-true, eqb-false, leb-true, ltb-true, not-true}
use Rattle.laws.proofs.Flags.{both_true, not-true-false, all_at, all_of_lem}
use Rattle.words.specs.Words.{NONE, is_none}
use Rattle.image.specs.Entries.{node_in}
use Rattle.image.specs.Sections.{Sections, node_count, tag_of, f, absent, inside}
use Rattle.image.specs.Tags.{choice_tag, divert_tag, target_tag, reference_tag}
use Rattle.records.specs.Flags.{external}
use Rattle.draft.specs.PathList.{path_entry_words, path_count, path_word, path_origin, path_of, listed, new_origin, path_right, list_right, plain_divert, may_follow, follows}
use Rattle.lookups.proofs.Plain.{last_some, last_none}
use Rattle.walks.specs.Walk.{component_words}
use Rattle.promises.proofs.Fields.{node-right, right-node}
use Rattle.target_finding.specs.Targets.{PathList, last_is_index, ends_in_index, needs_container}
use Rattle.resolver_rules.specs.ResolverRules.{ListRight, MayFollow, Follows, EndsInIndex, ContainerDue}

-- ---- the list

module _ (s : Sections) (p : PathList) where
  abbrev entry_right : ℕ → Bool
  entry_right k = path_right (node_count s) (length p.components / component_words) p.entries k

  -- what the test of entry k says
  record Passed (k : ℕ) : Type 0 where
    node : inside s (path_origin p.entries k) ≡ true
    new : (j : ℕ) → j < k → path_origin p.entries j ≢ path_origin p.entries k
    relative : path_word p.entries k 1 ≤ 1
    components : path_word p.entries k 2 + path_word p.entries k 3 ≤ length p.components / component_words

  passed : (k : ℕ) → entry_right k ≡ true → Passed k
  unfolding path_right new_origin
  passed k h =
      let c = both_true (inside s (path_origin p.entries k) && new_origin p.entries k && leb (path_word p.entries k 1) 1) _ h in
      let b = both_true (inside s (path_origin p.entries k) && new_origin p.entries k) _ c.0 in
      let a = both_true (inside s (path_origin p.entries k)) _ b.0 in
      record {
        node = a.0;
        new = λ j l. eqb-false _ _ (not-true (eqb (path_origin p.entries j) (path_origin p.entries k)) (all_at k _ a.1 j l));
        relative = leb-true _ _ b.1;
        components = leb-true _ _ c.1;
      }

  pub list_right_lem : list_right (node_count s) (length p.components / component_words) p.entries ≡ true → ListRight s p
  unfolding list_right
  list_right_lem h =
      let a = both_true (eqb (length p.entries % path_entry_words) 0) _ h in
      let each : (k : ℕ) → k < path_count p.entries → Passed k = λ k l. passed k (all_at _ _ a.1 k l) in
      record {
        whole = eqb-true _ _ a.0;
        entry = λ k l.
            let q = each k l in
            let few = q.components in
            record {
              node = node-right s _ q.node;
              once = λ j m d e. by each j k m l d e;
              relative = q.relative;
              components = omega arith;
            };
      }
    where
      by : ((k : ℕ) → k < path_count p.entries → Passed k) → (j k : ℕ) → j < path_count p.entries → k < path_count p.entries → j ≢ k
          → path_origin p.entries j ≢ path_origin p.entries k
      by each j k m l d e =
          elim (dec_lt j k) [
            | yes x ↦ (each k l).new j x e
            | no x ↦ (each j m).new k (omega arith) (sym e)
          ]

  pub right-list : ListRight s p → list_right (node_count s) (length p.components / component_words) p.entries ≡ true
  unfolding list_right path_right new_origin
  right-list r = rw (eq-eqb (length p.entries % path_entry_words) 0 r.whole) (all_of_lem (path_count p.entries) entry_right right)
    where
      new : (k : ℕ) → k < path_count p.entries → new_origin p.entries k ≡ true
      new k l =
          all_of_lem k _
          (λ j m. rw (ne_eqb (path_origin p.entries j) (path_origin p.entries k) ((r.entry k l).once j (omega arith) (λ e. omega arith))))

      right : (k : ℕ) → k < path_count p.entries → entry_right k ≡ true
      right k l =
          let q = r.entry k l in
          let few = q.components in
          rw (
            right-node s (path_origin p.entries k) q.node,
            new k l,
            le-leb (path_word p.entries k 1) 1 q.relative,
            le-leb (path_word p.entries k 2 + path_word p.entries k 3) (length p.components / component_words) (omega arith),
          )

-- ---- who may follow a path

module _ (s : Sections) (i : ℕ) where
  pub may_right : may_follow (node_in s i) ≡ true → MayFollow s i
  unfolding may_follow
  may_right h = by _ _ _ _ refl refl refl refl h
    where
      by : (a b c d : Bool) → a ≡ eqb (tag_of s i) choice_tag → b ≡ plain_divert (node_in s i) → c ≡ eqb (tag_of s i) target_tag → d ≡ eqb (tag_of s i) reference_tag
          → (a || b || c || d) ≡ true → MayFollow s i
      by true b c d x y z w h = inl (eqb-true (tag_of s i) choice_tag (sym x))
      by false true c d x y z w h =
          let q = both_true (eqb (tag_of s i) divert_tag && not (external (node_in s i))) (absent (f s i 3) (f s i 4)) (sym y) in
          let t = both_true (eqb (tag_of s i) divert_tag) (not (external (node_in s i))) q.0 in
          let v = both_true (is_none (f s i 3)) (is_none (f s i 4)) q.1 in
          inr
          (inl
          (record {
            divert = eqb-true (tag_of s i) divert_tag t.0;
            not-external = not-true (external (node_in s i)) t.1;
            no_variable = (eqb-true (f s i 3) NONE v.0, eqb-true (f s i 4) NONE v.1);
          }))
      by false false true d x y z w h = inr (inr (inl (eqb-true (tag_of s i) target_tag (sym z))))
      by false false false true x y z w h = inr (inr (inr (eqb-true (tag_of s i) reference_tag (sym w))))
      by false false false false x y z w h = absurd (true≢false (sym h))

  pub right_may : MayFollow s i → may_follow (node_in s i) ≡ true
  unfolding may_follow
  right_may (inl e) = rw e
  right_may (inr (inl d)) =
      rw (
        d.divert,
        d.not-external,
        eq-eqb (f s i 3) NONE d.no_variable.0,
        eq-eqb (f s i 4) NONE d.no_variable.1,
      )
  right_may (inr (inr (inl e))) = rw e
  right_may (inr (inr (inr e))) = rw e

-- ---- the entry of a node that follows a path

module _ (s : Sections) (p : PathList) (i : ℕ) where
  pub record Follower : Type 0 where
    pub entry : ℕ
    pub follows : Follows s p i entry

  pub follower : follows s p.entries i ≡ true → Follower
  unfolding path_of
  follower h =
      let b = both_true (listed p.entries i) (may_follow (node_in s i)) h in
      by (path_of p.entries i) refl b.0 (may_right s i b.1)
    where
      by : (x : Option ℕ) → path_of p.entries i ≡ x → is_some x ≡ true → MayFollow s i → Follower
      by None e h m = absurd (true≢false (sym h))
      by (Some k) e h m =
          let l = last_some (λ (j : ℕ). eqb (path_origin p.entries j) i) (path_count p.entries) k e in
          record { entry = k; follows = record { listed = l.below; origin = eqb-true _ _ l.passes; may = m } }

  -- of a list that is right it is the one
  pub entry_of : ListRight s p → (k : ℕ) → Follows s p i k → path_of p.entries i ≡ Some k
  unfolding path_of
  entry_of r k g = by (path_of p.entries i) refl
    where
      by : (x : Option ℕ) → path_of p.entries i ≡ x → x ≡ Some k
      by None e =
          absurd
          (true≢false
          (sym (eq-eqb (path_origin p.entries k) i g.origin) ∙ last_none (λ (j : ℕ). eqb (path_origin p.entries j) i) (path_count p.entries) k e g.listed))
      by (Some d) e =
          let l = last_some (λ (j : ℕ). eqb (path_origin p.entries j) i) (path_count p.entries) d e in
          elim (ℕ_discrete d k) [
            | yes q ↦ ap Some q
            | no q ↦ absurd ((r.entry k g.listed).once d l.below q (eqb-true _ _ l.passes ∙ sym g.origin))
          ]

  pub right-follows : ListRight s p → (k : ℕ) → Follows s p i k → follows s p.entries i ≡ true
  right-follows r k g = rw (entry_of r k g, right_may s i g.may)

-- ---- who needs a container

module _ (s : Sections) (p : PathList) (i k : ℕ) where
  pub ends-right : ends_in_index p k ≡ true → EndsInIndex p k
  unfolding ends_in_index last_is_index
  ends-right h =
      let b = both_true (ltb 0 (path_word p.entries k 3)) _ h in
      record { some = ltb-true _ _ b.0; last = eqb-true _ _ b.1 }

  pub right-ends : EndsInIndex p k → ends_in_index p k ≡ true
  unfolding ends_in_index last_is_index
  right-ends e = rw (lt-ltb 0 (path_word p.entries k 3) e.some, eq-eqb _ _ e.last)

  pub due_right : needs_container (tag_of s i) (ends_in_index p k) ≡ true → ContainerDue s p i k
  unfolding needs_container
  due_right h = by _ _ _ refl refl refl h
    where
      by : (a b c : Bool) → a ≡ eqb (tag_of s i) choice_tag → b ≡ eqb (tag_of s i) reference_tag → c ≡ (eqb (tag_of s i) divert_tag && not (ends_in_index p k))
          → (a || b || c) ≡ true → ContainerDue s p i k
      by true b c x y z h = inl (eqb-true (tag_of s i) choice_tag (sym x))
      by false true c x y z h = inr (inl (eqb-true (tag_of s i) reference_tag (sym y)))
      by false false true x y z h =
          let q = both_true (eqb (tag_of s i) divert_tag) (not (ends_in_index p k)) (sym z) in
          inr (inr (eqb-true (tag_of s i) divert_tag q.0, λ e. true≢false (sym (right-ends e) ∙ not-true (ends_in_index p k) q.1)))
      by false false false x y z h = absurd (true≢false (sym h))

  pub right_due : ContainerDue s p i k → needs_container (tag_of s i) (ends_in_index p k) ≡ true
  unfolding needs_container
  right_due (inl e) = rw e
  right_due (inr (inl e)) = rw e
  right_due (inr (inr d)) = rw (d.0, not-true-false (ends_in_index p k) (λ e. d.1 (ends-right e)))
