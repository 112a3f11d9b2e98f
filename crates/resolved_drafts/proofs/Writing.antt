-- What the writer answers for a resolved draft, and an empty list.
use Prim.Native.Nat.{ℕ, zero, suc}
use mathlib.Core.Path.{◌≡◌, refl, sym, ap, ◌∙◌, subst}
use mathlib.Core.Logic.{◌≢◌, ◌⊎◌, inl, inr}
use mathlib.Core.List.{List, []}
use mathlib.Core.Bool.{Bool, true, false, ◌&&◌}
use native.Mathlib.Omega.{arith}
use lib.ListN.{length}
use lib.Dec.{leb}
use borrow.Author.Tests.{eqb-true, le-leb}
use Rattle.laws.specs.Refusal.{unless, ◌▸◌, first_of}
use Rattle.laws.specs.Counted.{all_of, last_of}
use Rattle.laws.proofs.First.{second, pass, first_of_lem}
use Rattle.words.specs.Words.{NONE}
use Rattle.image.specs.Header.{ink_right}
use Rattle.image.specs.Refusals.{bad_ink_version, too_few_words, draft_paths, no_room}
use Rattle.image.specs.Sections.{Sections, node_count}
use Rattle.records.proofs.PassedRules.{parent}
use Rattle.draft.specs.Draft.{tables_rule, write_words, reach_rule, shape_rule, placed, new_path, path_rule, paths_rule}
use Rattle.draft.specs.PathList.{path_of, list_right, follows, path_tables_rule}
use Rattle.draft.specs.Source.{with_nodes}
use Rattle.draft.proofs.Rules.{shape}
use Rattle.draft.proofs.PathTables.{no_paths_lem}
use Rattle.draft_image.specs.Encode.{image_for, draft_rule, encode_rule}
use Rattle.target_finding.specs.Targets.{PathList, path_list_rule, target_rule, resolve_rule, resolved_nodes, resolved}
use Rattle.resolved_drafts.specs.Resolved.{ResolvedPaths, ResolvedWrites, ResolvedRefusals, ResolvedWords, no_paths, EmptyList, EmptyKeeps, EmptyUnchanged}
use Rattle.draft.proofs.SamePaths.{same-paths}
use Rattle.resolved_drafts.proofs.Reading.{kept, same-tree, unchanged}
use Rattle.resolved_drafts.proofs.Rules.{taken, resolved-passes}

-- ---- 22

pub resolved-paths : ResolvedPaths
resolved-paths ink s p work h =
    let q = taken ink s p work h in
    same-paths s (resolved_nodes s p) (same-tree s p q.whole)
    (λ i l k. let u = parent s i k ((shape s q.shape).parents i l) in (u.node.below, eqb-true _ _ u.container))

-- ---- what the writer answers

pub resolved_writes : ResolvedWrites
unfolding encode_rule draft_rule
resolved_writes ink s p work h ink' work' room v =
    let q = resolved-passes ink s p work h in
    let last : (reach_rule (resolved s p) ▸ shape_rule (resolved s p) ▸ paths_rule (resolved s p)) ≡ paths_rule s = second _ _ q.reach ∙ second _ _ q.shape ∙ resolved-paths ink s p work h in
    ap (λ (x : ℕ). x ▸ unless (leb (length (image_for ink' (resolved s p))) room && leb (length (image_for ink' (resolved s p))) NONE) no_room)
    (second _ _ (pass _ 3 v) ∙ second _ _ q.tables ∙ (λ t. unless (leb ((kept s p).words t) work') too_few_words ▸ last t))

-- a rule that refuses with one number alone
abbrev Either : ℕ → ℕ → Type 0
Either k x = (x ≡ 0) ⊎ (x ≡ k)

either-unless : (b : Bool) (k : ℕ) → Either k (unless b k)
unfolding unless
either-unless true k = inl refl
either-unless false k = inr refl

either-both : (k a b : ℕ) → Either k a → Either k b → Either k (a ▸ b)
unfolding ◌▸◌
either-both k zero b x y = y
either-both k (suc a) b x y = x

either_first : (k n : ℕ) (g : ℕ → ℕ) → ((i : ℕ) → Either k (g i)) → Either k (first_of n g)
unfolding first_of
either_first k zero g h = inl refl
either_first k (suc n) g h = either-both k (first_of n g) (g n) (either_first k n g h) (h n)

either-paths : (s : Sections) → Either draft_paths (paths_rule s)
unfolding paths_rule path_rule
either-paths s =
    either_first draft_paths (node_count s) (path_rule s)
    (λ i. either-both draft_paths _ _ (either-unless (placed s i) draft_paths) (either-unless (new_path s i) draft_paths))

-- the writer's answer, by the three rules
answer : (a b c : ℕ) → Either too_few_words a → Either draft_paths b → Either no_room c
    → (((a ▸ b) ▸ c) ≡ 0) ⊎ (((a ▸ b) ▸ c) ≡ too_few_words) ⊎ (((a ▸ b) ▸ c) ≡ draft_paths) ⊎ (((a ▸ b) ▸ c) ≡ no_room)
unfolding ◌▸◌
answer a b c (inr x) y z = inr (inl (rw x refl))
answer a b c (inl x) (inr y) z = inr (inr (inl (rw (x, y) refl)))
answer a b c (inl x) (inl y) (inr z) = inr (inr (inr (rw (x, y, z) refl)))
answer a b c (inl x) (inl y) (inl z) = inl (rw (x, y, z) refl)

pub resolved-refusals : ResolvedRefusals
resolved-refusals ink s p work h ink' work' room v =
    subst (λ (x : ℕ). (x ≡ 0) ⊎ (x ≡ too_few_words) ⊎ (x ≡ draft_paths) ⊎ (x ≡ no_room)) (sym (resolved_writes ink s p work h ink' work' room v))
    (answer _ _ _ (either-unless _ too_few_words) (either-paths s) (either-unless _ no_room))

not_few : (a b c : ℕ) → a ≡ 0 → Either draft_paths b → Either no_room c → ((a ▸ b) ▸ c) ≢ too_few_words
unfolding ◌▸◌
not_few a b c x (inr y) z e = let q : ◌≡◌ {A = ℕ} draft_paths too_few_words = rw (x, y) at e in omega arith
not_few a b c x (inl y) (inr z) e = let q : ◌≡◌ {A = ℕ} no_room too_few_words = rw (x, y, z) at e in omega arith
not_few a b c x (inl y) (inl z) e = let q : ◌≡◌ {A = ℕ} 0 too_few_words = rw (x, y, z) at e in omega arith

pub resolved-words : ResolvedWords
resolved-words ink s p work h work' room l e =
    let q = taken ink s p work h in
    not_few (unless (leb (write_words s) work') too_few_words) (paths_rule s) _ (pass _ 7 (le-leb (write_words s) work' (omega (arith, q.enough)))) (either-paths s) (either-unless _ no_room)
    (sym (resolved_writes ink s p work h ink work' room q.versions) ∙ e)

-- ---- an empty list

regroup : (a b c : ℕ) → ((a ▸ b) ▸ c) ≡ (a ▸ b ▸ c)
unfolding ◌▸◌
regroup zero b c = refl
regroup (suc a) b c = refl

module _ (s : Sections) (components names : List ℕ) where
  abbrev none : PathList
  none = no_paths components names

  list-passes : path_list_rule s none ≡ 0
  unfolding path_list_rule list_right all_of unless
  list-passes = refl

  none-follows : (i : ℕ) → follows s [] i ≡ false
  unfolding path_of last_of
  none-follows i = refl

  no_targets : first_of (node_count s) (target_rule s none) ≡ 0
  unfolding target_rule
  no_targets = first_of_lem (node_count s) (target_rule s none) (λ i h. rw (none-follows i))

pub empty-list : EmptyList
unfolding draft_rule resolve_rule
empty-list ink s components names work =
    let p = no_paths components names in
    let a = unless (ink_right ink) bad_ink_version in
    let w = unless (leb (write_words s) work) too_few_words in
    let l = path_list_rule s p in
    let t = path_tables_rule s [] in
    let x = reach_rule s in
    let y = shape_rule s in
    let z = first_of (node_count s) (target_rule s p) in
    let v = paths_rule s in
    sym
    (regroup a _ v
    ∙ ap (λ (n : ℕ). a ▸ n)
    (regroup l _ v ∙ second l _ (list-passes s components names)
    ∙ regroup t _ v
    ∙ (λ j. no_paths_lem s j ▸ ((w ▸ x ▸ y ▸ z) ▸ v))
    ∙ ap (λ (n : ℕ). tables_rule s ▸ n)
    (regroup w _ v ∙ ap (λ (n : ℕ). w ▸ n) (regroup x _ v ∙ ap (λ (n : ℕ). x ▸ n) (regroup y _ v ∙ ap (λ (n : ℕ). y ▸ n) (second z v (no_targets s components names)))))))

pub empty_keeps : EmptyKeeps
empty_keeps s components names whole = unchanged s (no_paths components names) whole (none-follows s components names)

pub empty-unchanged : EmptyUnchanged
empty-unchanged ink s components names work h =
    λ j. with_nodes s (empty_keeps s components names (taken ink s (no_paths components names) work h).whole j)
