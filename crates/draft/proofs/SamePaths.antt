-- Two drafts that differ in their nodes alone, and there in no word of the tree, keep row 22 alike where every parent is a container.
use Prim.Native.Nat.{ℕ, zero, suc, ◌<◌}
use mathlib.Core.Path.{◌≡◌, refl, ap, ◌∙◌}
use mathlib.Core.List.{List, []}
use mathlib.Core.Bool.{Bool, true, false, cond, ◌||◌, not}
use native.Mathlib.Omega.{arith}
use native.Mathlib.Decide.{ℕ_discrete}
use lib.Dec.{eqb}
use borrow.Author.Tests.{eq-eqb, eqb-true}
use Rattle.laws.specs.Refusal.{unless, ◌▸◌, first_of}
use Rattle.laws.proofs.Members.{all_ext}
use Rattle.texts.specs.Text.{same}
use Rattle.image.specs.Refusals.{draft_paths}
use Rattle.image.specs.Sections.{Sections, node_count, parent_of, tag_of, f, is_container}
use Rattle.image.specs.Tags.{container_tag}
use Rattle.index.specs.Paths.{nameless, piece_of, piece, joined_by_dot, path_from, canonical_path, name_or_place_by}
use Rattle.draft.specs.Source.{with_nodes}
use Rattle.draft.specs.Draft.{placed, new_path, path_rule, paths_rule}
use Rattle.draft.proofs.SameTree.{SameTree, same_box}

first_ext : (n : ℕ) (a b : ℕ → ℕ) → ((i : ℕ) → i < n → a i ≡ b i) → first_of n a ≡ first_of n b
unfolding first_of
first_ext zero a b h = refl
first_ext (suc n) a b h = λ t. first_ext n a b (λ i l. h i (omega arith)) t ▸ h n (omega arith) t

-- paths of containers are the same, where every parent is a container
module _ (s : Sections) (ws : List ℕ) (a : SameTree s ws) (up : (i : ℕ) → i < node_count s → 0 < i → (parent_of s i < node_count s) × (tag_of s (parent_of s i) ≡ container_tag)) where
  abbrev r : Sections
  r = with_nodes s ws

  module _ (i : ℕ) (e : tag_of s i ≡ container_tag) where
    name_at_lem : f r i 0 ≡ f s i 0
    name_at_lem = a.boxes i 0 e (omega arith)

    name_len : f r i 1 ≡ f s i 1
    name_len = a.boxes i 1 e (omega arith)

  same_from : (n i : ℕ) → i < node_count s → tag_of s i ≡ container_tag → path_from n r i ≡ path_from n s i
  unfolding path_from piece
  same_from zero i h e = refl
  same_from (suc n) i h e = by (ℕ_discrete i 0) (λ j. same_from n j)
    where
      by : Dec (i ≡ 0) → ((j : ℕ) → j < node_count s → tag_of s j ≡ container_tag → path_from n r j ≡ path_from n s j)
          → path_from (suc n) r i ≡ path_from (suc n) s i
      by (yes z) next = rw (eq-eqb i 0 z)
      by (no d) next =
          let above = up i h (omega arith) in
          let front : path_from n r (parent_of r i) ≡ path_from n s (parent_of s i) = ap (path_from n r) (a.parents i) ∙ next (parent_of s i) above.0 above.1 in
          λ t. cond (eqb i 0) [] (joined_by_dot (a.parents i t) (front t) (piece_of s.strings (a.places i t) (name_at_lem i e t) (name_len i e t)))

  same-path : (i : ℕ) → i < node_count s → tag_of s i ≡ container_tag → canonical_path r i ≡ canonical_path s i
  same-path i h e = ap (λ (n : ℕ). path_from n r i) a.count ∙ same_from (node_count s) i h e

  -- a test of containers alone
  of_boxes : (i : ℕ) (x y : Bool) → (tag_of s i ≡ container_tag → x ≡ y) → (not (is_container r i) || x) ≡ (not (is_container s i) || y)
  of_boxes i x y h = ap (λ (b : Bool). not b || x) (same_box s ws a i) ∙ by (is_container s i) refl
    where
      by : (b : Bool) → is_container s i ≡ b → (not b || x) ≡ (not b || y)
      by true e = h (eqb-true (tag_of s i) container_tag e)
      by false e = refl

  same_new : (i : ℕ) → i < node_count s → new_path r i ≡ new_path s i
  unfolding new_path
  same_new i h =
      of_boxes i _ _ (λ e. all_ext i _ _ (λ j l. of_boxes j _ _ (λ c t. not (same (same-path j (omega arith) c t) (same-path i h e t)))))

  same-placed : (i : ℕ) → placed r i ≡ placed s i
  unfolding placed nameless
  same-placed i = by (is_container s i) refl
    where
      by : (b : Bool) → is_container s i ≡ b → placed r i ≡ placed s i
      by true e =
          let q = eqb-true (tag_of s i) container_tag e in
          λ t. not (eqb (a.tags i t) container_tag) || eqb i 0 || name_or_place_by (a.places i t) (name_at_lem i q t) (name_len i q t)
      by false e = rw (e, same_box s ws a i ∙ e)

  pub same-paths : paths_rule r ≡ paths_rule s
  unfolding paths_rule path_rule
  same-paths =
      ap (λ (n : ℕ). first_of n (path_rule r)) a.count
      ∙ first_ext (node_count s) (path_rule r) (path_rule s)
      (λ i h t. unless (same-placed i t) draft_paths ▸ unless (same_new i h t) draft_paths)
