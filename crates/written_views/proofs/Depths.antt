-- The depth of a node of a written image is that of the draft's node.
use Prim.Native.Nat.{ℕ, zero, suc, ◌<◌}
use mathlib.Core.Path.{◌≡◌, refl, sym, ap, ◌∙◌}
use mathlib.Core.List.{List}
use mathlib.Core.Bool.{true}
use native.Mathlib.Omega.{arith}
use native.Mathlib.Decide.{ℕ_discrete}
use Rattle.image.specs.Sections.{Sections, node_count, parent_of, inside}
use Rattle.draft.specs.Numbering.{old_of, new_of}
use Rattle.depth.specs.Depth.{one_more, depth_from, depth_of}
use Rattle.depth.proofs.Steps.{depth-root, depth-above}
use Rattle.promises.proofs.Fields.{right-node}
use Rattle.draft_image.proofs.Blocks.{w}
use Rattle.written.proofs.Fields.{Given, counted, few, old_in, old_zero, zero_old, inside-written, parent-word}
use Rattle.written.proofs.Rules.{parent_lt}
use Rattle.written_views.proofs.Texts.{numbers-same}

module _ {s : Sections} {order : List ℕ} {kept : List (List ℕ)} (g : Given s order kept) where
  abbrev t : Sections
  t = w s order kept

  inside-draft : (i : ℕ) → i < node_count s → inside s i ≡ true
  inside-draft i h = right-node s i (record { below = h; given = λ e. omega (arith, few g) })

  -- of at most so many nodes; a step goes to the parent in both
  from-same : (n j : ℕ) → j < node_count s → depth_from n t j ≡ depth_from n s (old_of order j)
  from-same zero j h = unfold depth_from in refl
  from-same (suc n) j h = by (ℕ_discrete i 0) (from-same n)
    where
      i : ℕ
      i = old_of order j

      by : Dec (i ≡ 0) → ((k : ℕ) → k < node_count s → depth_from n t k ≡ depth_from n s (old_of order k)) → depth_from (suc n) t j ≡ depth_from (suc n) s i
      by (yes z) above = depth-root t n j (inside-written g j h) (zero_old g j h z) ∙ sym (depth-root s n i (inside-draft i (old_in g j h)) z)
      by (no d) above =
          let p = parent_of s i in
          let q = parent_lt g i (old_in g j h) d in
          depth-above t n j (inside-written g j h) (λ e. d (ap (old_of order) e ∙ old_zero g))
          ∙ ap one_more
          (ap (depth_from n t) (parent-word g j h) ∙ above (new_of order p) ((numbers-same g).new_inside p q)
          ∙ ap (depth_from n s) ((numbers-same g).there_and_back p q))
          ∙ sym (depth-above s n i (inside-draft i (old_in g j h)) d)

  pub depth_same : (j : ℕ) → j < node_count s → depth_of t j ≡ depth_of s (old_of order j)
  unfolding depth_of
  depth_same j h = ap (λ (n : ℕ). depth_from n t j) (counted g) ∙ from-same (node_count s) j h
