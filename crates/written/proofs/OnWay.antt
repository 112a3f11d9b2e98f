-- No nameless container of place NONE, the root excepted, is a written container or on the way to it: rule 22 has it of the draft's.
use Prim.Native.Nat.{ℕ, zero, suc, ◌<◌}
use mathlib.Core.Path.{◌≡◌, refl, sym, ap, ◌∙◌, subst}
use mathlib.Core.List.{List}
use mathlib.Core.Bool.{Bool, true, false, cond, ◌&&◌}
use lib.Dec.{eqb}
use borrow.Author.Tests.{eqb-false, ne_eqb}
use Rattle.laws.proofs.Flags.{both_true}
use Rattle.laws.proofs.Members.{and-true}
use Rattle.image.specs.Sections.{Sections, node_count, parent_of, inside, is_container}
use Rattle.index.specs.Paths.{name_or_place, name_or_place_from, name_or_place_on_way}
use Rattle.draft.specs.Draft.{placed}
use Rattle.draft.specs.Numbering.{old_of}
use Rattle.draft_image.proofs.Blocks.{w}
use Rattle.written.proofs.Fields.{Given, old_in, old_new, new_in, zero_old}
use Rattle.written.proofs.Rules.{parent-draft, parent_lt, parent_new}
use Rattle.written.proofs.Paths.{name_or_place-same}

module _ {s : Sections} {order : List ℕ} {kept : List (List ℕ)} (g : Given s order kept) where
  abbrev v : Sections
  v = w s order kept

  -- a container of the draft
  draft-name_or_place : (i : ℕ) → i < node_count s → is_container s i ≡ true → (i ≡ 0 → ⊥) → name_or_place s i ≡ true
  unfolding placed
  draft-name_or_place i h c d = rw (c, ne_eqb i 0 d) at (g.taken.places i h)

  written_from : (n j : ℕ) → j < node_count s → is_container s (old_of order j) ≡ true → name_or_place_from n v j ≡ true
  unfolding name_or_place_from
  written_from zero j h c = refl
  written_from (suc n) j h c = go (eqb j 0) refl (written_from n (parent_of v j))
    where
      i : ℕ
      i = old_of order j

      go : (b : Bool) → eqb j 0 ≡ b → (parent_of v j < node_count s → is_container s (old_of order (parent_of v j)) ≡ true → name_or_place_from n v (parent_of v j) ≡ true)
          → cond b true (name_or_place v j && name_or_place_from n v (parent_of v j)) ≡ true
      go true e r = refl
      go false e r =
          let d : i ≡ 0 → ⊥ = λ z. eqb-false j 0 e (zero_old g j h z) in
          let k = old_in g j h in
          let low = parent_lt g i k d in
          let up = parent_new g j h d in
          let back : old_of order (parent_of v j) ≡ parent_of s i = ap (old_of order) up ∙ old_new g (parent_of s i) low in
          let box = (both_true (inside s (parent_of s i)) (is_container s (parent_of s i)) (parent-draft g i k d).0).1 in
          and-true (name_or_place v j) (name_or_place_from n v (parent_of v j)) (name_or_place-same g j h c ∙ draft-name_or_place i k c d)
          (r (subst (λ (m : ℕ). m < node_count s) (sym up) (new_in g (parent_of s i) low)) (ap (is_container s) back ∙ box))

  pub written_way : (j : ℕ) → j < node_count s → is_container s (old_of order j) ≡ true → name_or_place_on_way v j ≡ true
  written_way j h c = written_from (node_count v) j h c
