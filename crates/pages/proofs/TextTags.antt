-- The decision over the tag's number has one arm for the kinds that are made of a text: which tags come to it, by the ranges that are tested.
use Prim.Native.Nat.{ℕ, ◌≤◌, ◌<◌}
use mathlib.Core.Path.{◌≡◌, refl}
use mathlib.Core.Logic.{◌⊎◌, inl, inr, ⊎_elim}
use mathlib.Core.List.{List}
use native.Mathlib.Omega.{arith}
use native.Mathlib.Nat.{eq-or-lt_of_le}
use native.Mathlib.Decide.{dec_lt}
use Rattle.laws.proofs.Flags.{up}
use Rattle.image.specs.declared.NodeRecord.{NodeRecord}
use Rattle.records.specs.Fields.{kind_of}
use Rattle.views.specs.View.{kind_view}
use Rattle.views.specs.Shown.{text_kind}
use Rattle.views.proofs.Tags.{at_text, at_pointer, at_six, at_sixteen}

-- the tag is none of the single ones
abbrev pub Rest : ℕ → Type 0
Rest t =
    ((((((((((Unit {0} × (t ≡ 1 → ⊥)) × (t ≡ 2 → ⊥)) × (t ≡ 4 → ⊥)) × (t ≡ 5 → ⊥)) × (t ≡ 8 → ⊥)) × (t ≡ 9 → ⊥)) × (t ≡ 10 → ⊥)) × (t ≡ 12 → ⊥))
    × ((t ≡ 3) ⊎ (t ≡ 11) → ⊥)) × (t ≡ 18 → ⊥))

module _ (t : ℕ) (r : Rest t) where
  six : 1 ≤ t → 6 ≤ t
  six h =
      let three : 3 ≤ t = up 2 t (up 1 t h r.0.0.0.0.0.0.0.0.0.1) r.0.0.0.0.0.0.0.0.1 in
      let five : 5 ≤ t = up 4 t (up 3 t three (λ e. r.0.1 (inl e))) r.0.0.0.0.0.0.0.1 in
      up 5 t five r.0.0.0.0.0.0.1

  thirteen : 8 ≤ t → 13 ≤ t
  thirteen h =
      let eleven : 11 ≤ t = up 10 t (up 9 t (up 8 t h r.0.0.0.0.0.1) r.0.0.0.0.1) r.0.0.0.1 in
      up 12 t (up 11 t eleven (λ e. r.0.1 (inr e))) r.0.0.1

  pub from_nineteen : 18 ≤ t → 19 ≤ t
  from_nineteen h = up 18 t h r.1

module _ (strings : List ℕ) (payload : ℕ) (r : NodeRecord) where
  abbrev Viewed : Type 0
  Viewed = text_kind r.tag strings r ≡ kind_view strings payload r (kind_of r.tag)

  pub text_single : (r.tag ≡ 3) ⊎ (r.tag ≡ 11) → Viewed
  text_single k = at_text strings payload r _ refl (⊎_elim (λ e. inl e) (λ e. inr (inl e)) k)

  pub text-below : Rest r.tag → 1 ≤ r.tag → r.tag < 15 → Viewed
  text-below q h l =
      elim (dec_lt r.tag 8) [
        | yes k ↦ at_six strings payload r _ refl (six r.tag q h) k
        | no k ↦ ⊎_elim (λ e. at_text strings payload r _ refl (inr (inr (omega arith)))) (λ m. at_pointer strings payload r _ refl (omega arith))
            (eq-or-lt_of_le (thirteen r.tag q (omega arith)))
      ]

  pub text-above : 16 ≤ r.tag → r.tag < 18 → Viewed
  text-above h l = at_sixteen strings payload r _ refl h l
