-- The decision over the tag's number answers what the record's kind shows.
use Rattle.std.specs.Prelude.{None, Option, Some, ℕ}
use Prim.Native.Nat.{ℕ, ◌≤◌, ◌<◌}
use mathlib.Core.Path.{◌≡◌, refl, sym, ap, ◌∙◌}
use mathlib.Core.Logic.{◌⊎◌, inl, inr, ⊎_elim}
use mathlib.Core.List.{List}
use native.Mathlib.Omega.{arith}
use native.Mathlib.Nat.{eq-or-lt_of_le}
use lib.ListN.{length}
use Rattle.image.specs.declared.NodeRecord.{NodeRecord}
use Rattle.laws.proofs.Flags.{up}
use Rattle.records.specs.Fields.{kinds, kind_of}
use Rattle.records.proofs.ByKind.{past-kinds}
use borrow.Author.Tests.{ne_eqb}
use Rattle.views.specs.declared.Span.{Span}
use Rattle.views.specs.declared.NodeKindView.TheVariants as kind
use Rattle.views.specs.View.{span, shown, optional_text, optional_word, with_text, kind_view}
use Rattle.views.specs.Shown.{container_view, divert_view, command_view, operator_view, list_view, with_name, text_kind}
use Rattle.views.proofs.Reading.{missing, there}
use Rattle.views.specs.declared.NodeKindView.{NodeKindView}

-- the answer at a tag that is known
pub at_tag : (strings : List ℕ) (payload : ℕ) (r : NodeRecord) (k : ℕ) → r.tag ≡ k → (a : Option NodeKindView) → a ≡ kind_view strings payload r (kind_of k)
    → a ≡ kind_view strings payload r (kind_of r.tag)
at_tag strings payload r k e a h = h ∙ ap (λ (t : ℕ). kind_view strings payload r (kind_of t)) (sym e)

module _ (strings : List ℕ) (payload : ℕ) (r : NodeRecord) (a : Option NodeKindView) where
  abbrev Right : ℕ → Type 0
  Right t = a ≡ kind_view strings payload r (kind_of t)

  pub at_container : r.tag ≡ 1 → a ≡ container_view (length strings) r → Right r.tag
  unfolding kind_view kinds container_view
  at_container e h = at_tag strings payload r 1 e a h

  pub at_divert : r.tag ≡ 4 → a ≡ divert_view (length strings) r → Right r.tag
  unfolding kind_view kinds divert_view
  at_divert e h = at_tag strings payload r 4 e a h

  pub at_list_lem : r.tag ≡ 12 → a ≡ list_view payload r.f0 r.f1 → Right r.tag
  unfolding kind_view kinds list_view
  at_list_lem e h = at_tag strings payload r 12 e a h

  -- a kind that is made of a text
  text_at_lem : (k : ℕ) → a ≡ text_kind r.tag strings r → text_kind k strings r ≡ kind_view strings payload r (kind_of k) → r.tag ≡ k → Right r.tag
  text_at_lem k h q e = at_tag strings payload r k e a (h ∙ ap (λ (t : ℕ). text_kind t strings r) e ∙ q)

  pub at_text : a ≡ text_kind r.tag strings r → (r.tag ≡ 3) ⊎ ((r.tag ≡ 11) ⊎ (r.tag ≡ 13)) → Right r.tag
  unfolding kind_view kinds text_kind with_name command_view operator_view
  at_text h (inl e) = text_at_lem 3 h refl e
  at_text h (inr (inl e)) = text_at_lem 11 h refl e
  at_text h (inr (inr e)) = text_at_lem 13 h refl e

  pub at_pointer : a ≡ text_kind r.tag strings r → r.tag ≡ 14 → Right r.tag
  unfolding kind_view kinds text_kind with_name
  at_pointer h e = text_at_lem 14 h refl e

  pub at_six : a ≡ text_kind r.tag strings r → 6 ≤ r.tag → r.tag < 8 → Right r.tag
  unfolding kind_view kinds text_kind with_name command_view operator_view
  at_six h l m = ⊎_elim (λ e. text_at_lem 6 h refl (sym e)) (λ k. text_at_lem 7 h refl (omega arith)) (eq-or-lt_of_le l)

  pub at_sixteen : a ≡ text_kind r.tag strings r → 16 ≤ r.tag → r.tag < 18 → Right r.tag
  unfolding kind_view kinds text_kind with_name command_view operator_view
  at_sixteen h l m = ⊎_elim (λ e. text_at_lem 16 h refl (sym e)) (λ k. text_at_lem 17 h refl (omega arith)) (eq-or-lt_of_le l)

-- a tag of no kind
pub at_unknown : (strings : List ℕ) (payload : ℕ) (r : NodeRecord) → (r.tag ≡ 0) ⊎ ((r.tag ≡ 15) ⊎ (19 ≤ r.tag))
    → None ≡ kind_view strings payload r (kind_of r.tag)
unfolding kind_view kinds
at_unknown strings payload r (inl e) = at_tag strings payload r 0 e None refl
at_unknown strings payload r (inr (inl e)) = at_tag strings payload r 15 e None refl
at_unknown strings payload r (inr (inr l)) = ap (kind_view strings payload r) (sym (past-kinds r.tag l))

-- ---- tags in the decision's ranges

-- the tag is none of the single ones
abbrev pub Rest : ℕ → Type 0
Rest t =
    (((((((((((Unit {0} × (t ≡ 1 → ⊥)) × (t ≡ 2 → ⊥)) × (t ≡ 4 → ⊥)) × (t ≡ 5 → ⊥)) × ((t ≡ 3) ⊎ ((t ≡ 11) ⊎ (t ≡ 13)) → ⊥)) × (t ≡ 8 → ⊥))
    × (t ≡ 9 → ⊥)) × (t ≡ 10 → ⊥)) × (t ≡ 12 → ⊥)) × (t ≡ 14 → ⊥)) × (t ≡ 18 → ⊥))

pub from_six : (t : ℕ) → Rest t → 1 ≤ t → 6 ≤ t
from_six t r h =
    let three : 3 ≤ t = up 2 t (up 1 t h r.0.0.0.0.0.0.0.0.0.0.1) r.0.0.0.0.0.0.0.0.0.1 in
    let five : 5 ≤ t = up 4 t (up 3 t three (λ e. r.0.0.0.0.0.0.1 (inl e))) r.0.0.0.0.0.0.0.0.1 in
    up 5 t five r.0.0.0.0.0.0.0.1

pub fifteen : (t : ℕ) → Rest t → 8 ≤ t → t < 16 → t ≡ 15
fifteen t r h l =
    let ten : 10 ≤ t = up 9 t (up 8 t h r.0.0.0.0.0.1) r.0.0.0.0.1 in
    let twelve : 12 ≤ t = up 11 t (up 10 t ten r.0.0.0.1) (λ e. r.0.0.0.0.0.0.1 (inr (inl e))) in
    let fourteen : 14 ≤ t = up 13 t (up 12 t twelve r.0.0.1) (λ e. r.0.0.0.0.0.0.1 (inr (inr e))) in
    let last : 15 ≤ t = up 14 t fourteen r.0.1 in
    omega arith

pub from_nineteen : (t : ℕ) → Rest t → 18 ≤ t → 19 ≤ t
from_nineteen t r h = up 18 t h r.1

text-apart : (x : Span) → Some x ≡ None → ⊥
text-apart x h = let z : ◌≡◌ {A = ℕ} 0 1 = cc in omega arith

text-equal : (x y : Span) → Some x ≡ Some y → x ≡ y
text-equal x y h = cc

-- ---- a kind that is made of a text

-- by the tag, the text being there
pub name_at_lem : (strings : List ℕ) (r : NodeRecord) (t : Span) (k : ℕ) → r.tag ≡ k → (a : Option NodeKindView) → a ≡ with_name k strings r t
    → a ≡ with_name r.tag strings r t
name_at_lem strings r t k e a h = h ∙ ap (λ (x : ℕ). with_name x strings r t) (sym e)

-- by the text
module _ (strings : List ℕ) (r : NodeRecord) (a : Option NodeKindView) where
  module _ (o : Option Span) (e : o ≡ optional_text (length strings) r.f0 r.f1) where
    pub text-absent : o ≡ None → a ≡ None → a ≡ text_kind r.tag strings r
    unfolding text_kind with_text optional_text
    text-absent h q =
        rw (missing Some None text-apart text-equal (shown (length strings) r.f0 r.f1) (span r.f0 r.f1) o e h) q

    pub text-present : (t : Span) → o ≡ Some t → a ≡ with_name r.tag strings r t → a ≡ text_kind r.tag strings r
    unfolding text_kind with_text optional_text
    text-present t h q =
        let known = there Some None text-apart text-equal (shown (length strings) r.f0 r.f1) (span r.f0 r.f1) t o e h in
        rw known.0 (q ∙ ap (with_name r.tag strings r) known.1)

-- the tag is none of those before
pub name-other : (strings : List ℕ) (r : NodeRecord) (t : Span) (n : ℕ) → (n ≡ 3 → ⊥) → (n ≡ 6 → ⊥) → (n ≡ 7 → ⊥) → (n ≡ 11 → ⊥) → (n ≡ 13 → ⊥)
    → (n ≡ 14 → ⊥) → (n ≡ 16 → ⊥) → (w : Option ℕ) → w ≡ optional_word r.f4 → Some (kind.VariableReference t w) ≡ with_name n strings r t
unfolding with_name
name-other strings r t n a b c d e f g w q =
    rw (ne_eqb n 3 a, ne_eqb n 6 b, ne_eqb n 7 c, ne_eqb n 11 d, ne_eqb n 13 e, ne_eqb n 14 f, ne_eqb n 16 g, q)
