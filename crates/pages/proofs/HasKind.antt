-- Which records have a kind, by the tag's number.
use Rattle.std.specs.Prelude.{None, Option}
use Prim.Native.Nat.{ℕ, ◌+◌, ◌/◌, ◌≤◌}
use mathlib.Core.Path.{◌≡◌, refl, sym, ap, ◌∙◌}
use mathlib.Core.Logic.{◌⊎◌}
use mathlib.Core.List.{List}
use mathlib.Core.Bool.{Bool, true, false, cond}
use lib.ListN.{length}
use lib.Dec.{leb, eqb}
use Rattle.image.specs.declared.NodeRecord.{NodeRecord}
use Rattle.image.specs.Sections.{text_or_empty}
use Rattle.records.specs.Fields.{kinds, kind_of}
use Rattle.views.specs.View.{span, shown, with_text, kind_view}
use Rattle.views.specs.Shown.{with_name, text_kind}
use Rattle.views.proofs.Tags.{at_unknown}
use Rattle.pages.specs.Viewed.{has_kind, fits_tag, text_fits}
use Rattle.views.specs.declared.NodeKindView.{NodeKindView}

-- a kind that is chosen
kind_if : (b : Bool) (x y : Option NodeKindView) (c : Bool) → has_kind y ≡ c → has_kind (cond b x y) ≡ cond b (has_kind x) c
kind_if true x y c h = refl
kind_if false x y c h = h

either : (b : Bool) (x y : Option NodeKindView) → has_kind x ≡ true → has_kind y ≡ true → has_kind (cond b x y) ≡ true
either true x y h k = h
either false x y h k = k

told_if : (b : Bool) (k : Option NodeKindView) → has_kind k ≡ true → b ≡ has_kind (cond b k None)
told_if true k h = sym h
told_if false k h = refl

module _ (strings : List ℕ) (payload : ℕ) (r : NodeRecord) where
  abbrev Told : Bool → Type 0
  Told b = b ≡ has_kind (kind_view strings payload r (kind_of r.tag))

  -- at a tag that is known
  at : (k : ℕ) → r.tag ≡ k → (b : Bool) → b ≡ has_kind (kind_view strings payload r (kind_of k)) → Told b
  at k e b h = h ∙ ap (λ (t : ℕ). has_kind (kind_view strings payload r (kind_of t))) (sym e)

  -- a kind that every record of its tag has
  pub plain-kind : (k : ℕ) → r.tag ≡ k → has_kind (kind_view strings payload r (kind_of k)) ≡ true → Told true
  plain-kind k e h = at k e true (sym h)

  pub divert-kind : r.tag ≡ 4 → (b : Bool) → b ≡ leb (r.f6 / 8) 2 → Told b
  unfolding kind_view kinds
  divert-kind e b h = at 4 e b (h ∙ told_if (leb (r.f6 / 8) 2) _ refl)

  pub list-kind : r.tag ≡ 12 → (b : Bool) → b ≡ leb (r.f0 + r.f1) payload → Told b
  unfolding kind_view kinds
  list-kind e b h = at 12 e b (h ∙ told_if (leb (r.f0 + r.f1) payload) _ refl)

  pub no_kind : (r.tag ≡ 0) ⊎ ((r.tag ≡ 15) ⊎ (19 ≤ r.tag)) → Told false
  no_kind h = ap has_kind (at_unknown strings payload r h)

  -- of a kind that is made of a text
  named-fits : (t : ℕ) → has_kind (with_name t strings r (span r.f0 r.f1)) ≡ fits_tag t (text_or_empty strings r.f0 r.f1)
  unfolding with_name fits_tag
  named-fits t =
      kind_if (eqb t 3) _ _ _
      (kind_if (eqb t 6) _ _ _
      (either (eqb t 7) _ _ refl
      (either (eqb t 11) _ _ refl (either (eqb t 13) _ _ refl (either (eqb t 14) _ _ refl (either (eqb t 16) _ _ refl refl))))))

  text_has : (t : ℕ) → has_kind (text_kind t strings r) ≡ text_fits t r.f0 r.f1 strings
  unfolding text_kind with_text text_fits
  text_has t = by (shown (length strings) r.f0 r.f1)
    where
      by : (b : Bool) → has_kind (cond b (with_name t strings r (span r.f0 r.f1)) None) ≡ cond b (fits_tag t (text_or_empty strings r.f0 r.f1)) false
      by true = named-fits t
      by false = refl

  pub text-kind : (b : Bool) → b ≡ text_fits r.tag r.f0 r.f1 strings → text_kind r.tag strings r ≡ kind_view strings payload r (kind_of r.tag) → Told b
  text-kind b h e = h ∙ sym (text_has r.tag) ∙ ap has_kind e
