-- The record that is written, by the number of the node's tag.
use Prim.Native.Nat.{ℕ, ◌≤◌, ◌<◌}
use mathlib.Core.Path.{◌≡◌, refl, sym, ap, ◌∙◌}
use mathlib.Core.Logic.{◌⊎◌, inl, inr, ⊎_elim}
use mathlib.Core.Bool.{Bool, true, false, ◌||◌, false≢true}
use mathlib.Core.List.{List}
use native.Mathlib.Omega.{arith}
use native.Mathlib.Decide.{dec_lt}
use native.Mathlib.Nat.{eq-or-lt_of_le}
use lib.ListN.{get_or}
use lib.Dec.{eqb}
use borrow.Author.Tests.{ne_eqb}
use Rattle.laws.specs.Refusal.{unless, ◌▸◌, first_of}
use Rattle.laws.proofs.First.{first_all, passed}
use Rattle.words.specs.Words.{NONE}
use Rattle.image.specs.declared.NodeRecord.{NodeRecord}
use Rattle.records.specs.Fields.{Kind, Container, Choice, Command, Divert, Glue, Operator, Tag, BoolValue, IntValue, FloatValue, StringValue, ListValue, TargetValue, PointerValue, Assignment, Reference, Void, Unknown, kinds, kind_of}
use Rattle.records.proofs.ByKind.{past-kinds}
use Rattle.write_numbering.specs.Numbers.{new_in}
use Rattle.write_tree_sections.specs.declared.kinds.Starts.{Starts}
use Rattle.write_tree_sections.specs.Encoded.{fielded, blank_of, record_by_kind}

-- kinds without fields
unfoldable is_blank : Kind → Bool
is_blank Glue = true
is_blank Void = true
is_blank Unknown = true
is_blank Container = false
is_blank Choice = false
is_blank Command = false
is_blank Divert = false
is_blank Operator = false
is_blank Tag = false
is_blank BoolValue = false
is_blank IntValue = false
is_blank FloatValue = false
is_blank StringValue = false
is_blank ListValue = false
is_blank TargetValue = false
is_blank PointerValue = false
is_blank Assignment = false
is_blank Reference = false

-- the tag is none of the single ones
abbrev pub Rest : ℕ → Type 0
Rest t =
    ((((((((Unit {0} × (t ≡ 1 → ⊥)) × (t ≡ 2 → ⊥)) × (t ≡ 4 → ⊥)) × ((t ≡ 3) ⊎ (t ≡ 11) → ⊥)) × (t ≡ 12 → ⊥)) × (t ≡ 13 → ⊥)) × ((t ≡ 14) ⊎ (t ≡ 16) → ⊥)) × (t ≡ 17 → ⊥))

unfoldable some_or_blank : ℕ → Bool
some_or_blank t =
    eqb t 1 || (eqb t 2 || (eqb t 4 || (eqb t 3 || (eqb t 6 || (eqb t 7 || (eqb t 11 || (eqb t 8 || (eqb t 9 || (eqb t 10 || (eqb t 12 || (eqb t 13 || (eqb t 14
    || (eqb t 16 || (eqb t 17 || is_blank (kind_of t)))))))))))))))

some_or_blank_lem : first_of 19 (λ t. unless (some_or_blank t) 1) ≡ 0
unfolding first_of ◌▸◌ unless kinds some_or_blank is_blank
some_or_blank_lem = refl

blank-kind : (t : ℕ) → Rest t → (t < 6) ⊎ (11 ≤ t) → is_blank (kind_of t) ≡ true
blank-kind t o h = side (dec_lt t 19)
  where
    apart : (n : ℕ) → 6 ≤ n → n < 11 → t ≡ n → ⊥
    apart n l m e = ⊎_elim (λ k. omega arith) (λ k. omega arith) h

    below : some_or_blank t ≡ true → is_blank (kind_of t) ≡ true
    below p = unfold some_or_blank in
        rw (
          ne_eqb t 1 o.0.0.0.0.0.0.0.1,
          ne_eqb t 2 o.0.0.0.0.0.0.1,
          ne_eqb t 4 o.0.0.0.0.0.1,
          ne_eqb t 3 (λ e. o.0.0.0.0.1 (inl e)),
          ne_eqb t 6 (apart 6 (omega arith) (omega arith)),
          ne_eqb t 7 (apart 7 (omega arith) (omega arith)),
          ne_eqb t 11 (λ e. o.0.0.0.0.1 (inr e)),
          ne_eqb t 8 (apart 8 (omega arith) (omega arith)),
          ne_eqb t 9 (apart 9 (omega arith) (omega arith)),
          ne_eqb t 10 (apart 10 (omega arith) (omega arith)),
          ne_eqb t 12 o.0.0.0.1,
          ne_eqb t 13 o.0.0.1,
          ne_eqb t 14 (λ e. o.0.1 (inl e)),
          ne_eqb t 16 (λ e. o.0.1 (inr e)),
          ne_eqb t 17 o.1,
        ) at p

    side : Dec (t < 19) → is_blank (kind_of t) ≡ true
    side (yes l) = below (passed (some_or_blank t) 0 (first_all 19 (λ x. unless (some_or_blank x) 1) some_or_blank_lem t l))
    side (no l) = unfold is_blank in ap is_blank (past-kinds t (omega arith))

module _ (w : List ℕ) (new at : ℕ) (st : Starts) (r : NodeRecord) where
  pub by_tag : (t : ℕ) → r.tag ≡ t → record_by_kind w new at st r (kind_of t) ≡ record_by_kind w new at st r (kind_of r.tag)
  by_tag t e = ap (λ (x : ℕ). record_by_kind w new at st r (kind_of x)) (sym e)

  pub at_container : r.tag ≡ 1 → record_by_kind w new at st r Container ≡ record_by_kind w new at st r (kind_of r.tag)
  unfolding kinds
  at_container e = by_tag 1 e

  pub at_choice : r.tag ≡ 2 → record_by_kind w new at st r Choice ≡ record_by_kind w new at st r (kind_of r.tag)
  unfolding kinds
  at_choice e = by_tag 2 e

  pub at_divert : r.tag ≡ 4 → record_by_kind w new at st r Divert ≡ record_by_kind w new at st r (kind_of r.tag)
  unfolding kinds
  at_divert e = by_tag 4 e

  pub at_reference : r.tag ≡ 17 → record_by_kind w new at st r Reference ≡ record_by_kind w new at st r (kind_of r.tag)
  unfolding kinds
  at_reference e = by_tag 17 e

  pub at_text : (r.tag ≡ 3) ⊎ (r.tag ≡ 11) → fielded w new r (get_or w at 0) r.f1 NONE NONE NONE NONE NONE ≡ record_by_kind w new at st r (kind_of r.tag)
  unfolding kinds record_by_kind
  at_text (inl e) = by_tag 3 e
  at_text (inr e) = by_tag 11 e

  pub at_text-range : 6 ≤ r.tag → r.tag < 8 → fielded w new r (get_or w at 0) r.f1 NONE NONE NONE NONE NONE ≡ record_by_kind w new at st r (kind_of r.tag)
  unfolding kinds record_by_kind
  at_text-range l m = ⊎_elim (λ e. by_tag 6 (sym e)) (λ k. by_tag 7 (omega arith)) (eq-or-lt_of_le l)

  pub at_number : 8 ≤ r.tag → r.tag < 11 → fielded w new r r.f0 NONE NONE NONE NONE NONE NONE ≡ record_by_kind w new at st r (kind_of r.tag)
  unfolding kinds record_by_kind
  at_number l m = ⊎_elim (λ e. by_tag 8 (sym e)) (λ k. ⊎_elim (λ e. by_tag 9 (sym e)) (λ q. by_tag 10 (omega arith)) (eq-or-lt_of_le k)) (eq-or-lt_of_le l)

  pub at_list_lem : r.tag ≡ 12 → fielded w new r st.payload r.f1 NONE NONE NONE NONE NONE ≡ record_by_kind w new at st r (kind_of r.tag)
  unfolding kinds record_by_kind
  at_list_lem e = by_tag 12 e

  pub at_target : r.tag ≡ 13 → (x : ℕ) → x ≡ new_in w new r.f2
      → fielded w new r (get_or w at 0) r.f1 x NONE NONE NONE NONE ≡ record_by_kind w new at st r (kind_of r.tag)
  unfolding kinds record_by_kind
  at_target e x q = ap (λ (y : ℕ). fielded w new r (get_or w at 0) r.f1 y NONE NONE NONE NONE) q ∙ by_tag 13 e

  pub at_word : (r.tag ≡ 14) ⊎ (r.tag ≡ 16)
      → fielded w new r (get_or w at 0) r.f1 r.f2 NONE NONE NONE NONE ≡ record_by_kind w new at st r (kind_of r.tag)
  unfolding kinds record_by_kind
  at_word (inl e) = by_tag 14 e
  at_word (inr e) = by_tag 16 e

  blank_by : (k : Kind) → is_blank k ≡ true → blank_of w new r ≡ record_by_kind w new at st r k
  unfolding record_by_kind is_blank
  blank_by Glue e = refl
  blank_by Void e = refl
  blank_by Unknown e = refl
  blank_by Container e = absurd (false≢true e)
  blank_by Choice e = absurd (false≢true e)
  blank_by Command e = absurd (false≢true e)
  blank_by Divert e = absurd (false≢true e)
  blank_by Operator e = absurd (false≢true e)
  blank_by Tag e = absurd (false≢true e)
  blank_by BoolValue e = absurd (false≢true e)
  blank_by IntValue e = absurd (false≢true e)
  blank_by FloatValue e = absurd (false≢true e)
  blank_by StringValue e = absurd (false≢true e)
  blank_by ListValue e = absurd (false≢true e)
  blank_by TargetValue e = absurd (false≢true e)
  blank_by PointerValue e = absurd (false≢true e)
  blank_by Assignment e = absurd (false≢true e)
  blank_by Reference e = absurd (false≢true e)

  pub at_blank : Rest r.tag → (r.tag < 6) ⊎ (11 ≤ r.tag) → blank_of w new r ≡ record_by_kind w new at st r (kind_of r.tag)
  at_blank o h = blank_by (kind_of r.tag) (blank-kind r.tag o h)
