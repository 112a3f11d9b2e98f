-- The place of a list value, by the record of its node.
use Rattle.std.specs.Prelude.{None, Option, Some}
use Prim.Native.Nat.{ℕ, ◌+◌, ◌/◌, ◌≤◌, ◌<◌}
use mathlib.Core.Path.{◌≡◌, refl, sym, ap, ◌∙◌}
use mathlib.Core.List.{List}
use mathlib.Core.Bool.{Bool, true, false, cond, not, true≢false}
use Rattle.std.proofs.lemmas.Option.{same_Some}
use Rattle.std.proofs.lemmas.Option.{none-some}
use native.Mathlib.Omega.{arith}
use native.Mathlib.Decide.{dec_lt}
use lib.ListN.{length}
use lib.Dec.{leb, eqb}
use borrow.Author.Tests.{eq-eqb, ne_eqb, le-leb, lt-leb, leb-true}
use Rattle.laws.specs.Refusal.{first_of, unless, refusals}
use Rattle.names.specs.declared.control_command.CommandType.{CommandType}
use Rattle.names.specs.declared.native_function_call.Op.{Op}
use Rattle.names.specs.ControlCommand.{command_named}
use Rattle.names.specs.NativeFunctionCall.{operator_named}
use Rattle.names.proofs.Numbers.{every}
use Rattle.image.specs.declared.NodeRecord.{NodeRecord}
use Rattle.image.specs.Sections.{Sections, inside, text_or_empty}
use Rattle.image.specs.Entries.{node_in}
use Rattle.records.specs.Fields.{Kind, Container, Choice, Command as Named, Divert, Glue, Operator as Operation, Tag, BoolValue, IntValue, FloatValue, StringValue, ListValue, TargetValue, PointerValue, Assignment, Reference, Void, Unknown, kinds, kind_of}
use Rattle.records.proofs.ByKind.{past-kinds}
use Rattle.views.specs.declared.Span.{Span}
use Rattle.views.specs.declared.ValueView.TheVariants as value
use Rattle.views.specs.declared.NodeKindView.{NodeKindView}
use Rattle.views.specs.declared.NodeKindView.TheVariants as kind
use Rattle.views.specs.View.{span, shown, with_text, of_command, of_operator, kind_view, with_kind, record_view, node_view}
use Rattle.answers.specs.NodeViewWords.{list_of_kind, list_place}
use Rattle.answers.specs.RecordWords.{list_place_in}

-- ---- which kind is a list

abbrev is_list : Kind → Bool
is_list Container = false
is_list Choice = false
is_list Named = false
is_list Divert = false
is_list Glue = false
is_list Operation = false
is_list Tag = false
is_list BoolValue = false
is_list IntValue = false
is_list FloatValue = false
is_list StringValue = false
is_list ListValue = true
is_list TargetValue = false
is_list PointerValue = false
is_list Assignment = false
is_list Reference = false
is_list Void = false
is_list Unknown = false

agree : (a b : Bool) → cond a b (not b) ≡ true → a ≡ b
agree true true e = refl
agree true false e = absurd (true≢false (sym e))
agree false true e = absurd (true≢false (sym e))
agree false false e = refl

tags : first_of 19 (λ t. unless (cond (is_list (kind_of t)) (eqb t 12) (not (eqb t 12))) 1) ≡ 0
unfolding refusals kinds
tags = refl

list_tag_lem : (t : ℕ) → is_list (kind_of t) ≡ eqb t 12
list_tag_lem t =
    elim (dec_lt t 19) [
      | yes h ↦ agree (is_list (kind_of t)) (eqb t 12) (every 19 (λ k. cond (is_list (kind_of k)) (eqb k 12) (not (eqb k 12))) tags t h)
      | no d ↦ ap is_list (past-kinds t (omega arith)) ∙ sym (ne_eqb t 12 (λ e. omega arith))
    ]

-- ---- by kind

abbrev list_of : Option NodeKindView → Option Span
list_of (Some k) = list_of_kind k
list_of None = None

command_none : (o : Option CommandType) → list_of (of_command o) ≡ None
command_none None = refl
command_none (Some c) = refl

operator_none : (o : Option Op) → list_of (of_operator o) ≡ None
operator_none None = refl
operator_none (Some c) = refl

tested-none : (b : Bool) (k : NodeKindView) → list_of_kind k ≡ None → list_of (cond b (Some k) None) ≡ None
tested-none true k h = h
tested-none false k h = refl

module _ (strings : List ℕ) (payload : ℕ) (r : NodeRecord) where
  with_none : (g : Span → Option NodeKindView) → ((t : Span) → list_of (g t) ≡ None) → list_of (with_text strings r g) ≡ None
  unfolding with_text
  with_none g h = by (shown (length strings) r.f0 r.f1)
    where
      by : (b : Bool) → list_of (cond b (g (span r.f0 r.f1)) None) ≡ None
      by true = h (span r.f0 r.f1)
      by false = refl

  abbrev place : Option Span
  place = cond (leb (r.f0 + r.f1) payload) (Some (span r.f0 r.f1)) None

  kind-place : (k : Kind) → list_of (kind_view strings payload r k) ≡ cond (is_list k) place None
  unfolding kind_view
  kind-place Container = refl
  kind-place Choice = refl
  kind-place Named = with_none _ (λ t. command_none (command_named (text_or_empty strings t.offset t.len)))
  kind-place Divert = tested-none (leb (r.f6 / 8) 2) _ refl
  kind-place Glue = refl
  kind-place Operation = with_none _ (λ t. operator_none (operator_named (text_or_empty strings t.offset t.len)))
  kind-place Tag = with_none _ (λ t. refl)
  kind-place BoolValue = refl
  kind-place IntValue = refl
  kind-place FloatValue = refl
  kind-place StringValue = with_none _ (λ t. refl)
  kind-place ListValue = by (leb (r.f0 + r.f1) payload)
    where
      by : (b : Bool)
          → list_of (cond b (Some (kind.Value (value.List (span r.f0 r.f1)))) None) ≡ cond b (Some (span r.f0 r.f1)) None
      by true = refl
      by false = refl
  kind-place TargetValue = with_none _ (λ t. refl)
  kind-place PointerValue = with_none _ (λ t. refl)
  kind-place Assignment = with_none _ (λ t. refl)
  kind-place Reference = with_none _ (λ t. refl)
  kind-place Void = refl
  kind-place Unknown = refl

  pub record_place : list_place_in payload r ≡ list_place (record_view strings payload r)
  unfolding record_view
  record_place =
      ap (λ (b : Bool). cond b place None) (sym (list_tag_lem r.tag))
      ∙ sym (kind-place (kind_of r.tag))
      ∙ by (kind_view strings payload r (kind_of r.tag))
    where
      by : (a : Option NodeKindView) → list_of a ≡ list_place (with_kind strings payload r a)
      by (Some k) = refl
      by None = refl

-- ---- what the code answers

module _ (payload : ℕ) (r : NodeRecord) where
  pub no_list : (r.tag ≡ 12 → ⊥) → None ≡ list_place_in payload r
  no_list d = rw (ne_eqb r.tag 12 d)

  pub outside-payload : r.tag ≡ 12 → payload < r.f0 + r.f1 → None ≡ list_place_in payload r
  outside-payload e h = rw (eq-eqb r.tag 12 e, lt-leb (r.f0 + r.f1) payload h)

  pub inside-payload : r.tag ≡ 12 → r.f0 + r.f1 ≤ payload → Some (span r.f0 r.f1) ≡ list_place_in payload r
  inside-payload e h = rw (eq-eqb r.tag 12 e, le-leb (r.f0 + r.f1) payload h)

-- ---- a list value lies in the payload

abbrev pub Lies : ℕ → Option Span → Type 0
Lies n o = (t : Span) → o ≡ Some t → t.offset + t.len ≤ n

none-lies : (n : ℕ) → Lies n None
none-lies n t e = absurd (none-some t e)

place-lies : (payload : ℕ) (r : NodeRecord) → Lies payload (list_place_in payload r)
place-lies payload r = by (eqb r.tag 12) (leb (r.f0 + r.f1) payload) refl
  where
    by : (a b : Bool) → leb (r.f0 + r.f1) payload ≡ b → Lies payload (cond a (cond b (Some (span r.f0 r.f1)) None) None)
    by true true h t e = let z = same_Some (span r.f0 r.f1) t e in rw (← z) (leb-true (r.f0 + r.f1) payload h)
    by true false h t e = none-lies payload t e
    by false b h t e = none-lies payload t e

pub list-lies : (s : Sections) (i : ℕ) → Lies (length s.payload) (list_place (node_view s i))
unfolding node_view
list-lies s i = by (inside s i)
  where
    own : Lies (length s.payload) (list_place (record_view s.strings (length s.payload) (node_in s i)))
    own t e = place-lies (length s.payload) (node_in s i) t (record_place s.strings (length s.payload) (node_in s i) ∙ e)

    by : (b : Bool) → Lies (length s.payload) (list_place (cond b (record_view s.strings (length s.payload) (node_in s i)) None))
    by true = own
    by false = none-lies (length s.payload)
