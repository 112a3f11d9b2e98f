-- Kinds: of all only a tag is a note, by its text where that is right; the tag of a list value.
use Rattle.std.specs.Prelude.{None, Option, Some}
use Prim.Native.Nat.{ℕ, ◌+◌, ◌/◌}
use mathlib.Core.Path.{◌≡◌, refl, sym, ap, ◌∙◌}
use mathlib.Core.Logic.{◌⊎◌, inl, inr}
use mathlib.Core.List.{List, [], ◌∷◌}
use mathlib.Core.Bool.{Bool, true, false, cond, ◌&&◌, ◌||◌, not, or-false, true≢false}
use lib.ListN.{length}
use lib.Dec.{leb, eqb}
use native.Mathlib.Decide.{ℕ_discrete}
use borrow.Author.Tests.{ne_eqb, eqb-true, not-true}
use Rattle.laws.proofs.Flags.{both_true}
use Rattle.names.specs.declared.control_command.CommandType.{CommandType}
use Rattle.names.specs.declared.native_function_call.Op.{Op}
use Rattle.names.specs.ControlCommand.{command_named}
use Rattle.names.specs.NativeFunctionCall.{operator_named}
use Rattle.image.specs.Sections.{Sections, tag_of, f, text_at, text_or_empty, inside}
use Rattle.image.specs.Tags.{list_tag}
use Rattle.image.specs.Entries.{node_in}
use Rattle.image.proofs.Parts.{text-inside}
use Rattle.records.specs.Fields.{Kind, Container, Choice, Command, Divert, Glue, Operator, Tag, BoolValue, IntValue, FloatValue, StringValue, ListValue, TargetValue, PointerValue, Assignment, Reference, Void, Unknown, kind_table, kind_in, kind_of}
use Rattle.views.specs.declared.Span.{Span}
use Rattle.views.specs.View.{span, shown, of_command, of_operator, with_text, kind_view, with_kind, record_view, node_view}
use Rattle.notes.specs.Notes.{is_note, note_in, note_at}
use Rattle.promises.specs.Rules.{TextRight}
use Rattle.promises.proofs.Views.{shown-right}
use Rattle.views.specs.declared.NodeKindView.{NodeKindView}

module _ (s : Sections) (i : ℕ) where
  abbrev note_of : Option NodeKindView → Bool
  note_of a = note_in s.strings (with_kind s.strings (length s.payload) (node_in s i) a)

  -- node i is a note if its kind were k
  abbrev pub note_by : Kind → Bool
  note_by k = note_of (kind_view s.strings (length s.payload) (node_in s i) k)

  tested : (b : Bool) (a : Option NodeKindView) → note_of a ≡ false → note_of (cond b a None) ≡ false
  tested true a e = e
  tested false a e = refl

  command_note : (o : Option CommandType) → note_of (of_command o) ≡ false
  command_note None = refl
  command_note (Some c) = refl

  operator_note : (o : Option Op) → note_of (of_operator o) ≡ false
  operator_note None = refl
  operator_note (Some c) = refl

  with_note : (g : Span → Option NodeKindView) → note_of (g (span (f s i 0) (f s i 1))) ≡ false → note_of (with_text s.strings (node_in s i) g) ≡ false
  unfolding with_text
  with_note g e = tested (shown (length s.strings) (f s i 0) (f s i 1)) _ e

  pub list_by : note_by ListValue ≡ false
  unfolding kind_view
  list_by = tested (leb (f s i 0 + f s i 1) (length s.payload)) _ refl

-- no other kind is one
pub tag_or_none : (k : Kind) → (k ≡ Tag) ⊎ ((s : Sections) (i : ℕ) → note_by s i k ≡ false)
unfolding kind_view
tag_or_none Tag = inl refl
tag_or_none Container = inr (λ s i. refl)
tag_or_none Choice = inr (λ s i. refl)
tag_or_none Command = inr (λ s i. with_note s i _ (command_note s i (command_named (text_or_empty s.strings (f s i 0) (f s i 1)))))
tag_or_none Divert = inr (λ s i. tested s i (leb (f s i 6 / 8) 2) _ refl)
tag_or_none Glue = inr (λ s i. refl)
tag_or_none Operator = inr (λ s i. with_note s i _ (operator_note s i (operator_named (text_or_empty s.strings (f s i 0) (f s i 1)))))
tag_or_none BoolValue = inr (λ s i. refl)
tag_or_none IntValue = inr (λ s i. refl)
tag_or_none FloatValue = inr (λ s i. refl)
tag_or_none StringValue = inr (λ s i. with_note s i _ refl)
tag_or_none ListValue = inr list_by
tag_or_none TargetValue = inr (λ s i. with_note s i _ refl)
tag_or_none PointerValue = inr (λ s i. with_note s i _ refl)
tag_or_none Assignment = inr (λ s i. with_note s i _ refl)
tag_or_none Reference = inr (λ s i. with_note s i _ refl)
tag_or_none Void = inr (λ s i. refl)
tag_or_none Unknown = inr (λ s i. refl)

module _ (s : Sections) (i : ℕ) where
  pub note_by_lem : inside s i ≡ true → note_at s i ≡ note_by s i (kind_of (tag_of s i))
  unfolding note_at node_view record_view
  note_by_lem h = rw h refl

  -- whether or not there is a node i
  pub no_note : note_by s i (kind_of (tag_of s i)) ≡ false → note_at s i ≡ false
  unfolding note_at node_view record_view
  no_note e = by (inside s i)
    where
      by : (b : Bool) → note_in s.strings (cond b (record_view s.strings (length s.payload) (node_in s i)) None) ≡ false
      by true = e
      by false = refl

  -- a tag is a note by its text
  pub tag_note : TextRight s (f s i 0) (f s i 1) → note_by s i Tag ≡ is_note (text_at s (f s i 0) (f s i 1))
  unfolding kind_view with_text
  tag_note t = rw (shown-right s (f s i 0) (f s i 1) t) (ap is_note (text-inside s.strings (f s i 0) (f s i 1) t.inside))

-- ---- the tag of a list value

is_list : Kind → Bool
is_list ListValue = true
is_list Container = false
is_list Choice = false
is_list Command = false
is_list Divert = false
is_list Glue = false
is_list Operator = false
is_list Tag = false
is_list BoolValue = false
is_list IntValue = false
is_list FloatValue = false
is_list StringValue = false
is_list TargetValue = false
is_list PointerValue = false
is_list Assignment = false
is_list Reference = false
is_list Void = false
is_list Unknown = false

-- a row of this kind has this tag
abbrev list_row : ℕ × Kind → Bool
list_row row = not (is_list row.1) || eqb row.0 list_tag

list_rows : List (ℕ × Kind) → Bool
list_rows [] = true
list_rows (row ∷ rows) = list_row row && list_rows rows

other_row : (t : ℕ) → (t ≡ list_tag → ⊥) → (rows : List (ℕ × Kind)) → list_rows rows ≡ true → is_list (kind_in rows t) ≡ false
unfolding kind_in is_list list_rows
other_row t d [] h = refl
other_row t d (row ∷ rows) h = by (eqb t row.0) refl (other_row t d rows (both_true (list_row row) (list_rows rows) h).1)
  where
    kind : (k : Kind) (n : ℕ) → (n ≡ list_tag → ⊥) → (not (is_list k) || eqb n list_tag) ≡ true → is_list k ≡ false
    kind k n e q = not-true (is_list k) (sym (or-false (not (is_list k))) ∙ rw (ne_eqb n list_tag e) at q)

    by : (b : Bool) → eqb t row.0 ≡ b → is_list (kind_in rows t) ≡ false → is_list (cond b row.1 (kind_in rows t)) ≡ false
    by true e r = kind row.1 row.0 (λ q. d (eqb-true t row.0 e ∙ q)) (both_true (list_row row) (list_rows rows) h).0
    by false e r = r

pub list_tag_lem : (t : ℕ) → kind_of t ≡ ListValue → t ≡ list_tag
unfolding kind_table is_list list_rows
list_tag_lem t e =
    elim (ℕ_discrete t list_tag) [
      | yes q ↦ q
      | no d ↦ absurd (true≢false (sym (ap is_list e) ∙ other_row t d kind_table refl))
    ]
