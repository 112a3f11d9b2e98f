-- A node's view: its words turned into fields, as `node_view` does.
use Rattle.std.specs.Prelude.{ℕ, ◌+◌, ◌/◌, List, Bool, cond, ◌&&◌, not, length, ℤ, leb, eqb, None, Option, Some}
use Rattle.std.specs.Float.{binary32}
use Rattle.std.specs.Float.Ieee.{of_bits}
use Rattle.std.proofs.Common.{to_z}
use Rattle.std.specs.Int.{w32}
use Rattle.words.specs.Words.{is_none}
use Rattle.names.specs.declared.control_command.CommandType.{CommandType}
use Rattle.names.specs.declared.native_function_call.Op.{Op}
use Rattle.names.specs.ControlCommand.{command_named}
use Rattle.names.specs.NativeFunctionCall.{operator_named}
use Rattle.names.specs.Names.{names}
use Rattle.image.specs.declared.NodeRecord.{NodeRecord}
use Rattle.image.specs.Sections.{Sections, present, text_or_empty, inside, sections}
use Rattle.image.specs.Entries.{node_in}
use Rattle.records.specs.Fields.{Kind, Container, Choice, Command as Named, Divert, Glue, Operator as Operation, Tag, BoolValue, IntValue, FloatValue, StringValue, ListValue, TargetValue, PointerValue, Assignment, Reference, Void, Unknown, kind_of, schema}
use Rattle.records.specs.Flags.{odd, external}
use Rattle.views.specs.declared.Span.{Span}
use Rattle.views.specs.declared.PushPopType.{PushPopType}
use Rattle.views.specs.declared.PushPopType.TheVariants as push
use Rattle.views.specs.declared.ValueView.TheVariants as value
use Rattle.views.specs.declared.NodeKindView.TheVariants as kind
use Rattle.views.specs.declared.NodeView.{NodeView}
use Rattle.views.specs.declared.NodeKindView.{NodeKindView}

-- a word as a signed number
abbrev pub signed : ℕ → ℤ
signed w = to_z w32 w

abbrev pub span : ℕ → ℕ → Span
span at len = record { offset = at; len = len }

-- present, and inside strings of the given length
abbrev pub shown : ℕ → ℕ → ℕ → Bool
shown strings at len = present at len && leb (at + len) strings

unfoldable pub optional_text : ℕ → ℕ → ℕ → Option Span
optional_text strings at len = cond (shown strings at len) (Some (span at len)) None

unfoldable pub optional_word : ℕ → Option ℕ
optional_word w = cond (is_none w) None (Some w)

unfoldable pub push_type : ℕ → PushPopType
push_type n = cond (eqb n 0) push.Tunnel (cond (eqb n 1) push.Function push.FunctionEvaluationFromGame)

abbrev pub of_command : Option CommandType → Option NodeKindView
of_command None = None
of_command (Some c) = Some (kind.ControlCommand c)

abbrev pub of_operator : Option Op → Option NodeKindView
of_operator None = None
of_operator (Some o) = Some (kind.NativeFunction o)

-- the text at f0, where the kind cannot do without
unfoldable pub with_text : List ℕ → NodeRecord → (Span → Option NodeKindView) → Option NodeKindView
with_text strings r g = cond (shown (length strings) r.f0 r.f1) (g (span r.f0 r.f1)) None

-- the view of a record. It needs the strings, and the payload's length
module _ (strings : List ℕ) (payload : ℕ) (r : NodeRecord) where
  abbrev text_of : ℕ → ℕ → Option Span
  text_of at len = optional_text (length strings) at len

  abbrev bytes_of_span : Span → List ℕ
  bytes_of_span t = text_or_empty strings t.offset t.len

  abbrev texted : (Span → Option NodeKindView) → Option NodeKindView
  texted g = with_text strings r g

  unfoldable pub kind_view : Kind → Option NodeKindView
  kind_view Container = Some (kind.Container (signed r.f2) (text_of r.f0 r.f1))
  kind_view Choice = Some (kind.ChoicePoint (signed r.f3) (optional_word r.f2))
  kind_view Named = texted (λ t. of_command (command_named (bytes_of_span t)))
  kind_view Divert =
      cond (leb (r.f6 / 8) 2)
      (Some
      (kind.Divert (text_of r.f0 r.f1) (optional_word r.f2) (text_of r.f3 r.f4) r.f5 (odd r.f6) (external r)
      (odd (r.f6 / 4)) (push_type (r.f6 / 8))))
      None
  kind_view Glue = Some kind.Glue
  kind_view Operation = texted (λ t. of_operator (operator_named (bytes_of_span t)))
  kind_view Tag = texted (λ t. Some (kind.Tag t))
  kind_view BoolValue = Some (kind.Value (value.Bool (not (eqb r.f0 0))))
  kind_view IntValue = Some (kind.Value (value.Int (signed r.f0)))
  kind_view FloatValue = Some (kind.Value (value.Float r.f0 (of_bits binary32 r.f0)))
  kind_view StringValue = texted (λ t. Some (kind.Value (value.String t)))
  kind_view ListValue = cond (leb (r.f0 + r.f1) payload) (Some (kind.Value (value.List (span r.f0 r.f1)))) None
  kind_view TargetValue = texted (λ t. Some (kind.Value (value.DivertTarget t)))
  kind_view PointerValue = texted (λ t. Some (kind.Value (value.VariablePointer t (signed r.f2))))
  kind_view Assignment = texted (λ t. Some (kind.VariableAssignment t (odd r.f2) (odd (r.f2 / 2))))
  kind_view Reference = texted (λ t. Some (kind.VariableReference t (optional_word r.f4)))
  kind_view Void = Some kind.Void
  kind_view Unknown = None

  -- parent and place, and the kind
  abbrev pub with_kind : Option NodeKindView → Option NodeView
  with_kind (Some k) = Some (record { parent = optional_word r.parent; child_index = optional_word r.place; kind = k })
  with_kind None = None

  unfoldable pub record_view : Option NodeView
  record_view = with_kind (kind_view (kind_of r.tag))

-- the view of node i
unfoldable pub node_view : Sections → ℕ → Option NodeView
node_view s i = cond (inside s i) (record_view s.strings (length s.payload) (node_in s i)) None

-- names on an `unfolding` line what a computation with this module needs
unfoldable pub views : Unit {0}
unfolding optional_text optional_word push_type with_text kind_view record_view node_view schema sections names
views = tt
