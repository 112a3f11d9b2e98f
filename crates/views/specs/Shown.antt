-- What each part of the code answers for a kind: the clauses of `kind_view` by the tag's number.
use Rattle.std.specs.Prelude.{ℕ, ◌+◌, ◌/◌, List, cond, leb, eqb, None, Option, Some}
use Rattle.names.specs.ControlCommand.{command_named}
use Rattle.names.specs.NativeFunctionCall.{operator_named}
use Rattle.image.specs.declared.NodeRecord.{NodeRecord}
use Rattle.image.specs.Sections.{text_or_empty}
use Rattle.image.specs.Tags.{command_tag, operator_tag, tag_tag, string_tag, target_tag, pointer_tag, assignment_tag}
use Rattle.records.specs.Flags.{odd, external}
use Rattle.views.specs.declared.Span.{Span}
use Rattle.views.specs.declared.ValueView.TheVariants as value
use Rattle.views.specs.declared.NodeKindView.TheVariants as kind
use Rattle.views.specs.View.{signed, span, optional_text, optional_word, push_type, of_command, of_operator, with_text}
use Rattle.views.specs.declared.NodeKindView.{NodeKindView}

unfoldable pub container_view : ℕ → NodeRecord → Option NodeKindView
container_view strings r = Some (kind.Container (signed r.f2) (optional_text strings r.f0 r.f1))

unfoldable pub divert_view : ℕ → NodeRecord → Option NodeKindView
divert_view strings r =
    cond (leb (r.f6 / 8) 2)
    (Some
    (kind.Divert (optional_text strings r.f0 r.f1) (optional_word r.f2) (optional_text strings r.f3 r.f4) r.f5 (odd r.f6)
    (external r) (odd (r.f6 / 4)) (push_type (r.f6 / 8))))
    None

unfoldable pub command_view : List ℕ → Option NodeKindView
command_view name = of_command (command_named name)

unfoldable pub operator_view : List ℕ → Option NodeKindView
operator_view name = of_operator (operator_named name)

unfoldable pub list_view : ℕ → ℕ → ℕ → Option NodeKindView
list_view payload start len = cond (leb (start + len) payload) (Some (kind.Value (value.List (span start len)))) None

-- the kinds that are made of a text, by the tag
unfoldable pub with_name : ℕ → List ℕ → NodeRecord → Span → Option NodeKindView
with_name tag strings r t =
    cond (eqb tag command_tag) (command_view (text_or_empty strings t.offset t.len))
    (cond (eqb tag operator_tag) (operator_view (text_or_empty strings t.offset t.len))
    (cond (eqb tag tag_tag) (Some (kind.Tag t))
    (cond (eqb tag string_tag) (Some (kind.Value (value.String t)))
    (cond (eqb tag target_tag) (Some (kind.Value (value.DivertTarget t)))
    (cond (eqb tag pointer_tag) (Some (kind.Value (value.VariablePointer t (signed r.f2))))
    (cond (eqb tag assignment_tag) (Some (kind.VariableAssignment t (odd r.f2) (odd (r.f2 / 2))))
    (Some (kind.VariableReference t (optional_word r.f4)))))))))

unfoldable pub text_kind : ℕ → List ℕ → NodeRecord → Option NodeKindView
text_kind tag strings r = with_text strings r (with_name tag strings r)
