-- A node's view in ten words.
use Rattle.std.specs.Prelude.{ℕ, ◌+◌, List, [], ◌∷◌, Bool, None, Option, Some}
use Rattle.words.specs.Words.{NONE}
use Rattle.names.specs.ControlCommand.{command_number}
use Rattle.names.specs.NativeFunctionCall.{operator_number}
use Rattle.views.specs.declared.Span.{Span}
use Rattle.views.specs.declared.PushPopType.{PushPopType}
use Rattle.views.specs.declared.PushPopType.TheVariants as push
use Rattle.views.specs.declared.ValueView.{ValueView}
use Rattle.views.specs.declared.ValueView.TheVariants as value
use Rattle.views.specs.declared.NodeKindView.{NodeKindView}
use Rattle.views.specs.declared.NodeKindView.TheVariants as kind
use Rattle.views.specs.declared.NodeView.{NodeView}
use Rattle.answers.specs.AnswerWords.{unsigned, word_or, no_span, span_or, bit_if, span_then}
use Rattle.image.specs.Tags.{container_tag, choice_tag, command_tag, divert_tag, glue_tag, operator_tag, tag_tag, bool_tag, int_tag, float_tag, string_tag, list_tag, target_tag, pointer_tag, assignment_tag, reference_tag, void_tag}

-- the tag, text, variable, target, value, flags
abbrev pub eight_words : ℕ → Span → Span → ℕ → ℕ → ℕ → List ℕ
eight_words tag t v target w flags = tag ∷ span_then t (span_then v (target ∷ w ∷ flags ∷ []))

-- what a kind lacks is NONE in texts and target, 0 in value and flags
abbrev pub text_kind_words : ℕ → Span → ℕ → ℕ → ℕ → List ℕ
text_kind_words tag t target w flags = eight_words tag t no_span target w flags

abbrev pub value_word : ℕ → ℕ → List ℕ
value_word tag w = eight_words tag no_span no_span NONE w 0

-- eight times the push type
abbrev pub push_number : PushPopType → ℕ
push_number push.Tunnel = 0
push_number push.Function = 8
push_number push.FunctionEvaluationFromGame = 16

abbrev pub divert_flags : Bool → Bool → Bool → PushPopType → ℕ
divert_flags conditional external pushes p = bit_if conditional 1 + bit_if external 2 + bit_if pushes 4 + push_number p

abbrev pub assignment_flags : Bool → Bool → ℕ
assignment_flags global new = bit_if global 1 + bit_if new 2

abbrev pub value_words : ValueView → List ℕ
value_words (value.Bool b) = value_word bool_tag (bit_if b 1)
value_words (value.Int i) = value_word int_tag (unsigned i)
value_words (value.Float bits x) = value_word float_tag bits
value_words (value.String t) = text_kind_words string_tag t NONE 0 0
value_words (value.List t) = text_kind_words list_tag t NONE 0 0
value_words (value.DivertTarget t) = text_kind_words target_tag t NONE 0 0
value_words (value.VariablePointer t context) = text_kind_words pointer_tag t NONE (unsigned context) 0

abbrev pub kind_words : NodeKindView → List ℕ
kind_words (kind.Container flags name) = text_kind_words container_tag (span_or name) NONE 0 (unsigned flags)
kind_words (kind.ChoicePoint flags target) = text_kind_words choice_tag no_span (word_or target) 0 (unsigned flags)
kind_words (kind.ControlCommand c) = value_word command_tag (command_number c)
kind_words (kind.Divert path target variable arguments conditional external pushes p) =
    eight_words divert_tag (span_or path) (span_or variable) (word_or target) arguments (divert_flags conditional external pushes p)
kind_words kind.Glue = value_word glue_tag 0
kind_words (kind.NativeFunction o) = value_word operator_tag (operator_number o)
kind_words (kind.Tag t) = text_kind_words tag_tag t NONE 0 0
kind_words (kind.Value v) = value_words v
kind_words (kind.VariableAssignment t global new) = text_kind_words assignment_tag t NONE 0 (assignment_flags global new)
kind_words (kind.VariableReference t target) = text_kind_words reference_tag t (word_or target) 0 0
kind_words kind.Void = value_word void_tag 0

-- parent, place, then those of the kind
abbrev pub node_view_words : NodeView → List ℕ
node_view_words v = word_or v.parent ∷ word_or v.child_index ∷ kind_words v.kind

abbrev pub node_answer : Option NodeView → Option (List ℕ)
node_answer (Some v) = Some (node_view_words v)
node_answer None = None

-- ---- a list value, by the view of its node

abbrev pub list_of_value : ValueView → Option Span
list_of_value (value.Bool b) = None
list_of_value (value.Int i) = None
list_of_value (value.Float bits x) = None
list_of_value (value.String t) = None
list_of_value (value.List t) = Some t
list_of_value (value.DivertTarget t) = None
list_of_value (value.VariablePointer t context) = None

abbrev pub list_of_kind : NodeKindView → Option Span
list_of_kind (kind.Container flags name) = None
list_of_kind (kind.ChoicePoint flags target) = None
list_of_kind (kind.ControlCommand c) = None
list_of_kind (kind.Divert path target variable arguments conditional external pushes p) = None
list_of_kind kind.Glue = None
list_of_kind (kind.NativeFunction o) = None
list_of_kind (kind.Tag t) = None
list_of_kind (kind.Value v) = list_of_value v
list_of_kind (kind.VariableAssignment t global new) = None
list_of_kind (kind.VariableReference t target) = None
list_of_kind kind.Void = None

-- its place in the payload, none where the node is no list value
abbrev pub list_place : Option NodeView → Option Span
list_place (Some v) = list_of_kind v.kind
list_place None = None
