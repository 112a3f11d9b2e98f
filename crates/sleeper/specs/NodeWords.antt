-- The sleeper's view of a node in eight words.
use Rattle.std.specs.Prelude.{ℕ, List, [], ◌∷◌, Bool, true, false, None, Option, Some}
use Rattle.words.specs.Words.{NONE}
use Rattle.names.specs.ControlCommand.{command_number}
use Rattle.names.specs.NativeFunctionCall.{operator_number}
use Rattle.image.specs.Tags.{container_tag, choice_tag, command_tag, divert_tag, glue_tag, operator_tag, tag_tag, bool_tag, int_tag, float_tag, string_tag, list_tag, target_tag, pointer_tag, assignment_tag, reference_tag, void_tag}
use Rattle.answers.specs.AnswerWords.{unsigned, word_or, bit_if}
use Rattle.answers.specs.NodeViewWords.{divert_flags, assignment_flags}
use Rattle.sleeper.specs.declared.SleeperValue.{SleeperValue}
use Rattle.sleeper.specs.declared.SleeperValue.TheVariants as value
use Rattle.sleeper.specs.declared.SleeperKind.{SleeperKind}
use Rattle.sleeper.specs.declared.SleeperKind.TheVariants as kind
use Rattle.sleeper.specs.declared.SleeperNode.{SleeperNode}

-- the tag, 1 where there is a text, 1 where there is a variable, target, value, flags
abbrev pub six_words : ℕ → Bool → Bool → ℕ → ℕ → ℕ → List ℕ
six_words tag text variable target w flags = tag ∷ bit_if text 1 ∷ bit_if variable 1 ∷ target ∷ w ∷ flags ∷ []

-- what a kind lacks is NONE in the target, 0 elsewhere
abbrev pub text_kind_words : ℕ → Bool → ℕ → ℕ → ℕ → List ℕ
text_kind_words tag text target w flags = six_words tag text false target w flags

abbrev pub value_word : ℕ → ℕ → List ℕ
value_word tag w = six_words tag false false NONE w 0

-- a list has no text of its own
abbrev pub value_words : SleeperValue → List ℕ
value_words (value.Bool b) = value_word bool_tag (bit_if b 1)
value_words (value.Int i) = value_word int_tag (unsigned i)
value_words (value.Float bits x) = value_word float_tag bits
value_words value.String = text_kind_words string_tag true NONE 0 0
value_words value.List = value_word list_tag 0
value_words value.DivertTarget = text_kind_words target_tag true NONE 0 0
value_words (value.VariablePointer context) = text_kind_words pointer_tag true NONE (unsigned context) 0

abbrev pub kind_words : SleeperKind → List ℕ
kind_words (kind.Container flags name) = text_kind_words container_tag name NONE 0 (unsigned flags)
kind_words (kind.ChoicePoint flags target) = text_kind_words choice_tag false (word_or target) 0 (unsigned flags)
kind_words (kind.ControlCommand c) = value_word command_tag (command_number c)
kind_words (kind.Divert path target variable arguments conditional external pushes p) =
    six_words divert_tag path variable (word_or target) arguments (divert_flags conditional external pushes p)
kind_words kind.Glue = value_word glue_tag 0
kind_words (kind.NativeFunction o) = value_word operator_tag (operator_number o)
kind_words kind.Tag = text_kind_words tag_tag true NONE 0 0
kind_words (kind.Value v) = value_words v
kind_words (kind.VariableAssignment global new) = text_kind_words assignment_tag true NONE 0 (assignment_flags global new)
kind_words (kind.VariableReference target) = text_kind_words reference_tag true (word_or target) 0 0
kind_words kind.Void = value_word void_tag 0

-- parent, place, then those of the kind
abbrev pub node_words : SleeperNode → List ℕ
node_words v = word_or v.parent ∷ word_or v.child_index ∷ kind_words v.kind

abbrev pub node_answer : Option SleeperNode → Option (List ℕ)
node_answer (Some v) = Some (node_words v)
node_answer None = None
