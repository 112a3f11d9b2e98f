-- A node whose rules are kept has a view, whatever its kind.
use Rattle.std.specs.Prelude.{None, Option, Some, is_some}
use Prim.Native.Nat.{ℕ, ◌+◌, ◌/◌, ◌≤◌}
use mathlib.Core.Path.{◌≡◌, refl, sym, ap, ◌∙◌}
use mathlib.Core.List.{List, Memᴰ}
use mathlib.Core.Bool.{true, true≢false}
use native.Mathlib.Omega.{arith}
use lib.ListN.{length}
use borrow.Author.Tests.{ne_eqb, le-leb}
use Rattle.words.specs.Words.{NONE}
use Rattle.texts.specs.Text.{holds}
use Rattle.names.specs.declared.control_command.CommandType.{CommandType}
use Rattle.names.specs.declared.native_function_call.Op.{Op}
use Rattle.names.specs.Names.{commands, operators}
use Rattle.names.specs.Spelling.{element_named}
use Rattle.names.specs.ControlCommand.{command_named}
use Rattle.names.specs.NativeFunctionCall.{operator_named}
use Rattle.names.proofs.Distinct.{number-held}
use Rattle.names.proofs.Numbers.{Numbered, unnamed-number}
use Rattle.names.proofs.Commands.{commands_numbered}
use Rattle.names.proofs.Operators.{operators_numbered}
use Rattle.image.specs.Sections.{Sections, parent_of, place_of, tag_of, f, text_at, text_or_empty}
use Rattle.image.specs.Entries.{node_in}
use Rattle.image.proofs.Parts.{text-inside}
use Rattle.records.specs.Fields.{Kind, Container, Choice, Command, Divert, Glue, Operator, Tag, BoolValue, IntValue, FloatValue, StringValue, ListValue, TargetValue, PointerValue, Assignment, Reference, Void, Unknown, Field, kind_of, fields}
use Rattle.views.specs.declared.Span.{Span}
use Rattle.views.specs.declared.NodeKindView.{NodeKindView}
use Rattle.views.specs.View.{span, shown, optional_word, of_command, of_operator, with_text, kind_view, record_view, node_view}
use Rattle.promises.specs.Answers.{of_node}
use Rattle.promises.specs.Rules.{TextRight, NodeRight, FieldRight}
use Rattle.promises.proofs.Fields.{right-node}

pub shown-right : (s : Sections) (at len : ℕ) → TextRight s at len → shown (length s.strings) at len ≡ true
shown-right s at len t = rw (ne_eqb at NONE t.offset_given, ne_eqb len NONE t.length-given, le-leb _ _ t.inside)

-- ---- names

-- a text that a list of names holds names a kind
held : {A : Type 0} {number : A → ℕ} {kinds : List A} {names : List (List ℕ)} → Numbered number kinds names → (t : List ℕ) → holds names t ≡ true
    → element_named kinds names t ≡ None → ⊥
held {names = names} n t h e = true≢false (sym h ∙ number-held names t ∙ ap is_some (unnamed-number n t e))

-- ---- kinds

-- there is a kind
abbrev Given : Option NodeKindView → Type 0
Given (Some k) = Unit {0}
Given None = ⊥

given_command : (o : Option CommandType) → (o ≡ None → ⊥) → Given (of_command o)
given_command None d = d refl
given_command (Some c) d = tt

given_operator : (o : Option Op) → (o ≡ None → ⊥) → Given (of_operator o)
given_operator None d = d refl
given_operator (Some c) d = tt

module _ (s : Sections) (i : ℕ) where
  -- the fields of a kind are right
  abbrev pub Right : Kind → Type 0
  Right k = (x : Field) → Memᴰ x (fields k) → FieldRight s i x

  with_text_lem : (g : Span → Option NodeKindView) → TextRight s (f s i 0) (f s i 1) → Given (g (span (f s i 0) (f s i 1)))
      → Given (with_text s.strings (node_in s i) g)
  unfolding with_text
  with_text_lem g t h = rw (shown-right s (f s i 0) (f s i 1) t) h

  -- the text that is read is the one that was tested
  text-held : (names : List (List ℕ)) → TextRight s (f s i 0) (f s i 1) → holds names (text_at s (f s i 0) (f s i 1)) ≡ true
      → holds names (text_or_empty s.strings (f s i 0) (f s i 1)) ≡ true
  text-held names t h = rw (text-inside s.strings (f s i 0) (f s i 1) t.inside) h

  kind-given : (k : Kind) → Right k → Given (kind_view s.strings (length s.payload) (node_in s i) k)
  unfolding fields kind_view
  kind-given Container r = tt
  kind-given Choice r = tt
  kind-given Command r =
      let q = r _ (Memᴰ.head refl) in
      with_text_lem _ q.0 (given_command (command_named (text_or_empty s.strings (f s i 0) (f s i 1))) (held commands_numbered _ (text-held commands q.0 q.1)))
  kind-given Divert r =
      let few : f s i 6 ≤ 23 = r _ (Memᴰ.tail (Memᴰ.tail (Memᴰ.tail (Memᴰ.tail (Memᴰ.head refl))))) in
      rw (le-leb (f s i 6 / 8) 2 (omega arith)) tt
  kind-given Glue r = tt
  kind-given Operator r =
      let q = r _ (Memᴰ.head refl) in
      with_text_lem _ q.0 (given_operator (operator_named (text_or_empty s.strings (f s i 0) (f s i 1))) (held operators_numbered _ (text-held operators q.0 q.1)))
  kind-given Tag r = with_text_lem _ (r _ (Memᴰ.head refl)) tt
  kind-given BoolValue r = tt
  kind-given IntValue r = tt
  kind-given FloatValue r = tt
  kind-given StringValue r = with_text_lem _ (r _ (Memᴰ.head refl)) tt
  kind-given ListValue r =
      let q = r _ (Memᴰ.head refl) in
      rw (le-leb (f s i 0 + f s i 1) (length s.payload) q.1.inside) tt
  kind-given TargetValue r = with_text_lem _ (r _ (Memᴰ.head refl)) tt
  kind-given PointerValue r = with_text_lem _ (r _ (Memᴰ.head refl)) tt
  kind-given Assignment r = with_text_lem _ (r _ (Memᴰ.head refl)) tt
  kind-given Reference r = with_text_lem _ (r _ (Memᴰ.head refl)) tt
  kind-given Void r = tt
  kind-given Unknown r = absurd (r _ (Memᴰ.head refl))

  -- ---- the view

  pub record Seen : Type 0 where
    pub kind : NodeKindView
    pub kind_is : kind_view s.strings (length s.payload) (node_in s i) (kind_of (tag_of s i)) ≡ Some kind
    pub view_is : node_view s i ≡ Some (record { parent = optional_word (parent_of s i); child_index = optional_word (place_of s i); kind = kind })

  pub seen : NodeRight s i → Right (kind_of (tag_of s i)) → Seen
  unfolding node_view record_view
  seen n r = by (kind_view s.strings (length s.payload) (node_in s i) (kind_of (tag_of s i))) refl (kind-given (kind_of (tag_of s i)) r)
    where
      by : (k : Option NodeKindView) → kind_view s.strings (length s.payload) (node_in s i) (kind_of (tag_of s i)) ≡ k → Given k → Seen
      by (Some k) e g = record { kind = k; kind_is = e; view_is = rw (right-node s i n, e) }
      by None e g = absurd g

  pub viewed : NodeRight s i → Right (kind_of (tag_of s i)) → (of_node (node_view s i)).number ≡ 0
  viewed n r = ap (λ a. (of_node a).number) (seen n r).view_is
