-- Kinds of which the fields are the same are shown the same.
use Rattle.std.specs.Prelude.{None, Option, Some, ℕ}
use Prim.Native.Nat.{ℕ, ◌+◌, ◌/◌}
use mathlib.Core.Path.{◌≡◌, refl, sym, ap, ◌∙◌, subst}
use mathlib.Core.List.{List, [], ◌∷◌}
use mathlib.Core.Bool.{Bool, true, false, cond, not, true≢false}
use lib.ListN.{length}
use lib.Ieee.{binary32, of_bits}
use lib.Dec.{leb, eqb}
use borrow.Author.Tests.{le-leb, leb-true}
use Rattle.laws.proofs.Flags.{both_true}
use Rattle.names.specs.declared.control_command.CommandType.{CommandType}
use Rattle.names.specs.declared.native_function_call.Op.{Op}
use Rattle.names.specs.ControlCommand.{command_named}
use Rattle.names.specs.NativeFunctionCall.{operator_named}
use Rattle.image.specs.Sections.{Sections, f, present, text_at, text_or_empty}
use Rattle.image.specs.Entries.{node_in}
use Rattle.image.proofs.Parts.{text-inside}
use Rattle.records.specs.Fields.{Kind, Container, Choice, Command, Divert, Glue, Operator, Tag, BoolValue, IntValue, FloatValue, StringValue, ListValue, TargetValue, PointerValue, Assignment, Reference, Void, Unknown, Field, fields}
use Rattle.records.specs.Flags.{odd}
use Rattle.draft.specs.Numbering.{new_of}
use Rattle.views.specs.declared.Span.{Span}
use Rattle.views.specs.declared.ValueView.TheVariants as value
use Rattle.views.specs.declared.NodeKindView.{NodeKindView}
use Rattle.views.specs.declared.NodeKindView.TheVariants as kind
use Rattle.views.specs.View.{signed, span, shown, optional_text, optional_word, push_type, of_command, of_operator, with_text, kind_view}
use Rattle.written_views.specs.Views.{renumbered, SameText, SameKind, SameField}

-- the bytes of a text that is shown
shown-text : (s : Sections) (at len : ℕ) → shown (length s.strings) at len ≡ true → text_or_empty s.strings at len ≡ text_at s at len
shown-text s at len h = text-inside s.strings at len (leb-true (at + len) (length s.strings) (both_true (present at len) _ h).1)

module _ (s t : Sections) (order : List ℕ) where
  -- no kind in both, or the same one
  abbrev pub SameAnswer : Option NodeKindView → Option NodeKindView → Type 0
  SameAnswer (Some a) (Some b) = SameKind s t order a b
  SameAnswer (Some a) None = ⊥
  SameAnswer None (Some b) = ⊥
  SameAnswer None None = Unit {0}

  command_same : (o p : Option CommandType) → p ≡ o → SameAnswer (of_command o) (of_command p)
  command_same o p e = subst (λ (q : Option CommandType). SameAnswer (of_command o) (of_command q)) (sym e) (by o)
    where
      by : (q : Option CommandType) → SameAnswer (of_command q) (of_command q)
      by None = tt
      by (Some c) = refl

  operator_same : (o p : Option Op) → p ≡ o → SameAnswer (of_operator o) (of_operator p)
  operator_same o p e = subst (λ (q : Option Op). SameAnswer (of_operator o) (of_operator q)) (sym e) (by o)
    where
      by : (q : Option Op) → SameAnswer (of_operator q) (of_operator q)
      by None = tt
      by (Some c) = refl

  -- where a test passes, or nothing
  tested : (b c : Bool) (x y : NodeKindView) → c ≡ b → SameKind s t order x y
      → SameAnswer (cond b (Some x) None) (cond c (Some y) None)
  tested true true x y e h = h
  tested true false x y e h = absurd (true≢false (sym e))
  tested false true x y e h = absurd (true≢false e)
  tested false false x y e h = tt

  -- ---- the draft's node i and the image's node j

  module _ (i j : ℕ) where
    -- each field of a list of them
    abbrev pub SameAll : List Field → Type 0
    SameAll [] = Unit {0}
    SameAll (x ∷ xs) = SameField s t order i j x × SameAll xs

    -- the text at f0, of the draft and of the image
    abbrev a : Span
    a = span (f s i 0) (f s i 1)

    abbrev b : Span
    b = span (f t j 0) (f t j 1)

    with_same : (g h : Span → Option NodeKindView) → SameText s t a b → SameAnswer (g a) (h b)
        → SameAnswer (with_text s.strings (node_in s i) g) (with_text t.strings (node_in t j) h)
    unfolding with_text
    with_same g h e q = rw (e.drafted, e.written) q

    bytes_same : SameText s t a b → text_or_empty t.strings (f t j 0) (f t j 1) ≡ text_or_empty s.strings (f s i 0) (f s i 1)
    bytes_same e = shown-text t (f t j 0) (f t j 1) e.written ∙ e.bytes ∙ sym (shown-text s (f s i 0) (f s i 1) e.drafted)

    module _ (words : (n : ℕ) → optional_word (new_of order n) ≡ renumbered order (optional_word n)) where
      -- a target
      target-same : (x y : ℕ) → y ≡ new_of order x → optional_word y ≡ renumbered order (optional_word x)
      target-same x y e = ap optional_word e ∙ words x

      pub kind-same : (k : Kind) → SameAll (fields k)
          → SameAnswer (kind_view s.strings (length s.payload) (node_in s i) k) (kind_view t.strings (length t.payload) (node_in t j) k)
      unfolding fields kind_view
      kind-same Container q =
          let name = optional_text (length t.strings) (f t j 0) (f t j 1) in (name, ap (λ (x : ℕ). kind.Container (signed x) name) q.1.0, q.0)
      kind-same Choice q = λ u. kind.ChoicePoint (signed (q.1.1.0 u)) (target-same (f s i 2) (f t j 2) q.1.0 u)
      kind-same Command q = with_same _ _ q.0 (command_same (command_named _) (command_named _) (ap command_named (bytes_same q.0)))
      kind-same Divert q =
          let path = optional_text (length t.strings) (f t j 0) (f t j 1) in
          let variable = optional_text (length t.strings) (f t j 3) (f t j 4) in
          let target = target-same (f s i 2) (f t j 2) q.1.0 in
          let arguments = q.1.1.1.0 in
          let flags = q.1.1.1.1.0 in
          tested (leb (f s i 6 / 8) 2) (leb (f t j 6 / 8) 2) _ _ (ap (λ (x : ℕ). leb (x / 8) 2) flags) (
            path,
            variable,
            λ u. kind.Divert path (target u) variable (arguments u) (odd (flags u)) (odd (flags u / 2)) (odd (flags u / 4)) (push_type (flags u / 8)),
            q.0,
            q.1.1.0,
          )
      kind-same Glue q = refl
      kind-same Operator q = with_same _ _ q.0 (operator_same (operator_named _) (operator_named _) (ap operator_named (bytes_same q.0)))
      kind-same Tag q = with_same _ _ q.0 (b, refl, q.0)
      kind-same BoolValue q = (_, refl, ap (λ (x : ℕ). value.Bool (not (eqb x 0))) q.0)
      kind-same IntValue q = (_, refl, ap (λ (x : ℕ). value.Int (signed x)) q.0)
      kind-same FloatValue q = (_, refl, ap (λ (x : ℕ). value.Float x (of_bits binary32 x)) q.0)
      kind-same StringValue q = with_same _ _ q.0 (_, refl, (b, refl, q.0))
      kind-same ListValue q = rw (le-leb _ _ q.0.drafted, le-leb _ _ q.0.written) (_, refl, (b, refl, q.0))
      kind-same TargetValue q = with_same _ _ q.0 (_, refl, (b, refl, q.0))
      kind-same PointerValue q = with_same _ _ q.0 (_, refl, (b, ap (λ (x : ℕ). value.VariablePointer b (signed x)) q.1.0, q.0))
      kind-same Assignment q = with_same _ _ q.0 (b, ap (λ (x : ℕ). kind.VariableAssignment b (odd x) (odd (x / 2))) q.1.0, q.0)
      kind-same Reference q = with_same _ _ q.0 (b, ap (λ (x : Option ℕ). kind.VariableReference b x) (target-same (f s i 4) (f t j 4) q.1.1.0), q.0)
      kind-same Void q = refl
      kind-same Unknown q = tt
