-- The words that are made of the technician's words of a kind are those of the sleeper's view.
use Rattle.std.specs.Prelude.{None, Option, Some}
use Prim.Native.Nat.{ℕ, ◌+◌, ◌/◌, ◌≤◌, ◌<◌}
use mathlib.Core.Path.{◌≡◌, refl, sym, ap, ◌∙◌}
use mathlib.Core.List.{List, [], ◌∷◌, ◌++◌}
use mathlib.Core.Bool.{Bool, true, false, true≢false, cond, not, ◌&&◌, ◌||◌}
use native.Mathlib.Omega.{arith}
use native.Mathlib.Nat.{not-suc-le-zero}
use lib.ListN.{length, get_or, drop, set}
use lib.Dec.{eqb, leb}
use borrow.Author.Tests.{eq-eqb, ne_eqb}
use Rattle.words.specs.Words.{NONE, is_none}
use Rattle.names.specs.declared.control_command.CommandType.{CommandType}
use Rattle.names.specs.declared.native_function_call.Op.{Op}
use Rattle.names.specs.ControlCommand.{command_named}
use Rattle.names.specs.NativeFunctionCall.{operator_named}
use Rattle.image.specs.declared.NodeRecord.{NodeRecord}
use Rattle.image.specs.declared.ImageView.{ImageView}
use Rattle.image.specs.Sections.{Sections, text_or_empty}
use Rattle.image.specs.Header.{section_bytes, sections_by}
use Rattle.image.proofs.Views.{strings_by}
use Rattle.image.specs.Tags.{container_tag, divert_tag, tag_tag, string_tag, target_tag, pointer_tag, assignment_tag, reference_tag, void_tag}
use Rattle.records.specs.Fields as field
use Rattle.records.specs.Fields.{Kind, kind_of}
use Rattle.records.specs.Flags.{odd, external}
use Rattle.views.specs.declared.Span.{Span}
use Rattle.views.specs.declared.ValueView.{ValueView}
use Rattle.views.specs.declared.ValueView.TheVariants as value
use Rattle.views.specs.declared.NodeKindView.{NodeKindView}
use Rattle.views.specs.declared.NodeKindView.TheVariants as kind
use Rattle.views.specs.View.{span, shown, optional_text, optional_word, push_type, of_command, of_operator, with_text, kind_view, with_kind, record_view, node_view}
use Rattle.views.specs.Found.{node_found}
use Rattle.views.proofs.Answers.{view-missing, view-found}
use Rattle.answers.specs.declared.node.KindWords.{KindWords}
use Rattle.answers.specs.AnswerWords.{Answered, unsigned, word_or, span_or, bit_if}
use Rattle.answers.specs.NodeViewWords as technician
use Rattle.answers.specs.NodeViewWords.{divert_flags, assignment_flags}
use Rattle.answers.specs.RecordWords.{eight_of, words_of_kind, value_alone}
use Rattle.answers.proofs.AnswerSlices.{unanswered, too_short}
use Rattle.answers.proofs.Records.{word_back}
use Rattle.notes.specs.Notes.{is_note, note_kind, hide_note, hide_in, hidden}
use Rattle.sleeper.specs.declared.SleeperValue.{SleeperValue}
use Rattle.sleeper.specs.declared.SleeperValue.TheVariants as seenValue
use Rattle.sleeper.specs.declared.SleeperKind.{SleeperKind}
use Rattle.sleeper.specs.declared.SleeperKind.TheVariants as seen
use Rattle.sleeper.specs.declared.SleeperView.{SleeperView}
use Rattle.sleeper.specs.Reader.{with_places, sleeper_sections}
use Rattle.sleeper.specs.Seen.{presence, value_seen, kind_seen, view_seen, sleeper_view}
use Rattle.sleeper.specs.Texts.{value_text, kind_text, kind_variable}
use Rattle.sleeper.specs.NodeWords.{six_words, text_kind_words, value_words, kind_words, node_words, node_answer}
use Rattle.sleeper.specs.RecordWords.{note_words, hidden_words, text_given, six_of}
use Rattle.sleeper.proofs.Reading.{sections-seen}
use Rattle.sleeper.specs.declared.SleeperNode.{SleeperNode}
use Rattle.views.specs.declared.NodeView.{NodeView}

-- ---- texts that a view shows have an offset that is not NONE

abbrev GivenText : Option Span → Type 0
GivenText (Some t) = is_none t.offset ≡ false
GivenText None = Unit {0}

record GivenKind (k : NodeKindView) : Type 0 where
  text : GivenText (kind_text k)
  variable : GivenText (kind_variable k)

abbrev GivenAnswer : Option NodeKindView → Type 0
GivenAnswer (Some k) = GivenKind k
GivenAnswer None = Unit {0}

shown-given : (strings at len : ℕ) → shown strings at len ≡ true → is_none at ≡ false
shown-given strings at len h = by (is_none at) refl h
  where
    by : (b : Bool) → is_none at ≡ b → not (b || is_none len) && leb (at + len) strings ≡ true → is_none at ≡ false
    by true e z = absurd (true≢false (sym z))
    by false e z = e

optional-given : (strings at len : ℕ) → GivenText (optional_text strings at len)
unfolding optional_text
optional-given strings at len = by (shown strings at len) refl
  where
    by : (b : Bool) → shown strings at len ≡ b → GivenText (cond b (Some (span at len)) None)
    by true e = shown-given strings at len e
    by false e = tt

module _ (strings : List ℕ) (payload : ℕ) (r : NodeRecord) where
  texted-given : (g : Span → Option NodeKindView) → (is_none r.f0 ≡ false → GivenAnswer (g (span r.f0 r.f1))) → GivenAnswer (with_text strings r g)
  unfolding with_text
  texted-given g h = by (shown (length strings) r.f0 r.f1) refl
    where
      by : (b : Bool) → shown (length strings) r.f0 r.f1 ≡ b → GivenAnswer (cond b (g (span r.f0 r.f1)) None)
      by true e = h (shown-given (length strings) r.f0 r.f1 e)
      by false e = tt

  given_if : (b : Bool) (k : NodeKindView) → GivenKind k → GivenAnswer (cond b (Some k) None)
  given_if true k h = h
  given_if false k h = tt

  command_given : (c : Option CommandType) → GivenAnswer (of_command c)
  command_given None = tt
  command_given (Some c) = record { text = tt; variable = tt }

  operator_given : (o : Option Op) → GivenAnswer (of_operator o)
  operator_given None = tt
  operator_given (Some o) = record { text = tt; variable = tt }

  kind-given : (k : Kind) → GivenAnswer (kind_view strings payload r k)
  unfolding kind_view
  kind-given field.Container = record { text = optional-given (length strings) r.f0 r.f1; variable = tt }
  kind-given field.Choice = record { text = tt; variable = tt }
  kind-given field.Command = texted-given _ (λ h. command_given (command_named (text_or_empty strings r.f0 r.f1)))
  kind-given field.Divert =
      given_if (leb (r.f6 / 8) 2)
      (kind.Divert (optional_text (length strings) r.f0 r.f1) (optional_word r.f2) (optional_text (length strings) r.f3 r.f4) r.f5 (odd r.f6) (external r)
      (odd (r.f6 / 4)) (push_type (r.f6 / 8)))
      (record { text = optional-given (length strings) r.f0 r.f1; variable = optional-given (length strings) r.f3 r.f4 })
  kind-given field.Glue = record { text = tt; variable = tt }
  kind-given field.Operator = texted-given _ (λ h. operator_given (operator_named (text_or_empty strings r.f0 r.f1)))
  kind-given field.Tag = texted-given _ (λ h. record { text = h; variable = tt })
  kind-given field.BoolValue = record { text = tt; variable = tt }
  kind-given field.IntValue = record { text = tt; variable = tt }
  kind-given field.FloatValue = record { text = tt; variable = tt }
  kind-given field.StringValue = texted-given _ (λ h. record { text = h; variable = tt })
  kind-given field.ListValue = given_if (leb (r.f0 + r.f1) payload) (kind.Value (value.List (span r.f0 r.f1))) (record { text = tt; variable = tt })
  kind-given field.TargetValue = texted-given _ (λ h. record { text = h; variable = tt })
  kind-given field.PointerValue = texted-given _ (λ h. record { text = h; variable = tt })
  kind-given field.Assignment = texted-given _ (λ h. record { text = h; variable = tt })
  kind-given field.Reference = texted-given _ (λ h. record { text = h; variable = tt })
  kind-given field.Void = record { text = tt; variable = tt }
  kind-given field.Unknown = tt

-- ---- the words of a kind

-- the same, out of the eight words as a list
module _ (strings ws : List ℕ) where
  abbrev note_in : Bool
  note_in = eqb (get_or ws 0 0) tag_tag && is_note (text_or_empty strings (get_or ws 1 0) (get_or ws 2 0))

  abbrev hidden_in : List ℕ
  hidden_in = cond note_in (technician.value_word void_tag 0) ws

abbrev six_in : List ℕ → List ℕ
six_in ws =
    six_words (get_or ws 0 0) (text_given (get_or ws 0 0) (get_or ws 1 0)) (not (is_none (get_or ws 3 0))) (get_or ws 5 0) (get_or ws 6 0) (get_or ws 7 0)

note-value : (strings : List ℕ) (v : ValueView) → note_in strings (technician.value_words v) ≡ false
note-value strings (value.Bool b) = refl
note-value strings (value.Int n) = refl
note-value strings (value.Float bits x) = refl
note-value strings (value.String t) = refl
note-value strings (value.List t) = refl
note-value strings (value.DivertTarget t) = refl
note-value strings (value.VariablePointer t context) = refl

note-kind : (strings : List ℕ) (k : NodeKindView) → note_in strings (technician.kind_words k) ≡ note_kind strings k
note-kind strings (kind.Container flags name) = refl
note-kind strings (kind.ChoicePoint flags target) = refl
note-kind strings (kind.ControlCommand c) = refl
note-kind strings (kind.Divert path target variable arguments conditional external pushes p) = refl
note-kind strings kind.Glue = refl
note-kind strings (kind.NativeFunction o) = refl
note-kind strings (kind.Tag t) = refl
note-kind strings (kind.Value v) = note-value strings v
note-kind strings (kind.VariableAssignment t global new) = refl
note-kind strings (kind.VariableReference t target) = refl
note-kind strings kind.Void = refl

hidden-kind : (strings : List ℕ) (k : NodeKindView) → hidden_in strings (technician.kind_words k) ≡ technician.kind_words (hide_note strings k)
hidden-kind strings k = rw (note-kind strings k) (by (note_kind strings k))
  where
    by : (b : Bool) → cond b (technician.value_word void_tag 0) (technician.kind_words k) ≡ technician.kind_words (cond b kind.Void k)
    by true = refl
    by false = refl

hidden-given : (strings : List ℕ) (k : NodeKindView) → GivenKind k → GivenKind (hide_note strings k)
hidden-given strings k h = by (note_kind strings k)
  where
    by : (b : Bool) → GivenKind (cond b kind.Void k)
    by true = record { text = tt; variable = tt }
    by false = h

given_bit : (o : Option Span) → GivenText o → bit_if (not (is_none (span_or o).offset)) 1 ≡ bit_if (presence o) 1
given_bit (Some t) h = ap (λ (b : Bool). bit_if (not b) 1) h
given_bit None h = refl

six_value : (v : ValueView) → GivenText (value_text v) → six_in (technician.value_words v) ≡ value_words (value_seen v)
six_value (value.Bool b) h = refl
six_value (value.Int n) h = refl
six_value (value.Float bits x) h = refl
six_value (value.String t) h = ap (λ (b : Bool). text_kind_words string_tag (not b) NONE 0 0) h
six_value (value.List t) h = refl
six_value (value.DivertTarget t) h = ap (λ (b : Bool). text_kind_words target_tag (not b) NONE 0 0) h
six_value (value.VariablePointer t context) h = ap (λ (b : Bool). text_kind_words pointer_tag (not b) NONE (unsigned context) 0) h

six_kind : (k : NodeKindView) → GivenKind k → six_in (technician.kind_words k) ≡ kind_words (kind_seen k)
six_kind (kind.Container flags name) h = λ i. container_tag ∷ given_bit name h.text i ∷ 0 ∷ NONE ∷ 0 ∷ unsigned flags ∷ []
six_kind (kind.ChoicePoint flags target) h = refl
six_kind (kind.ControlCommand c) h = refl
six_kind (kind.Divert path target variable arguments conditional external pushes p) h =
    λ i. divert_tag ∷ given_bit path h.text i ∷ given_bit variable h.variable i ∷ word_or target ∷ arguments ∷ divert_flags conditional external pushes p ∷ []
six_kind kind.Glue h = refl
six_kind (kind.NativeFunction o) h = refl
six_kind (kind.Tag t) h = ap (λ (b : Bool). text_kind_words tag_tag (not b) NONE 0 0) h.text
six_kind (kind.Value v) h = six_value v h.text
six_kind (kind.VariableAssignment t global new) h = ap (λ (b : Bool). text_kind_words assignment_tag (not b) NONE 0 (assignment_flags global new)) h.text
six_kind (kind.VariableReference t target) h = ap (λ (b : Bool). text_kind_words reference_tag (not b) (word_or target) 0 0) h.text
six_kind kind.Void h = refl

-- ---- what the functions answer

module _ (strings : List ℕ) (w : KindWords) where
  pub other_tag : (w.tag ≡ tag_tag → ⊥) → false ≡ note_words strings w
  other_tag h = rw (ne_eqb w.tag tag_tag h) refl

  pub tag_note : w.tag ≡ tag_tag → (t : List ℕ) → t ≡ text_or_empty strings w.text.offset w.text.len → (b : Bool) → b ≡ is_note t → b ≡ note_words strings w
  tag_note h t e b q = rw (eq-eqb w.tag tag_tag h) (q ∙ ap is_note e)

  module _ (b : Bool) (e : b ≡ note_words strings w) where
    pub note-words : b ≡ true → (r : KindWords) → r ≡ value_alone void_tag 0 → r ≡ hidden_words strings w
    note-words h r q = q ∙ ap (λ (x : Bool). cond x (value_alone void_tag 0) w) (sym h ∙ e)

    pub other-words : b ≡ false → w ≡ hidden_words strings w
    other-words h = ap (λ (x : Bool). cond x (value_alone void_tag 0) w) (sym h ∙ e)

module _ (strings : List ℕ) (w u : KindWords) (hide : u ≡ hidden_words strings w) where
  -- hiding the words of a kind gives the words of the hidden kind
  words-hidden : (k : NodeKindView) → eight_of w ≡ technician.kind_words k → eight_of u ≡ technician.kind_words (hide_note strings k)
  words-hidden k e = ap eight_of hide ∙ by (note_words strings w) refl ∙ ap (hidden_in strings) e ∙ hidden-kind strings k
    where
      by : (b : Bool) → note_words strings w ≡ b → eight_of (cond b (value_alone void_tag 0) w) ≡ hidden_in strings (eight_of w)
      by true q = rw q refl
      by false q = rw q refl

  words-seen : (k : NodeKindView) → GivenKind k → eight_of w ≡ technician.kind_words k → six_of u ≡ kind_words (kind_seen (hide_note strings k))
  words-seen k g e = ap six_in (words-hidden k e) ∙ six_kind (hide_note strings k) (hidden-given strings k g)

  -- and with parent and place those of the view
  pub kind-seen : (payload : ℕ) (r : NodeRecord) → Some (eight_of w) ≡ words_of_kind (kind_view strings payload r (kind_of r.tag))
      → Some (r.parent ∷ r.place ∷ six_of u) ≡ node_answer (view_seen (hide_in strings (record_view strings payload r)))
  unfolding record_view
  kind-seen payload r h = by (kind_view strings payload r (kind_of r.tag)) (kind-given strings payload r (kind_of r.tag)) h
    where
      by : (a : Option NodeKindView) → GivenAnswer a → Some (eight_of w) ≡ words_of_kind a
          → Some (r.parent ∷ r.place ∷ six_of u) ≡ node_answer (view_seen (hide_in strings (with_kind strings payload r a)))
      by None g e = let z : ◌≡◌ {A = ℕ} 0 1 = cc in absurd (omega arith)
      by (Some k) g e =
          let q : eight_of w ≡ technician.kind_words k = cc in
          rw (words-seen k g q, word_back r.parent, word_back r.place) refl

pub kind-missing : (strings : List ℕ) (payload : ℕ) (r : NodeRecord) → None ≡ words_of_kind (kind_view strings payload r (kind_of r.tag))
    → None ≡ node_answer (view_seen (hide_in strings (record_view strings payload r)))
unfolding record_view
kind-missing strings payload r h = by (kind_view strings payload r (kind_of r.tag)) h
  where
    by : (a : Option NodeKindView) → None ≡ words_of_kind a → None ≡ node_answer (view_seen (hide_in strings (with_kind strings payload r a)))
    by None e = refl
    by (Some k) e = let z : ◌≡◌ {A = ℕ} 0 1 = cc in absurd (omega arith)

-- ---- the lent slice

six_value-words : (v : SleeperValue) → length (value_words v) ≡ 6
six_value-words (seenValue.Bool b) = refl
six_value-words (seenValue.Int n) = refl
six_value-words (seenValue.Float bits x) = refl
six_value-words seenValue.String = refl
six_value-words seenValue.List = refl
six_value-words seenValue.DivertTarget = refl
six_value-words (seenValue.VariablePointer context) = refl

six_words_lem : (k : SleeperKind) → length (kind_words k) ≡ 6
six_words_lem (seen.Container flags name) = refl
six_words_lem (seen.ChoicePoint flags target) = refl
six_words_lem (seen.ControlCommand c) = refl
six_words_lem (seen.Divert path target variable arguments conditional external pushes p) = refl
six_words_lem seen.Glue = refl
six_words_lem (seen.NativeFunction o) = refl
six_words_lem seen.Tag = refl
six_words_lem (seen.Value v) = six_value-words v
six_words_lem (seen.VariableAssignment global new) = refl
six_words_lem (seen.VariableReference target) = refl
six_words_lem seen.Void = refl

-- an answer of fewer words than a view has
pub view-short : (a : Option SleeperNode) (xs : List ℕ) → length xs < 8 → Answered (node_answer a) xs xs 18
view-short None xs h = unanswered None xs refl
view-short (Some v) xs h = let e = six_words_lem v.kind in too_short (node_words v) xs (omega arith)

-- eight words written one by one
eight_put : (xs : List ℕ) (a b c d e f g h : ℕ) → 8 ≤ length xs
    → set (set (set (set (set (set (set (set xs 0 a) 1 b) 2 c) 3 d) 4 e) 5 f) 6 g) 7 h ≡ (a ∷ b ∷ c ∷ d ∷ e ∷ f ∷ g ∷ h ∷ []) ++ drop 8 xs
eight_put (x0 ∷ x1 ∷ x2 ∷ x3 ∷ x4 ∷ x5 ∷ x6 ∷ x7 ∷ xs) a b c d e f g h l = refl
eight_put [] a b c d e f g h l = absurd (not-suc-le-zero l)
eight_put (x0 ∷ []) a b c d e f g h l = absurd (omega arith)
eight_put (x0 ∷ x1 ∷ []) a b c d e f g h l = absurd (omega arith)
eight_put (x0 ∷ x1 ∷ x2 ∷ []) a b c d e f g h l = absurd (omega arith)
eight_put (x0 ∷ x1 ∷ x2 ∷ x3 ∷ []) a b c d e f g h l = absurd (omega arith)
eight_put (x0 ∷ x1 ∷ x2 ∷ x3 ∷ x4 ∷ []) a b c d e f g h l = absurd (omega arith)
eight_put (x0 ∷ x1 ∷ x2 ∷ x3 ∷ x4 ∷ x5 ∷ []) a b c d e f g h l = absurd (omega arith)
eight_put (x0 ∷ x1 ∷ x2 ∷ x3 ∷ x4 ∷ x5 ∷ x6 ∷ []) a b c d e f g h l = absurd (omega arith)

pub words_put : (xs : List ℕ) (parent place : ℕ) (k : KindWords) → 8 ≤ length xs → (t : ℕ) → t ≡ bit_if (text_given k.tag k.text.offset) 1
    → (v : ℕ) → v ≡ bit_if (not (is_none k.variable.offset)) 1
    → set (set (set (set (set (set (set (set xs 0 parent) 1 place) 2 k.tag) 3 t) 4 v) 5 k.target) 6 k.value) 7 k.flags
    ≡ (parent ∷ place ∷ six_of k) ++ drop 8 xs
words_put xs parent place k l t e v q =
    eight_put xs parent place k.tag t v k.target k.value k.flags l
    ∙ λ i. (parent ∷ place ∷ k.tag ∷ e i ∷ q i ∷ k.target ∷ k.value ∷ k.flags ∷ []) ++ drop 8 xs

-- ---- of a node, by its record

module _ (bs : List ℕ) (v : SleeperView) (u : ImageView) (e : u ≡ with_places (length bs) v) (i : ℕ) (r : Option NodeRecord) (h : r ≡ node_found (sections_by bs u) i) where
  answer-seen : (a : Option NodeView) → a ≡ node_view (sections_by bs u) i
      → node_answer (view_seen (hide_in (sections_by bs u).strings a)) ≡ node_answer (sleeper_view (sleeper_sections bs v) i)
  unfolding sleeper_view hidden
  answer-seen a q =
      ap (λ (x : Option NodeView). node_answer (view_seen (hide_in (sections_by bs u).strings x))) q
      ∙ ap (λ (s : Sections). node_answer (view_seen (hide_in s.strings (node_view s i)))) (sections-seen bs v u e)

  pub words-missing : r ≡ None → None ≡ node_answer (sleeper_view (sleeper_sections bs v) i)
  words-missing m = answer-seen None (view-missing (sections_by bs u) i r h m)

  pub words-found : (x : NodeRecord) → r ≡ Some x → (n : ℕ) → n ≡ length (sections_by bs u).payload → (strings : List ℕ)
      → strings ≡ section_bytes bs u.strings 1
      → node_answer (view_seen (hide_in strings (record_view strings n x))) ≡ node_answer (sleeper_view (sleeper_sections bs v) i)
  words-found x m n p strings q =
      let here = strings_by bs u ∙ sym q in
      (λ j. node_answer (view_seen (hide_in (sym here j) (record_view strings n x))))
      ∙ answer-seen (record_view strings n x)
      (view-found (sections_by bs u) i r h x m n strings (sym p) here (record_view strings n x) refl)
