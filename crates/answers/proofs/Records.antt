-- The words that are taken from a record are those of its view.
use Rattle.std.specs.Prelude.{None, Option, Some, ℕ}
use Prim.Native.Nat.{ℕ, zero, suc, ◌+◌, ◌*◌, ◌/◌, ◌%◌, ◌≤◌, ◌<◌}
use mathlib.Core.Path.{◌≡◌, refl, sym, ap, ◌∙◌}
use mathlib.Core.Logic.{◌⊎◌, inl, inr}
use mathlib.Core.List.{List, [], ◌∷◌, ◌++◌}
use mathlib.Core.Bool.{Bool, true, false, cond, not}
use native.Mathlib.Omega.{arith}
use native.Mathlib.Nat.{not-suc-le-zero}
use native.Mathlib.Decide.{ℕ_discrete}
use lib.ListN.{length, drop, set}
use lib.Dec.{eqb}
use borrow.Author.Tests.{eqb-true, eq-eqb, ne_eqb, le-leb, lt-leb}
use mir.Facts.{of_z-to_z}
use mir.Syntax.{w32}
use Rattle.words.specs.Words.{NONE, is_none}
use Rattle.names.specs.Names.{commands, operators, number_in}
use Rattle.names.specs.declared.control_command.CommandType.{CommandType}
use Rattle.names.specs.declared.native_function_call.Op.{Op}
use Rattle.names.specs.ControlCommand.{command_named}
use Rattle.names.specs.NativeFunctionCall.{operator_named}
use Rattle.names.proofs.Numbers.{named-number, unnamed-number}
use Rattle.names.proofs.Commands.{commands_numbered}
use Rattle.names.proofs.Operators.{operators_numbered}
use Rattle.image.specs.declared.NodeRecord.{NodeRecord}
use Rattle.records.specs.Fields.{kinds, kind_of}
use Rattle.records.specs.Flags.{odd}
use Rattle.views.specs.declared.Span.{Span}
use Rattle.views.specs.declared.ValueView.{ValueView}
use Rattle.views.specs.declared.ValueView.TheVariants as value
use Rattle.views.specs.declared.NodeKindView.{NodeKindView}
use Rattle.views.specs.declared.NodeKindView.TheVariants as kind
use Rattle.views.specs.View.{signed, span, optional_text, optional_word, push_type, of_command, of_operator, with_text, kind_view, with_kind, record_view}
use Rattle.views.specs.Shown.{container_view, divert_view, command_view, operator_view, list_view, with_name, text_kind}
use Rattle.answers.specs.declared.node.KindWords.{KindWords}
use Rattle.answers.specs.AnswerWords.{Answered, unsigned, word_or, span_or, no_span, bit_if}
use Rattle.answers.specs.NodeViewWords.{push_number, divert_flags, assignment_flags, value_words, kind_words, node_view_words, node_answer}
use Rattle.answers.specs.RecordWords.{words_found, words_of_kind, text_alone, value_alone, number_found, fields_of}
use Rattle.answers.proofs.AnswerSlices.{unanswered, too_short}
use Rattle.views.specs.declared.NodeView.{NodeView}

-- ---- a word is shown as it stands

pub word_back : (w : ℕ) → word_or (optional_word w) ≡ w
unfolding optional_word
word_back w = by (is_none w) refl
  where
    by : (b : Bool) → is_none w ≡ b → word_or (cond b None (Some w)) ≡ w
    by true e = sym (eqb-true w NONE e)
    by false e = refl

pub bits_back : (w : ℕ) → w < 4294967296 → unsigned (signed w) ≡ w
bits_back w h = of_z-to_z {w = w32} {n = w} (record { fits = h })

-- ---- flags

-- a bit, by whether the word is even
Bit : ℕ → ℕ → Type 0
Bit w k = bit_if (odd w) k ≡ k * (w % 2)

even_bit : (w k : ℕ) → w % 2 ≡ 0 → 0 ≡ k * (w % 2) → Bit w k
even_bit w k e h = unfold Bit in ap (λ (b : Bool). bit_if (not b) k) (eq-eqb (w % 2) 0 e) ∙ h

other_bit : (w k : ℕ) → (w % 2 ≡ 0 → ⊥) → k ≡ k * (w % 2) → Bit w k
other_bit w k d h = unfold Bit in ap (λ (b : Bool). bit_if (not b) k) (ne_eqb (w % 2) 0 d) ∙ h

first_bit : (w : ℕ) → bit_if (odd w) 1 ≡ 1 * (w % 2)
unfolding Bit
first_bit w = elim (ℕ_discrete (w % 2) 0) [ yes e ↦ even_bit w 1 e (omega arith) | no d ↦ other_bit w 1 d (omega arith) ]

second_bit : (w : ℕ) → bit_if (odd w) 2 ≡ 2 * (w % 2)
unfolding Bit
second_bit w = elim (ℕ_discrete (w % 2) 0) [ yes e ↦ even_bit w 2 e (omega arith) | no d ↦ other_bit w 2 d (omega arith) ]

third_bit : (w : ℕ) → bit_if (odd w) 4 ≡ 4 * (w % 2)
unfolding Bit
third_bit w = elim (ℕ_discrete (w % 2) 0) [ yes e ↦ even_bit w 4 e (omega arith) | no d ↦ other_bit w 4 d (omega arith) ]

push_number_lem : (n : ℕ) → n ≤ 2 → push_number (push_type n) ≡ 8 * n
unfolding push_type
push_number_lem zero h = refl
push_number_lem (suc zero) h = refl
push_number_lem (suc (suc zero)) h = refl
push_number_lem (suc (suc (suc n))) h = absurd (omega arith)

pub divert_flags_lem : (w : ℕ) → w / 8 ≤ 2 → divert_flags (odd w) (odd (w / 2)) (odd (w / 4)) (push_type (w / 8)) ≡ w
divert_flags_lem w h =
    let half : w / 4 ≡ w / 2 / 2 = omega arith in
    let quarter : w / 8 ≡ w / 4 / 2 = omega arith in
    rw (first_bit w, second_bit (w / 2), third_bit (w / 4), push_number_lem (w / 8) h) (omega (arith, half, quarter))

pub assignment_flags_lem : (w : ℕ) → assignment_flags (odd w) (odd (w / 2)) ≡ w % 4
assignment_flags_lem w = rw (first_bit w, second_bit (w / 2)) (omega arith)

-- ---- the kinds one by one

module _ (strings : ℕ) (r : NodeRecord) where
  pub container-found : (k : KindWords) → r.f2 < 4294967296 → (o : Option Span) (t : Span) → o ≡ optional_text strings r.f0 r.f1 → t ≡ span_or o
      → k ≡ text_alone 1 t NONE 0 r.f2 → words_found (Some k) ≡ words_of_kind (container_view strings r)
  unfolding container_view
  container-found k h o t e p q = rw (q, p, e, bits_back r.f2 h)

  pub divert-refused : 2 < r.f6 / 8 → None ≡ words_of_kind (divert_view strings r)
  unfolding divert_view
  divert-refused h = rw (lt-leb (r.f6 / 8) 2 h)

  pub divert-found : r.f6 / 8 ≤ 2 → (o p : Option Span) (t v : Span) → o ≡ optional_text strings r.f0 r.f1 → t ≡ span_or o
      → p ≡ optional_text strings r.f3 r.f4 → v ≡ span_or p
      → words_found (Some (record { tag = 4; text = t; variable = v; target = r.f2; value = r.f5; flags = r.f6 })) ≡ words_of_kind (divert_view strings r)
  unfolding divert_view
  divert-found h o p t v e f g i = rw (le-leb (r.f6 / 8) 2 h, f, e, i, g, word_back r.f2, divert_flags_lem r.f6 h)

pub list-found : (payload start len : ℕ) (k : KindWords) → start + len ≤ payload → k ≡ text_alone 12 (span start len) NONE 0 0
    → words_found (Some k) ≡ words_of_kind (list_view payload start len)
unfolding list_view
list-found payload start len k h e = rw (le-leb (start + len) payload h, e)

pub list-refused : (payload start len : ℕ) → payload < start + len → None ≡ words_of_kind (list_view payload start len)
unfolding list_view
list-refused payload start len h = rw (lt-leb (start + len) payload h)

-- ---- names

pub command_found : (t : List ℕ) (n : Option ℕ) → n ≡ number_in commands t → words_found (number_found 3 n) ≡ words_of_kind (command_view t)
unfolding command_view
command_found t n e = by (command_named t) refl n e
  where
    by : (o : Option CommandType) → command_named t ≡ o → (n : Option ℕ) → n ≡ number_in commands t
        → words_found (number_found 3 n) ≡ words_of_kind (of_command o)
    by None q None p = refl
    by None q (Some k) p = let u = unnamed-number commands_numbered t q in let z : ◌≡◌ {A = ℕ} 0 1 = cc in absurd (omega arith)
    by (Some a) q None p = let u = named-number commands_numbered t a q in let z : ◌≡◌ {A = ℕ} 0 1 = cc in absurd (omega arith)
    by (Some a) q (Some k) p = let u = named-number commands_numbered t a q in cc

pub operator_found : (t : List ℕ) (n : Option ℕ) → n ≡ number_in operators t → words_found (number_found 6 n) ≡ words_of_kind (operator_view t)
unfolding operator_view
operator_found t n e = by (operator_named t) refl n e
  where
    by : (o : Option Op) → operator_named t ≡ o → (n : Option ℕ) → n ≡ number_in operators t
        → words_found (number_found 6 n) ≡ words_of_kind (of_operator o)
    by None q None p = refl
    by None q (Some k) p = let u = unnamed-number operators_numbered t q in let z : ◌≡◌ {A = ℕ} 0 1 = cc in absurd (omega arith)
    by (Some a) q None p = let u = named-number operators_numbered t a q in let z : ◌≡◌ {A = ℕ} 0 1 = cc in absurd (omega arith)
    by (Some a) q (Some k) p = let u = named-number operators_numbered t a q in cc

-- ---- kinds that are made of a text, by the tag

module _ (strings : List ℕ) (r : NodeRecord) (t : Span) where
  abbrev Named : ℕ → Option (List ℕ) → Type 0
  Named tag a = a ≡ words_of_kind (with_name tag strings r t)

  pub named_at_lem : (k : ℕ) → r.tag ≡ k → (a : Option (List ℕ)) → Named k a → Named r.tag a
  named_at_lem k e a h = h ∙ ap (λ (x : ℕ). words_of_kind (with_name x strings r t)) (sym e)

  module _ (k : KindWords) where
    pub text-named : (r.tag ≡ 7) ⊎ ((r.tag ≡ 11) ⊎ (r.tag ≡ 13)) → k ≡ text_alone r.tag t NONE 0 0 → Named r.tag (words_found (Some k))
    unfolding with_name
    text-named (inl e) q = named_at_lem 7 e _ (rw (q, e))
    text-named (inr (inl e)) q = named_at_lem 11 e _ (rw (q, e))
    text-named (inr (inr e)) q = named_at_lem 13 e _ (rw (q, e))

    pub pointer_named : r.tag ≡ 14 → r.f2 < 4294967296 → k ≡ text_alone 14 t NONE r.f2 0 → Named r.tag (words_found (Some k))
    unfolding with_name
    pointer_named e h q = named_at_lem 14 e _ (rw (q, bits_back r.f2 h))

    pub assignment_named : r.tag ≡ 16 → k ≡ text_alone 16 t NONE 0 (r.f2 % 4) → Named r.tag (words_found (Some k))
    unfolding with_name
    assignment_named e q = named_at_lem 16 e _ (rw (q, assignment_flags_lem r.f2))

    pub reference-named : (n : ℕ) → (n ≡ 3 → ⊥) → (n ≡ 6 → ⊥) → ((n ≡ 7) ⊎ ((n ≡ 11) ⊎ (n ≡ 13)) → ⊥) → (n ≡ 14 → ⊥) → (n ≡ 16 → ⊥)
        → k ≡ text_alone 17 t r.f4 0 0 → Named n (words_found (Some k))
    unfolding with_name
    reference-named n a b c d e q =
        rw (ne_eqb n 3 a, ne_eqb n 6 b, ne_eqb n 7 (λ x. c (inl x)), ne_eqb n 11 (λ x. c (inr (inl x))), ne_eqb n 13 (λ x. c (inr (inr x))), ne_eqb n 14 d, ne_eqb n 16 e, q, word_back r.f4)

-- only these fields matter
pub name-fields : (strings : List ℕ) (tag f0 f1 f2 f4 : ℕ) (t : Span)
    → with_name tag strings (fields_of tag 0 0 f2 f4) t ≡ with_name tag strings (fields_of tag f0 f1 f2 f4) t
unfolding with_name
name-fields strings tag f0 f1 f2 f4 t = refl

pub text-fields : (strings : List ℕ) (r : NodeRecord)
    → text_kind r.tag strings (fields_of r.tag r.f0 r.f1 r.f2 r.f4) ≡ text_kind r.tag strings r
unfolding text_kind with_text with_name
text-fields strings r = refl

-- ---- kinds without a text, by the tag

module _ (strings : List ℕ) (payload : ℕ) (r : NodeRecord) (k : KindWords) where
  abbrev Viewed : ℕ → Type 0
  Viewed tag = words_found (Some k) ≡ words_of_kind (kind_view strings payload r (kind_of tag))

  viewed_at : (t : ℕ) → r.tag ≡ t → Viewed t → Viewed r.tag
  viewed_at t e h = h ∙ ap (λ (x : ℕ). words_of_kind (kind_view strings payload r (kind_of x))) (sym e)

  pub choice-viewed : r.tag ≡ 2 → r.f3 < 4294967296 → (t : Span) → t ≡ no_span → k ≡ text_alone 2 t r.f2 0 r.f3 → Viewed r.tag
  unfolding kind_view kinds
  choice-viewed e h t p q = viewed_at 2 e (rw (q, p, word_back r.f2, bits_back r.f3 h))

  pub glue_viewed : r.tag ≡ 5 → k ≡ value_alone 5 0 → Viewed r.tag
  unfolding kind_view kinds
  glue_viewed e q = viewed_at 5 e (rw q)

  pub bool_viewed : r.tag ≡ 8 → (b : ℕ) → b ≡ bit_if (not (eqb r.f0 0)) 1 → k ≡ value_alone 8 b → Viewed r.tag
  unfolding kind_view kinds
  bool_viewed e b p q = viewed_at 8 e (rw (q, p))

  pub int_viewed : r.tag ≡ 9 → r.f0 < 4294967296 → k ≡ value_alone 9 r.f0 → Viewed r.tag
  unfolding kind_view kinds
  int_viewed e h q = viewed_at 9 e (rw (q, bits_back r.f0 h))

  pub float_viewed : r.tag ≡ 10 → k ≡ value_alone 10 r.f0 → Viewed r.tag
  unfolding kind_view kinds
  float_viewed e q = viewed_at 10 e (rw q)

  pub void-viewed : r.tag ≡ 18 → k ≡ value_alone 18 0 → Viewed r.tag
  unfolding kind_view kinds
  void-viewed e q = viewed_at 18 e (rw q)

-- ---- the ten words

module _ (strings : List ℕ) (payload : ℕ) (r : NodeRecord) where
  abbrev viewed : Option NodeKindView
  viewed = kind_view strings payload r (kind_of r.tag)

  pub kind-missing : None ≡ words_of_kind viewed → None ≡ node_answer (record_view strings payload r)
  unfolding record_view
  kind-missing h = by viewed h
    where
      by : (a : Option NodeKindView) → None ≡ words_of_kind a → None ≡ node_answer (with_kind strings payload r a)
      by None e = refl
      by (Some k) e = let z : ◌≡◌ {A = ℕ} 0 1 = cc in absurd (omega arith)

  pub kind-viewed : (ws : List ℕ) → Some ws ≡ words_of_kind viewed → Some (r.parent ∷ r.place ∷ ws) ≡ node_answer (record_view strings payload r)
  unfolding record_view
  kind-viewed ws h = by viewed h
    where
      by : (a : Option NodeKindView) → Some ws ≡ words_of_kind a → Some (r.parent ∷ r.place ∷ ws) ≡ node_answer (with_kind strings payload r a)
      by None e = let z : ◌≡◌ {A = ℕ} 0 1 = cc in absurd (omega arith)
      by (Some k) e =
          let q : ws ≡ kind_words k = cc in
          rw (q, word_back r.parent, word_back r.place)

eight-value : (v : ValueView) → length (value_words v) ≡ 8
eight-value (value.Bool b) = refl
eight-value (value.Int i) = refl
eight-value (value.Float bits x) = refl
eight-value (value.String t) = refl
eight-value (value.List t) = refl
eight-value (value.DivertTarget t) = refl
eight-value (value.VariablePointer t context) = refl

pub eight : (k : NodeKindView) → length (kind_words k) ≡ 8
eight (kind.Container flags name) = refl
eight (kind.ChoicePoint flags target) = refl
eight (kind.ControlCommand c) = refl
eight (kind.Divert path target variable arguments conditional external pushes p) = refl
eight kind.Glue = refl
eight (kind.NativeFunction o) = refl
eight (kind.Tag t) = refl
eight (kind.Value v) = eight-value v
eight (kind.VariableAssignment t global new) = refl
eight (kind.VariableReference t target) = refl
eight kind.Void = refl

-- an answer of fewer words than a view has
pub view-short : (a : Option NodeView) (xs : List ℕ) → length xs < 10 → Answered (node_answer a) xs xs 18
view-short None xs h = unanswered None xs refl
view-short (Some v) xs h = let e = eight v.kind in too_short (node_view_words v) xs (omega arith)

-- ten words written one by one
pub ten_put : (xs : List ℕ) (a b c d e f g h i j : ℕ) → 10 ≤ length xs
    → set (set (set (set (set (set (set (set (set (set xs 0 a) 1 b) 2 c) 3 d) 4 e) 5 f) 6 g) 7 h) 8 i) 9 j
    ≡ (a ∷ b ∷ c ∷ d ∷ e ∷ f ∷ g ∷ h ∷ i ∷ j ∷ []) ++ drop 10 xs
ten_put (x0 ∷ x1 ∷ x2 ∷ x3 ∷ x4 ∷ x5 ∷ x6 ∷ x7 ∷ x8 ∷ x9 ∷ xs) a b c d e f g h i j l = refl
ten_put [] a b c d e f g h i j l = absurd (not-suc-le-zero l)
ten_put (x0 ∷ []) a b c d e f g h i j l = absurd (omega arith)
ten_put (x0 ∷ x1 ∷ []) a b c d e f g h i j l = absurd (omega arith)
ten_put (x0 ∷ x1 ∷ x2 ∷ []) a b c d e f g h i j l = absurd (omega arith)
ten_put (x0 ∷ x1 ∷ x2 ∷ x3 ∷ []) a b c d e f g h i j l = absurd (omega arith)
ten_put (x0 ∷ x1 ∷ x2 ∷ x3 ∷ x4 ∷ []) a b c d e f g h i j l = absurd (omega arith)
ten_put (x0 ∷ x1 ∷ x2 ∷ x3 ∷ x4 ∷ x5 ∷ []) a b c d e f g h i j l = absurd (omega arith)
ten_put (x0 ∷ x1 ∷ x2 ∷ x3 ∷ x4 ∷ x5 ∷ x6 ∷ []) a b c d e f g h i j l = absurd (omega arith)
ten_put (x0 ∷ x1 ∷ x2 ∷ x3 ∷ x4 ∷ x5 ∷ x6 ∷ x7 ∷ []) a b c d e f g h i j l = absurd (omega arith)
ten_put (x0 ∷ x1 ∷ x2 ∷ x3 ∷ x4 ∷ x5 ∷ x6 ∷ x7 ∷ x8 ∷ []) a b c d e f g h i j l = absurd (omega arith)
