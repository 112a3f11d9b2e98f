-- The words of kinds with a signed field.
use Rattle.std.specs.Prelude.{Option, ℕ}
use Prim.Native.Nat.{ℕ, ◌<◌}
use mathlib.Core.Path.{◌≡◌, refl, ap}
use lib.IntN.{ℤ}
use lib.Signed.{mag}
use mir.Val.{to_z, of_z}
use mir.Syntax.{w32}
use Rattle.words.specs.Words.{NONE}
use Rattle.image.specs.Tags.{container_tag, choice_tag, int_tag, pointer_tag}
use Rattle.views.specs.declared.Span.{Span}
use Rattle.views.specs.declared.ValueView.{ValueView}
use Rattle.views.specs.declared.ValueView.TheVariants as value
use Rattle.views.specs.declared.NodeKindView.{NodeKindView}
use Rattle.views.specs.declared.NodeKindView.TheVariants as kind
use Rattle.answers.specs.declared.node.KindWords.{KindWords}
use Rattle.answers.specs.AnswerWords.{unsigned, word_or, span_or, no_span}
use Rattle.answers.specs.NodeViewWords.{value_words, kind_words}
use Rattle.answers.specs.RecordWords.{eight_of, text_alone, value_alone}
use Rattle.answers.proofs.Bits.{field_bits}

module _ (z : ℤ) (w : KindWords) (h : mag z < 2147483648) where
  pub int_words : (v : ValueView) (r : ℕ) → v ≡ value.Int z → r ≡ unsigned (to_z w32 (of_z w32 z)) → w ≡ value_alone int_tag r → eight_of w ≡ value_words v
  int_words v r g e q = rw (g, ← field_bits z r h e) (ap eight_of q)

  pub pointer_words : (v : ValueView) (t : Span) (r : ℕ) → v ≡ value.VariablePointer t z → r ≡ unsigned (to_z w32 (of_z w32 z))
      → w ≡ text_alone pointer_tag t NONE r 0 → eight_of w ≡ value_words v
  pointer_words v t r g e q = rw (g, ← field_bits z r h e) (ap eight_of q)

  pub container-words : (k : NodeKindView) (name : Option Span) → k ≡ kind.Container z name
      → w ≡ text_alone container_tag (span_or name) NONE 0 (unsigned (to_z w32 (of_z w32 z))) → eight_of w ≡ kind_words k
  container-words k name g q = rw (g, ← field_bits z _ h refl) (ap eight_of q)

  pub choice-words : (k : NodeKindView) (target : Option ℕ) → k ≡ kind.ChoicePoint z target
      → w ≡ text_alone choice_tag no_span (word_or target) 0 (unsigned (to_z w32 (of_z w32 z))) → eight_of w ≡ kind_words k
  choice-words k target g q = rw (g, ← field_bits z _ h refl) (ap eight_of q)
