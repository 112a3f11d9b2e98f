-- `image::node_word_or_zero` meets its contract.
use Prim.Native.Nat.{ℕ, ◌+◌, ◌*◌, ◌≤◌, ◌<◌}
use mathlib.Core.Path.{sym, ◌∙◌, ap}
use native.Mathlib.Omega.{arith}
use Rattle.words.specs.Words.{NONE}
use Rattle.image.specs.Sections.{most_words, node_words}
use Rattle.image.proofs.Parts.{word_get}
use Rattle.image.proofs.Widths.{width, number-words}
use Rattle.image.proofs.node_word_or_zero.Goals as goal

-- the word's number is far below 64 bits
record Bound (version i k : ℕ) : Type 0 where
  words : i * node_words version ≤ NONE * most_words
  inside : k < most_words

pub first_word-requires : goal.first_word-requires
first_word-requires c =
    let bound : Bound c.args.version c.args.i c.args.k = record {
      words = number-words c.args.i c.args.version (omega arith);
      inside = omega (arith, c.requires, (width c.args.version).most);
    } in
    omega (arith, bound)

pub overflow_add-first_word : goal.overflow_add-first_word
overflow_add-first_word c =
    let bound : Bound c.args.version c.args.i c.args.k = record {
      words = number-words c.args.i c.args.version (omega arith);
      inside = omega (arith, c.requires, (width c.args.version).most);
    } in
    omega (arith, bound)

pub overflow_mul-first_word : goal.overflow_mul-first_word
overflow_mul-first_word c =
    let bound : Bound c.args.version c.args.i c.args.k = record {
      words = number-words c.args.i c.args.version (omega arith);
      inside = omega (arith, c.requires, (width c.args.version).most);
    } in
    omega (arith, bound)

pub returns : goal.returns
returns c =
    let at = c.args in
    c.get.ensures
    ∙ sym (word_get at.part.now (at.i * node_words at.version + at.k) _ (ap (λ (x : ℕ). 4 * (x + at.k)) c.first_word.ensures))
