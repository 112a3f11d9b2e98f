-- `sleeper_image::lists::entry_words` meets its contract.
use mathlib.Core.Path.{◌≡◌, refl}
use Rattle.answers.specs.AnswerWords.{unsigned}
use Rattle.answers.proofs.Bits.{field_bits}
use borrow.Author.Rules.{rules}
use Rattle.sleeper_image.proofs.lists.entry_words.Goals as goal

pub returns : goal.returns
returns c = let e : c.unsigned_of.result ≡ unsigned c.args.entry.value = search (rules, field_bits) in rw (e, ← c.bit_if.ensures) refl
