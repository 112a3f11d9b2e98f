-- `answers::lists::item_words` meets its contract.
use mathlib.Core.Path.{◌≡◌}
use Rattle.answers.specs.AnswerWords.{unsigned}
use Rattle.answers.proofs.Bits.{field_bits}
use borrow.Author.Rules.{rules}
use Rattle.answers.proofs.lists.item_words.Goals as goal

pub returns : goal.returns
returns c = let e : c.unsigned_of.result ≡ unsigned c.args.item.value = search (rules, field_bits) in rw e
