-- `sleeper::text::part_length` meets its contract.
use Rattle.sleeper.proofs.TextPlaces.{outside-length, inside-length}
use borrow.Author.Rules.{rules}
use Rattle.sleeper.proofs.text.part_length.Goals as goal

pub returns-then-strings-offset : goal.returns-then-strings-offset
returns-then-strings-offset c = search (rules, outside-length)

pub returns-else-strings-offset : goal.returns-else-strings-offset
returns-else-strings-offset c = search (rules, inside-length)
