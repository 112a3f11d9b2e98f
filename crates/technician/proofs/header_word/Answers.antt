-- `technician::header_word` meets its contract.
use Rattle.technician.proofs.HeaderWords.{no_header, header-word}
use borrow.Author.Rules.{rules}
use Rattle.technician.proofs.header_word.Goals as goal

pub returns-then-bytes-lt-HEADER_LENGTH : goal.returns-then-bytes-lt-HEADER_LENGTH
returns-then-bytes-lt-HEADER_LENGTH c = search (rules, no_header)

pub returns : goal.returns
returns c = search (rules, header-word)
