-- `sleeper::text::put_text` meets its contract.
use Rattle.sleeper.proofs.TextPlaces.{no_copy, copy_there, copy_long}
use borrow.Author.Rules.{rules}
use Rattle.sleeper.proofs.text.put_text.Goals as goal

pub put_text_copy-requires : goal.put_text_copy-requires
put_text_copy-requires c = copy_long _ _ c.text_part-part.ensures _ c.part_length-long.ensures

pub returns-in-None : goal.returns-in-None
returns-in-None c = search (rules, no_copy)

pub returns-in-Some : goal.returns-in-Some
returns-in-Some c = search (rules, copy_there)
