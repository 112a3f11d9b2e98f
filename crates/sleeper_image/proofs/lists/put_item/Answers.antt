-- `sleeper_image::lists::put_item` meets its contract.
use Rattle.sleeper_image.proofs.Entries.{no_item, item_put}
use borrow.Author.Rules.{rules}
use Rattle.sleeper_image.proofs.lists.put_item.Goals as goal

pub returns-in-None : goal.returns-in-None
returns-in-None c = search (rules, no_item)

pub returns-in-Some : goal.returns-in-Some
returns-in-Some c = search (rules, item_put)
