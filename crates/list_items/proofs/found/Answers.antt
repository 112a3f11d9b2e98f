-- `list_items::found` meets its contract.
use borrow.Author.Rules.{rules}
use Rattle.list_items.proofs.Search.{found-made}
use Rattle.list_items.proofs.found.Goals as goal

pub returns : goal.returns
returns c = search (rules, found-made c.args.definition c.args.item c.args.value _ c.signed_of.ensures)
