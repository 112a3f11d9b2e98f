-- `views::lists::list_entry_name` meets its contract.
use Rattle.views.specs.Lists.{list_entry_name}
use Rattle.views.proofs.lists.list_entry_name.Goals as goal

pub returns-in-None : goal.returns-in-None
unfolding list_entry_name
returns-in-None c = rw (← c.list_entry.ensures, c.in-None.is)

pub returns-in-Some : goal.returns-in-Some
unfolding list_entry_name
returns-in-Some c = rw (← c.list_entry.ensures, c.in-Some.is) c.text_part.ensures
