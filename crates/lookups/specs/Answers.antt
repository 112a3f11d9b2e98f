-- The number and the value of a list item's answer: 0 and the item, or 18.
use Rattle.std.specs.Prelude.{None, Option, Some}
use Rattle.image.specs.Refusals.{not_found}
use Rattle.views.specs.Answers.{Answer, given, refused}
use Rattle.lookups.specs.declared.ListItem.{ListItem}

abbrev pub of_list_item : Option ListItem → Answer ListItem
of_list_item (Some i) = given i
of_list_item None = refused not_found
