-- `sleeper::places::text_place` meets its contract.
use Rattle.sleeper.proofs.TextPlaces.{node-place, variable-place, named-place, definition-place, definition-item-place, item-place, entry-name-place, entry-origin-place, origin-place}
use borrow.Author.Rules.{rules}
use Rattle.sleeper.proofs.places.text_place.Goals as goal

pub returns-in-Node : goal.returns-in-Node
returns-in-Node c = search (rules, node-place)

pub returns-in-Variable : goal.returns-in-Variable
returns-in-Variable c = search (rules, variable-place)

pub returns-in-NamedChild : goal.returns-in-NamedChild
returns-in-NamedChild c = search (rules, named-place)

pub returns-in-Definition : goal.returns-in-Definition
returns-in-Definition c = search (rules, definition-place)

pub returns-in-DefinitionItem : goal.returns-in-DefinitionItem
returns-in-DefinitionItem c = search (rules, definition-item-place)

pub returns-in-Item : goal.returns-in-Item
returns-in-Item c = search (rules, item-place)

pub returns-in-EntryName : goal.returns-in-EntryName
returns-in-EntryName c = search (rules, entry-name-place)

pub returns-in-EntryOrigin : goal.returns-in-EntryOrigin
returns-in-EntryOrigin c = search (rules, entry-origin-place)

pub returns-in-Origin : goal.returns-in-Origin
returns-in-Origin c = search (rules, origin-place)
