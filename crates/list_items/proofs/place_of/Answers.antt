-- `list_items::place_of` meets its contract: the texts that are compared are those of the items.
use borrow.Author.Rules.{rules}
use Rattle.words.specs.Words.{words_of}
use Rattle.lookups.specs.Lookup.{searched}
use Rattle.lookups.proofs.Lookups.{texts_from}
use Rattle.list_items.proofs.Search.{items-within}
use Rattle.list_items.proofs.place_of.Goals as goal

pub halve-requires : goal.halve-requires
halve-requires c = λ k h. let m = items-within _ _ _ _ k c.items_inside-count.ensures h in search rules

pub returns : goal.returns
unfolding searched
returns c =
    let x = c.args in
    rw (← c.items_inside-count.ensures)
    (c.halve.ensures (texts_from (words_of x.items.now) x.strings.now x.definition.first) x.name.now (λ k o h p. search rules))
