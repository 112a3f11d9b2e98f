-- `draft_walks::find` meets its contract: the texts that are compared are those of the entries.
use borrow.Author.Rules.{rules}
use Rattle.lookups.specs.Lookup.{searched}
use Rattle.lookups.proofs.Lookups.{texts_from}
use Rattle.draft_walks.proofs.find.Goals as goal

pub returns : goal.returns
unfolding searched
returns c =
    let x = c.args in
    c.halve.ensures (texts_from x.named.now x.strings.now x.from) x.name.now (λ k o h p. search rules)
