-- `lookups::find` meets its contract: the texts that are compared are those of the entries.
use borrow.Author.Rules.{rules}
use Rattle.words.specs.Words.{words_of}
use Rattle.lookups.specs.Lookup.{searched}
use Rattle.lookups.proofs.Lookups.{texts_from}
use Rattle.lookups.proofs.find.Goals as goal

pub returns : goal.returns
unfolding searched
returns c =
    let x = c.args in
    c.halve.ensures (texts_from (words_of x.part.now) x.strings.now x.from) x.name.now (λ k o h p. search rules)
