-- `sleeper::sections::with_places` meets its contract.
use Rattle.sleeper.proofs.SectionPlaces.{placed-there, past_end, too_long}
use borrow.Author.Rules.{rules}
use Rattle.sleeper.proofs.sections.with_places.Goals as goal

pub returns-then-length : goal.returns-then-length
returns-then-length c = search (rules, too_long)

pub returns-then-length-strings : goal.returns-then-length-strings
returns-then-length-strings c = search (rules, past_end)

pub returns : goal.returns
returns c =
    let tested = c in
    let ended = tested in
    placed-there _ _ _ ended.nodes_end-children.ensures.value _ ended.end_of-named.ensures _ ended.end_of-definitions.ensures _ ended.end_of-items.ensures _ ended.end_of-index.ensures _ ended.end_of-payload.ensures _ ended.end_of-strings.ensures
    tested.if-length.false tested.if-length-strings.false _ _ _ _ _ _ _ _ c.section.ensures c.section-2.ensures c.section-3.ensures c.section-4.ensures c.section-5.ensures c.section-6.ensures c.section-7.ensures c.section-8.ensures
