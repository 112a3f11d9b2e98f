-- `texts::first_dot` meets its contract: it is the place of the first byte that is a dot.
use mathlib.Core.Path.{◌∙◌}
use borrow.Author.Rules.{rules}
use Rattle.std.proofs.Common.{tests}
use lib.Dec.{eqb}
use Rattle.std.proofs.lemmas.Iterator.{YieldsList-from_slice}
use Rattle.std.proofs.lemmas.Iterator.Search.{position_from_yields_List}
use Rattle.texts.proofs.Dots.{dot_or_end}
use Rattle.texts.proofs.first_dot.Goals as goal

pub returns : goal.returns
returns c =
    let t = c.args.t.now in
    let found = position_from_yields_List (λ b. eqb b 46) _ _ c.position.result c.position.ensures.ran (YieldsList-from_slice t cc) (λ x b q k. search (rules, tests)) in
    c.unwrap_or.ensures ∙ dot_or_end t c.position.result found
