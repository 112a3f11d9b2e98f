-- `image::is_uncut` meets its contract.
use mathlib.Core.Path.{sym}
use mathlib.Core.Bool.{true≢false}
use borrow.Author.Rules.{rules}
use Rattle.image.proofs.Parts.{uncut_good}
use Rattle.image.proofs.is_uncut.Goals as goal

pub returns-then-offset-eq-NONE : goal.returns-then-offset-eq-NONE
returns-then-offset-eq-NONE c = λ e g. absurd (true≢false (sym e))

pub returns-then-len-eq-NONE : goal.returns-then-len-eq-NONE
returns-then-len-eq-NONE c = λ e g. absurd (true≢false (sym e))

pub returns-then-strings-end : goal.returns-then-strings-end
returns-then-strings-end c = λ e g. absurd (true≢false (sym e))

pub returns-then-cuts : goal.returns-then-cuts
returns-then-cuts c = λ e g. absurd (true≢false (sym e))

pub returns : goal.returns
returns c =
    λ e g.
    uncut_good _ _ _ _ _ (search rules) (search rules) (search rules) c.cuts.ensures c.cuts-2.ensures c.if-cuts.false e g
