-- `views::view::is_shown` meets its contract.
use Rattle.views.proofs.Answers.{no_offset, no_length, within}
use Rattle.views.proofs.view.is_shown.Goals as goal

pub returns-then-offset-eq-NONE : goal.returns-then-offset-eq-NONE
returns-then-offset-eq-NONE c = no_offset c.args.strings c.args.offset c.args.len c.if-offset-eq-NONE.true

pub returns-then-len-eq-NONE : goal.returns-then-len-eq-NONE
returns-then-len-eq-NONE c = no_length c.args.strings c.args.offset c.args.len c.if-offset-eq-NONE.false c.if-len-eq-NONE.true

pub returns : goal.returns
returns c = within c.args.strings c.args.offset c.args.len c.if-offset-eq-NONE.false c.if-len-eq-NONE.false
