-- `index::no_name` meets its contract.
use mathlib.Core.Path.{sym}
use Rattle.index.proofs.Readers.{name-empty, name-none, name-there}
use Rattle.index.proofs.no_name.Goals as goal

pub returns-then-len-eq0 : goal.returns-then-len-eq0
returns-then-len-eq0 c = let at = c.args in sym (name-empty at.offset at.len c.if-len-eq0.true)

pub returns-then-len-eq-NONE : goal.returns-then-len-eq-NONE
returns-then-len-eq-NONE c = let at = c.args in sym (name-none at.offset at.len c.if-len-eq-NONE.true)

pub returns-else-len-eq-NONE : goal.returns-else-len-eq-NONE
returns-else-len-eq-NONE c = let at = c.args in sym (name-there at.offset at.len c.if-len-eq0.false c.if-len-eq-NONE.false)
