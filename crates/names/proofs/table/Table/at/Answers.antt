-- `names::table::Table::at` meets its contract: the name lies inside.
use mathlib.Core.Path.{sym}
use native.Mathlib.Omega.{arith}
use borrow.Author.Rules.{rules}
use Rattle.names.proofs.Tables.{count, name_at_lem, inside}
use Rattle.names.proofs.table.Table.at.Goals as goal

pub bounds-self-at : goal.bounds-self-at
bounds-self-at g c = omega (arith, count c.args.self.now)

pub bounds-self-at-2 : goal.bounds-self-at-2
bounds-self-at-2 g c = omega (arith, count c.args.self.now)

pub slice_bounds-result-count : goal.slice_bounds-result-count
slice_bounds-result-count g c = let h = inside c.args.self.now c.args.number c.requires in search (rules, h)

pub slice_bounds-result-start : goal.slice_bounds-result-start
slice_bounds-result-start g c = let h = inside c.args.self.now c.args.number c.requires in search (rules, h)

pub slice_bounds-result-end : goal.slice_bounds-result-end
slice_bounds-result-end g c = let h = inside c.args.self.now c.args.number c.requires in search (rules, h)

pub returns-clause-bytes : goal.returns-clause-bytes
returns-clause-bytes g c =
    rw (c.from-start.ensures, c.from-end.ensures, c.from-at.ensures) (sym (name_at_lem c.args.self.now c.args.number c.requires))

pub returns-clause-short : goal.returns-clause-short
returns-clause-short g c = let h = inside c.args.self.now c.args.number c.requires in grind (arith, h)
