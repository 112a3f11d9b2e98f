-- `utf8::white` meets its contract.
use native.Mathlib.Omega.{arith}
use Rattle.laws.proofs.Cases.{cases, literal-cases}
use Rattle.utf8.specs.White.{blanks}
use Rattle.utf8.proofs.WhiteSpace.{by_first}
use Rattle.utf8.proofs.white.Goals as goal

pub returns-in-32 : goal.returns-in-32
unfolding blanks
returns-in-32 c = rw c.in-32.is

pub returns-in-194 : goal.returns-in-194
unfolding blanks
returns-in-194 c = rw c.in-194.is c.white_latin.ensures

pub returns-in-225 : goal.returns-in-225
unfolding blanks
returns-in-225 c = rw c.in-225.is c.white_pair.ensures

pub returns-in-226 : goal.returns-in-226
unfolding blanks
returns-in-226 c = rw c.in-226.is c.white_second.ensures

pub returns-in-227 : goal.returns-in-227
unfolding blanks
returns-in-227 c = rw c.in-227.is c.white_pair-in-227.ensures

pub returns-in-9-to-13 : goal.returns-in-9-to-13
returns-in-9-to-13 c =
    let r = c.in-9-to-13.in_default-own.rest in
    by_first c.args.b _ _ _ (omega arith) r.0.0.0.1 r.0.0.1 r.0.1 r.1 (search (cases, literal-cases) depth 12)

pub returns-in_default : goal.returns-in_default
returns-in_default c =
    let r = c.in_default.in_default-own.rest in
    by_first c.args.b _ _ _ (omega arith) r.0.0.0.1 r.0.0.1 r.0.1 r.1 (search (cases, literal-cases) depth 12)

pub returns-in_default-2 : goal.returns-in_default-2
returns-in_default-2 c =
    let r = c.in_default.in_default-own.rest in
    by_first c.args.b _ _ _ (omega arith) r.0.0.0.1 r.0.0.1 r.0.1 r.1 (search (cases, literal-cases) depth 12)
