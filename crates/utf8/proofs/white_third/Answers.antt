-- `utf8::white_third` meets its contract.
use native.Mathlib.Omega.{arith}
use borrow.Author.Tests.{le-leb, lt-leb}
use Rattle.laws.proofs.Cases.{cases, literal-cases}
use Rattle.utf8.specs.White.{blanks}
use Rattle.utf8.proofs.WhiteSpace.{by_third}
use Rattle.utf8.proofs.white_third.Goals as goal

pub returns-in-175 : goal.returns-in-175
unfolding blanks
returns-in-175 c = rw c.in-175.is

pub returns-in-128-to-138 : goal.returns-in-128-to-138
returns-in-128-to-138 c = by_third c.args.d _ (omega arith) (search (cases, literal-cases) depth 12)

pub returns-in-168-to-169 : goal.returns-in-168-to-169
returns-in-168-to-169 c =
    let d = c.args.d in
    by_third d _ (omega arith)
    (rw (lt-leb d 0x8a (omega arith), le-leb 0x80 d (omega arith), le-leb 0xa8 d (omega arith), le-leb d 0xa9 (omega arith)))

pub returns-in_default : goal.returns-in_default
returns-in_default c = by_third c.args.d _ (omega arith) (search (cases, literal-cases) depth 12)

pub returns-in_default-2 : goal.returns-in_default-2
returns-in_default-2 c = by_third c.args.d _ (omega arith) (search (cases, literal-cases) depth 12)

pub returns-in_default-3 : goal.returns-in_default-3
returns-in_default-3 c = by_third c.args.d _ (omega arith) (search (cases, literal-cases) depth 12)
