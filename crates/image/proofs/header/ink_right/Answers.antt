-- `image::header::ink_right` meets its contract.
use borrow.Author.Rules.{rules}
use borrow.Author.Tests.{le-leb, lt-leb}
use Rattle.image.proofs.header.ink_right.Goals as goal

pub returns-then-version-lt-FIRST_INK_VERSION : goal.returns-then-version-lt-FIRST_INK_VERSION
returns-then-version-lt-FIRST_INK_VERSION c = search (rules, le-leb, lt-leb)

pub returns-then-version-le-LAST_INK_VERSION : goal.returns-then-version-le-LAST_INK_VERSION
returns-then-version-le-LAST_INK_VERSION c = search (rules, le-leb, lt-leb)

pub returns-else-version-le-LAST_INK_VERSION : goal.returns-else-version-le-LAST_INK_VERSION
returns-else-version-le-LAST_INK_VERSION c = search (rules, le-leb, lt-leb)
