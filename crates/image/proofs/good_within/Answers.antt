-- `image::good_within` meets its contract.
use mathlib.Core.Path.{sym}
use borrow.Author.Tests.{not-false}
use Rattle.image.proofs.good_within.Goals as goal

pub returns-then-is_uncut : goal.returns-then-is_uncut
returns-then-is_uncut c = sym (c.is_uncut.ensures c.if-is_uncut.true (c.requires (not-false _ c.if-not-whole.false-raw)))
