-- `pages::viewed::fits_tag` meets its contract.
use borrow.Author.Tests.{eq-eqb, ne_eqb}
use Rattle.pages.specs.Viewed.{fits_tag}
use Rattle.pages.proofs.viewed.fits_tag.Goals as goal

pub returns-in-3 : goal.returns-in-3
unfolding fits_tag
returns-in-3 c = rw (eq-eqb _ 3 c.in-3.is) c.is_command.ensures

pub returns-in-6 : goal.returns-in-6
unfolding fits_tag
returns-in-6 c = rw c.in-6.is c.is_operator.ensures

pub returns-in_default : goal.returns-in_default
unfolding fits_tag
returns-in_default c = rw (ne_eqb _ 3 c.in_default.in_default-own.rest.0.1, ne_eqb _ 6 c.in_default.in_default-own.rest.1)
