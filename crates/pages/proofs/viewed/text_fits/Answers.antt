-- `pages::viewed::text_fits` meets its contract.
use Rattle.pages.specs.Viewed.{text_fits}
use Rattle.pages.proofs.viewed.text_fits.Goals as goal

pub returns-then-is_shown : goal.returns-then-is_shown
unfolding text_fits
returns-then-is_shown c = rw (← c.is_shown.ensures, c.if-is_shown.true, ← c.text_part.ensures) c.fits_tag.ensures

pub returns-else-is_shown : goal.returns-else-is_shown
unfolding text_fits
returns-else-is_shown c = rw (← c.is_shown.ensures, c.if-is_shown.false)
