-- `write_image::fill` meets its contract.
use mathlib.Core.Path.{refl, sym}
use native.Mathlib.Omega.{arith}
use lib.Seq.{length-take-le}
use Rattle.write_image.proofs.SectionRuns.{long-enough, body_end, sectioned, image_put}
use Rattle.write_image.proofs.fill.Goals as goal

pub put_header-requires : goal.put_header-requires
put_header-requires c =
    let p = c.requires in (omega (arith, p.s_in_bounds), long-enough _ _ _ _ p.fact)

pub places_of-places-requires : goal.places_of-places-requires
places_of-places-requires c = long-enough _ _ _ _ c.requires.fact

pub overflow_add-end : goal.overflow_add-end
overflow_add-end c =
    let p = c.requires in
    omega (arith, p.s_in_bounds, body_end _ _ _ _ p.fact _ c.places_of-places.ensures)

pub put_sections-requires : goal.put_sections-requires
put_sections-requires c =
    let p = c.requires in
    let places = c.places_of-places.ensures in
    sectioned _ _ _ _ p.fact _ _ places (omega (arith, p.s_in_bounds, body_end _ _ _ _ p.fact _ places))

pub slice_bounds-put_checksum-end : goal.slice_bounds-put_checksum-end
slice_bounds-put_checksum-end c =
    let p = c.requires in
    let places_of = c.places_of-places in
    omega (arith, p.s_in_bounds, body_end _ _ _ _ p.fact _ places_of.ensures)

pub slice_bounds-put_checksum-end-2 : goal.slice_bounds-put_checksum-end-2
slice_bounds-put_checksum-end-2 c =
    let p = c.requires in
    sym (length-take-le _ _ (omega (arith, p.s_in_bounds, body_end _ _ _ _ p.fact _ c.places_of-places.ensures)))

pub returns : goal.returns
returns c =
    let p = c.requires in
    let put-header = c.put_header in
    let places_of = c.places_of-places in
    let put-sections = c.put_sections in
    image_put _ _ _ _ p.fact _ _ _ _ _ _ _ places_of.ensures p.s_in_bounds put-header.ensures
    put-sections.ensures refl c.put_checksum.ensures
