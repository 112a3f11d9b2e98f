-- `writer::write` meets its contract.
use Rattle.writer.proofs.PlannedImage.{layout_asks, prepare_asks, image_asks, write-refused, write-made}
use mathlib.Core.Path.{◌≡◌, ap}
use Rattle.image.specs.Refusals.{numbered}
use Rattle.writer.proofs.Errors.{refused-encoded}
use lib.ListN.{length}
use borrow.Author.Rules.{rules}
use Rattle.writer.proofs.write.Goals as goal

pub layout_of-layout-requires : goal.layout_of-layout-requires
layout_of-layout-requires c =
    let to = c.args in
    let asked = c.requires in
    layout_asks to.ink to.source.version to.draft.nodes.now to.draft.children.now to.draft.named.now to.draft.definitions.now to.draft.items.now to.draft.payload.now
    to.draft.strings.now asked.fact.0 asked.fact.1 to.out.now to.work.now asked.work_value _ c.entry_counts-counts.ensures

pub prepare-requires : goal.prepare-requires
prepare-requires c =
    let to = c.args in
    let asked = c.requires in
    let entry-counts = c.entry_counts-counts in
    prepare_asks to.ink to.source.version to.draft.nodes.now to.draft.children.now to.draft.named.now to.draft.definitions.now to.draft.items.now to.draft.payload.now
    to.draft.strings.now asked.fact.0 asked.fact.1 to.out.now to.work.now asked.work_value _ entry-counts.ensures _ c.layout_of-layout.ensures

pub put_image-requires : goal.put_image-requires
put_image-requires c =
    let kept : length c.prepare.new.w ≡ length c.args.work.now = search rules in
    let to = c.args in
    let asked = c.requires in
    let entry-counts = c.entry_counts-counts in
    let layout_of = c.layout_of-layout in
    let prepare = c.prepare in
    image_asks to.ink to.source.version to.draft.nodes.now to.draft.children.now to.draft.named.now to.draft.definitions.now to.draft.items.now to.draft.payload.now
    to.draft.strings.now asked.fact.0 asked.fact.1 to.out.now to.work.now asked.work_value _ entry-counts.ensures _ layout_of.ensures
    prepare.new.w kept _ prepare.ensures _ _ (ap numbered c.in_ok-planned.was)

pub returns-in_err-planned : goal.returns-in_err-planned
returns-in_err-planned c =
    let to = c.args in
    let asked = c.requires in
    let entry-counts = c.entry_counts-counts in
    let layout_of = c.layout_of-layout in
    let prepare = c.prepare in
    rw (refused-encoded _ _ c.from_residual.ensures.1)
    (write-refused to.ink to.source.version to.draft.nodes.now to.draft.children.now to.draft.named.now to.draft.definitions.now to.draft.items.now to.draft.payload.now
    to.draft.strings.now asked.fact.0 asked.fact.1 to.out.now to.work.now asked.work_value _ entry-counts.ensures _ layout_of.ensures
    prepare.new.w (search rules) _ prepare.ensures _ (ap numbered c.in_err-planned.was))

pub returns : goal.returns
returns c =
    let kept : length c.prepare.new.w ≡ length c.args.work.now = search rules in
    let to = c.args in
    let asked = c.requires in
    let entry-counts = c.entry_counts-counts in
    let layout_of = c.layout_of-layout in
    let prepare = c.prepare in
    let put-image = c.put_image in
    write-made to.ink to.source.version to.draft.nodes.now to.draft.children.now to.draft.named.now to.draft.definitions.now to.draft.items.now to.draft.payload.now
    to.draft.strings.now asked.fact.0 asked.fact.1 to.out.now to.work.now asked.work_value _ entry-counts.ensures _ layout_of.ensures
    prepare.new.w kept _ prepare.ensures _ _ (ap numbered c.in_ok-planned.was)
    put-image.new.out _ put-image.ensures
