-- `writer::put_image` meets its contract.
use Rattle.draft.specs.Source.{draft_of}
use Rattle.writer.proofs.ImageOutput.{put_long, put_short, fill_asks, put_done}
use Rattle.writer.proofs.put_image.Goals as goal

pub returns-then-out-length : goal.returns-then-out-length
returns-then-out-length c =
    let to = c.args in
    let asked = c.requires in
    let image-length = c.image_length in
    let s = draft_of to.source.version to.draft.nodes.now to.draft.children.now to.draft.named.now to.draft.definitions.now to.draft.items.now to.draft.payload.now to.draft.strings.now in
    put_short to.ink s to.work.now to.layout to.counts asked to.out.now _ image-length.ensures _
    c.in-Some.is c.if-out-length.true

pub fill-requires : goal.fill-requires
fill-requires c =
    let to = c.args in
    let asked = c.requires in
    let image-length = c.image_length in
    let s = draft_of to.source.version to.draft.nodes.now to.draft.children.now to.draft.named.now to.draft.definitions.now to.draft.items.now to.draft.payload.now to.draft.strings.now in
    record {
      fact = (fill_asks to.ink s to.work.now to.layout to.counts asked to.out.now _ image-length.ensures _ c.in-Some.is
          c.if-out-length.false).0;
      s_in_bounds = (fill_asks to.ink s to.work.now to.layout to.counts asked to.out.now _ image-length.ensures _ c.in-Some.is
          c.if-out-length.false).1;
    }

pub returns-in-None : goal.returns-in-None
returns-in-None c =
    let to = c.args in
    let asked = c.requires in
    let s = draft_of to.source.version to.draft.nodes.now to.draft.children.now to.draft.named.now to.draft.definitions.now to.draft.items.now to.draft.payload.now to.draft.strings.now in
    put_long to.ink s to.work.now to.layout to.counts asked to.out.now _ c.image_length.ensures
    c.in-None.is

pub returns-else-out-length : goal.returns-else-out-length
returns-else-out-length c =
    let to = c.args in
    let asked = c.requires in
    let image-length = c.image_length in
    let if1 = c.if-out-length in
    let s = draft_of to.source.version to.draft.nodes.now to.draft.children.now to.draft.named.now to.draft.definitions.now to.draft.items.now to.draft.payload.now to.draft.strings.now in
    put_done to.ink s to.work.now to.layout to.counts asked to.out.now _ image-length.ensures _ c.in-Some.is if1.false _
    c.fill.ensures
