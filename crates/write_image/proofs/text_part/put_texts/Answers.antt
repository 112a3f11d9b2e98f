-- `write_image::text_part::put_texts` meets its contract.
use mathlib.Core.Path.{◌≡◌, ap}
use Prim.Native.Nat.{◌+◌, ◌≤◌}
use native.Mathlib.Omega.{arith}
use lib.ListN.{length}
use Rattle.image.specs.Encoding.{section_out}
use Rattle.draft.specs.Source.{draft_of}
use Rattle.draft_image.specs.Written.{written}
use Rattle.write_image.proofs.Premises.{texts-room, texts_fit, payload-fits, payload-room, uses-small, stored_are, key_offsets, measured, payload_put, strings_put}
use Rattle.write_interning.specs.Uses.{texts_joined}
use Rattle.write_image.proofs.SectionLayers.{two_parts}
use Rattle.write_image.proofs.text_part.put_texts.Goals as goal

pub put_payload-requires : goal.put_payload-requires
put_payload-requires c =
    let r = c.requires in
    record {
      payload_fits = payload-fits _ _ _ _ _ _ _ _ _ _ r.told;
      words_in_bounds = omega (arith, texts-room _ _ _ _ _ _ _ r, payload-room _ _ _ _ _ _ _ _ _ _ r.told);
    }

pub slice_bounds-emit-count : goal.slice_bounds-emit-count
slice_bounds-emit-count c = let room = texts-room _ _ _ _ _ _ _ c.requires in omega arith

pub slice_bounds-emit-start : goal.slice_bounds-emit-start
slice_bounds-emit-start c = let room = texts-room _ _ _ _ _ _ _ c.requires in omega arith

pub emit-requires : goal.emit-requires
emit-requires c =
    let r = c.requires in
    let kept = stored_are _ _ _ _ _ _ _ _ _ _ r.told r.keyed in
    record {
      n_bound = (r.keyed.behind, r.keyed.placed, omega (arith, uses-small _ _ _ _ _ _ _ _ _ _ r.told, r.keyed.all));
      offsets = key_offsets _ _ _ _ _ _ _ _ _ _ r.told r.keyed;
      n_in_bounds = omega (arith, texts-room _ _ _ _ _ _ _ r, ap (λ k. length (texts_joined k)) kept);
    }

pub returns : goal.returns
returns c = λ children named definitions items t k.
    let a = c.args in
    let m = measured _ _ _ t in
    let v = section_out (written (draft_of a.source.version a.nodes.now children named definitions items a.payload.now a.strings.now)) in
    let room = texts_fit _ _ _ _ _ _ _ c.requires _ _ _ _ t k in
    let fits : length (v 6) + length (v 7) ≤ length a.out.now = omega (arith, m.payload, m.strings) in
    let at-strings : length a.payload.now ≡ length (v 6) = omega (arith, m.payload) in
    let first = payload_put _ _ _ _ _ _ _ _ _ _ _ _ t c.put_payload.ensures in
    let second = strings_put _ _ _ _ _ _ _ _ _ _ _ _ t k c.emit.ensures in
    two_parts a.out.now _ (v 6) (v 7) _ _ fits first at-strings second
