-- `write_image::list_part::put_lists` meets its contract.
use mathlib.Core.Path.{◌≡◌, refl}
use Prim.Native.Nat.{◌+◌, ◌*◌, ◌/◌, ◌≤◌}
use native.Mathlib.Omega.{arith}
use lib.ListN.{length}
use Rattle.image.specs.Encoding.{section_out}
use Rattle.image.specs.Sections.{text_entry_words, definition_words, text_entry_size, definition_size}
use Rattle.draft.specs.Source.{draft_of}
use Rattle.draft_image.specs.Written.{written}
use Rattle.write_image.proofs.Premises.{lists-room, definitions-texts, items_sum, index_fit, measured, definitions_put, items_put, index_put}
use Rattle.write_image.proofs.SectionLayers.{three-parts}
use Rattle.write_image.proofs.list_part.put_lists.Goals as goal

pub put_definitions-requires : goal.put_definitions-requires
put_definitions-requires c =
    let r = c.requires in
    let text = r.at in
    record {
      definition_words_in_bounds = omega (arith, definitions-texts _ _ _ _ _ _ _ _ _ _ r.told);
      definition_words_in_bounds_2 = omega (arith, lists-room _ _ _ _ _ _ _ r);
    }

pub slice_bounds-put_items-count : goal.slice_bounds-put_items-count
slice_bounds-put_items-count c = let room = lists-room _ _ _ _ _ _ _ c.requires in omega arith

pub slice_bounds-put_items-start : goal.slice_bounds-put_items-start
slice_bounds-put_items-start c = let room = lists-room _ _ _ _ _ _ _ c.requires in omega arith

pub put_items-requires : goal.put_items-requires
put_items-requires c =
    let r = c.requires in
    let text = r.at in
    record {
      definition_words_in_bounds = omega (arith, definitions-texts _ _ _ _ _ _ _ _ _ _ r.told);
      definition_words_in_bounds_2 = omega (arith, lists-room _ _ _ _ _ _ _ r, items_sum _ _ _ _ _ _ _ _ _ _ r.told);
    }

pub slice_bounds-put_index-count : goal.slice_bounds-put_index-count
slice_bounds-put_index-count c = let room = lists-room _ _ _ _ _ _ _ c.requires in omega arith

pub slice_bounds-put_index-start : goal.slice_bounds-put_index-start
slice_bounds-put_index-start c = let room = lists-room _ _ _ _ _ _ _ c.requires in omega arith

pub put_index-requires : goal.put_index-requires
put_index-requires c =
    let r = c.requires in
    record {
      index_fit = index_fit _ _ _ _ _ _ _ _ _ _ r.told _ r.indexed;
      count_in_bounds = omega (arith, lists-room _ _ _ _ _ _ _ r);
    }

pub returns : goal.returns
returns c = λ version nodes children named payload strings t at i.
    let a = c.args in
    let m = measured _ _ _ t in
    let v = section_out (written (draft_of version nodes children named a.definitions.now a.items.now payload strings)) in
    let room = lists-room _ _ _ _ _ _ _ c.requires in
    let fits : length (v 3) + length (v 4) + length (v 5) ≤ length a.out.now = omega (arith, m.definitions, m.items, m.index, i.all) in
    let at-items : length a.definitions.now / definition_words * definition_size ≡ length (v 3) = omega (arith, m.definitions) in
    let at-index : length a.definitions.now / definition_words * definition_size + length a.items.now / text_entry_words * text_entry_size ≡ length (v 3) + length (v 4) = omega (arith, m.definitions, m.items) in
    let first = definitions_put _ _ _ _ _ _ _ _ _ _ _ _ t _ at c.put_definitions.ensures in
    let second = items_put _ _ _ _ _ _ _ _ _ _ _ _ t _ at c.put_items.ensures in
    let third = index_put _ _ _ _ _ _ _ _ _ _ _ _ t _ i c.put_index.ensures in
    three-parts a.out.now _ _ (v 3) (v 4) (v 5) _ _ _ _ fits first at-items second refl at-index third
