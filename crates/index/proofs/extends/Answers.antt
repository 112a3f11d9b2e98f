-- `index::extends` meets its contract.
use Prim.Native.Nat.{ℕ, ◌+◌}
use mathlib.Core.Path.{refl, sym, ◌∙◌}
use mathlib.Core.List.{List}
use mathlib.Core.Bool.{true, false}
use native.Mathlib.Omega.{arith}
use lib.ListN.{length}
use lib.Seq.{length-take-le}
use borrow.Author.Tests.{le-ltb, lt-ltb, eq-eqb, ne_eqb, not-true, not-false}
use Rattle.laws.proofs.Lists.{to_end}
use Rattle.words.specs.Words.{NONE}
use Rattle.texts.specs.Dots.{dot}
use Rattle.texts.proofs.Text.{equal-same}
use Rattle.index.proofs.Extended.{Seen, extends_tests, extends_absent, text-given, seen-decides, front_shared}
use Rattle.index.proofs.extends.Goals as goal

pub returns-then-entry-eq-NONE : goal.returns-then-entry-eq-NONE
returns-then-entry-eq-NONE c = let at = c in extends_absent _ _ at.args.entry _ (rw (eq-eqb at.args.entry.offset NONE c.if-entry-eq-NONE.true))

pub returns-then-entry-eq-NONE-2 : goal.returns-then-entry-eq-NONE-2
returns-then-entry-eq-NONE-2 c =
    let at = c in
    extends_absent _ _ at.args.entry _ (rw (ne_eqb at.args.entry.offset NONE c.if-entry-eq-NONE.false, eq-eqb at.args.entry.len NONE c.if-entry-eq-NONE-2.true))

pub returns-then-text-size : goal.returns-then-text-size
returns-then-text-size c =
    let at = c.args in
    let read = c.text_part-text in
    extends_tests at.strings.now at.above at.entry at.node read.result.now read.ensures true false _ _ _ _ (sym (text-given _ _ c.if-entry-eq-NONE.false c.if-entry-eq-NONE-2.false)) (sym (le-ltb _ _ c.if-text-size.true)) refl refl refl refl

pub returns-then-text-size-ne46 : goal.returns-then-text-size-ne46
returns-then-text-size-ne46 c =
    let at = c.args in
    let read = c.text_part-text in
    extends_tests at.strings.now at.above at.entry at.node read.result.now read.ensures true true false _ _ _ (sym (text-given _ _ c.if-entry-eq-NONE.false c.if-entry-eq-NONE-2.false))
    (sym (lt-ltb at.above.len (length read.result.now) (omega (arith, c.if-text-size.false)))) (sym (ne_eqb _ dot c.if-text-size-ne46.true)) refl refl refl

pub returns-then-not-is_piece : goal.returns-then-not-is_piece
returns-then-not-is_piece c =
    let at = c.args in
    let read = c.text_part-text in
    extends_tests at.strings.now at.above at.entry at.node read.result.now read.ensures true true true false _ _ (sym (text-given _ _ c.if-entry-eq-NONE.false c.if-entry-eq-NONE-2.false))
    (sym (lt-ltb at.above.len (length read.result.now) (omega (arith, c.if-text-size.false)))) (sym (eq-eqb _ dot c.if-text-size-ne46.false))
    (sym (not-true c.is_piece.result c.if-not-is_piece.true-raw) ∙ rw (to_end (at.above.len + 1) read.result.now) at c.is_piece.ensures) refl refl

pub returns-then-not-good_bytes : goal.returns-then-not-good_bytes
returns-then-not-good_bytes c =
    let at = c.args in
    let read = c.text_part-text in
    extends_tests at.strings.now at.above at.entry at.node read.result.now read.ensures true true true true false _ (sym (text-given _ _ c.if-entry-eq-NONE.false c.if-entry-eq-NONE-2.false))
    (sym (lt-ltb at.above.len (length read.result.now) (omega (arith, c.if-text-size.false)))) (sym (eq-eqb _ dot c.if-text-size-ne46.false))
    (sym (not-false c.is_piece.result c.if-not-is_piece.false-raw) ∙ rw (to_end (at.above.len + 1) read.result.now) at c.is_piece.ensures)
    (sym (not-true c.good_bytes.result c.if-not-good_bytes.true-raw) ∙ rw (to_end (at.above.len + 1) read.result.now) at c.good_bytes.ensures) refl

pub returns-then-above-entry : goal.returns-then-above-entry
returns-then-above-entry c =
    let sized = c in
    let start = c in
    let text : List ℕ = sized.text_part-text.result.now in
    let size : ℕ = start.args.above.len in
    let seen : Seen start.args.strings.now start.args.above start.args.entry start.args.node text = record {
      given = text-given _ _ sized.if-entry-eq-NONE.false sized.if-entry-eq-NONE-2.false;
      read = sized.text_part-text.ensures;
      longer = omega (arith, sized.if-text-size.false);
      dotted = c.if-text-size-ne46.false;
      like = rw (to_end (size + 1) text) at (sym c.is_piece.ensures ∙ not-false c.is_piece.result c.if-not-is_piece.false-raw);
      good = rw (to_end (size + 1) text) at (sym c.good_bytes.ensures ∙ not-false c.good_bytes.result c.if-not-good_bytes.false-raw);
    } in
    let x = seen in seen-decides x true (sym (equal-same _ _ (front_shared x c.if-above-entry.true)))

pub slice_bounds-equal-end : goal.slice_bounds-equal-end
slice_bounds-equal-end c =
    let sized = c in
    let start = c in
    let text : List ℕ = sized.text_part-text.result.now in
    let size : ℕ = start.args.above.len in
    let seen : Seen start.args.strings.now start.args.above start.args.entry start.args.node text = record {
      given = text-given _ _ sized.if-entry-eq-NONE.false sized.if-entry-eq-NONE-2.false;
      read = sized.text_part-text.ensures;
      longer = omega (arith, sized.if-text-size.false);
      dotted = c.if-text-size-ne46.false;
      like = rw (to_end (size + 1) text) at (sym c.is_piece.ensures ∙ not-false c.is_piece.result c.if-not-is_piece.false-raw);
      good = rw (to_end (size + 1) text) at (sym c.good_bytes.ensures ∙ not-false c.good_bytes.result c.if-not-good_bytes.false-raw);
    } in
    let x = c in
    let long = seen.longer in
    sym (length-take-le size text (omega arith))

pub returns : goal.returns
returns c =
    let sized = c in
    let start = c in
    let text : List ℕ = sized.text_part-text.result.now in
    let size : ℕ = start.args.above.len in
    let seen : Seen start.args.strings.now start.args.above start.args.entry start.args.node text = record {
      given = text-given _ _ sized.if-entry-eq-NONE.false sized.if-entry-eq-NONE-2.false;
      read = sized.text_part-text.ensures;
      longer = omega (arith, sized.if-text-size.false);
      dotted = c.if-text-size-ne46.false;
      like = rw (to_end (size + 1) text) at (sym c.is_piece.ensures ∙ not-false c.is_piece.result c.if-not-is_piece.false-raw);
      good = rw (to_end (size + 1) text) at (sym c.good_bytes.ensures ∙ not-false c.good_bytes.result c.if-not-good_bytes.false-raw);
    } in
    let x = seen in seen-decides x c.equal.result (rw c.text_bytes.ensures at c.equal.ensures)
