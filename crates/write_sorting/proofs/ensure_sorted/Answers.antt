-- Words in order are their own sort.
use mathlib.Core.Path.{refl, sym}
use lib.ListN.{take}
use Rattle.texts.specs.Text.{by_key}
use Rattle.write_text_keys.specs.Keys.{key_in}
use Rattle.write_sorting.proofs.Laws.{key_strict}
use Rattle.write_sorting.proofs.OrderedLists.{isort-ordered}
use Rattle.write_sorting.proofs.ensure_sorted.Goals as goal

pub returns-then-in_order : goal.returns-then-in_order
returns-then-in_order c =
    let to = c in
    let key = key_in to.args.source.version to.args.nodes.now to.args.strings.now to.args.layout to.args.w.now in
    record {
      w_after = sym (isort-ordered (by_key key) (key_strict key) (take to.args.n to.args.w.now) (c.in_order.ensures c.if-in_order.true));
      w_unchanged = refl;
    }
