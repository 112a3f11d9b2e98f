-- `tree::tree_rule` meets its contract.
use mathlib.Core.Path.{◌≡◌, sym, ◌∙◌, ap}
use Prim.Native.Nat.{ℕ}
use native.Mathlib.Omega.{arith}
use lib.ListN.{get_or}
use mathlib.Core.List.{List}
use Rattle.image.proofs.Refused.{none-refused, some-refused, refused-alike}
use Rattle.image.specs.Sections.{Sections, node_count}
use Rattle.tree.specs.Parts.{parts_of}
use Rattle.tree.proofs.LoadWalk.{tree-refused, tree-passes, tree-unreached, cleared-zero, kept-words}
use Rattle.tree.proofs.tree_rule.Goals as goal

pub clear-requires : goal.clear-requires
clear-requires c =
    let Parts : Sections = parts_of c.args.version c.args.nodes.now c.args.children.now c.args.named.now c.args.strings.now in
    let count_is : c.node_count-count.result ≡ node_count Parts = c.node_count-count.ensures in
    omega (arith, count_is, c.requires.strings_in_bounds)

pub walk-requires : goal.walk-requires
walk-requires c =
    let Parts : Sections = parts_of c.args.version c.args.nodes.now c.args.children.now c.args.named.now c.args.strings.now in
    let count_is : c.node_count-count.result ≡ node_count Parts = c.node_count-count.ensures in
    record {
      fit = c.requires.fit;
      count_value = count_is;
      strings_in_bounds = omega (arith, c.clear.auto.work, c.requires.strings_in_bounds);
      by_index = λ i h. ap (λ (l : List ℕ). get_or l i 0) c.clear.ensures ∙ cleared-zero _ _ i h;
    }

pub returns-in_err-walk : goal.returns-in_err-walk
returns-in_err-walk c =
    let Parts : Sections = parts_of c.args.version c.args.nodes.now c.args.children.now c.args.named.now c.args.strings.now in
    let count_is : c.node_count-count.result ≡ node_count Parts = c.node_count-count.ensures in
    record {
      answer = refused-alike _ _ _ c.in_err-walk.was c.from_residual.ensures.1 ∙ tree-refused _ _ _ _ c.walk.ensures (some-refused _ _ c.in_err-walk.was);
      rest = kept-words _ _ _ _ _ _ count_is c.clear.ensures c.walk.ensures;
    }

pub all_marked-requires : goal.all_marked-requires
all_marked-requires c =
    let Parts : Sections = parts_of c.args.version c.args.nodes.now c.args.children.now c.args.named.now c.args.strings.now in
    let count_is : c.node_count-count.result ≡ node_count Parts = c.node_count-count.ensures in
    omega (arith, c.walk.auto.work, c.clear.auto.work, count_is, c.requires.strings_in_bounds)

pub returns-then-all_marked : goal.returns-then-all_marked
returns-then-all_marked c =
    let Parts : Sections = parts_of c.args.version c.args.nodes.now c.args.children.now c.args.named.now c.args.strings.now in
    let count_is : c.node_count-count.result ≡ node_count Parts = c.node_count-count.ensures in
    record {
      answer = sym (tree-passes _ _ _ _ c.walk.ensures (none-refused _ _ c.in_ok-walk.was) _ count_is _ c.all_marked.ensures c.if-all_marked.true);
      rest = kept-words _ _ _ _ _ _ count_is c.clear.ensures c.walk.ensures;
    }

pub returns-else-all_marked : goal.returns-else-all_marked
returns-else-all_marked c =
    let Parts : Sections = parts_of c.args.version c.args.nodes.now c.args.children.now c.args.named.now c.args.strings.now in
    let count_is : c.node_count-count.result ≡ node_count Parts = c.node_count-count.ensures in
    record {
      answer = sym (tree-unreached _ _ _ _ c.walk.ensures (none-refused _ _ c.in_ok-walk.was) _ count_is _ c.all_marked.ensures c.if-all_marked.false);
      rest = kept-words _ _ _ _ _ _ count_is c.clear.ensures c.walk.ensures;
    }
