-- `write_numbering::number` meets its contract.
use Prim.Native.Nat.{ℕ, ◌+◌, ◌*◌}
use mathlib.Core.Path.{◌≡◌, sym, ap, ◌∙◌}
use mathlib.Core.List.{List}
use mathlib.Core.Bool.{false≢true}
use native.Mathlib.Omega.{arith}
use lib.ListN.{get_or}
use borrow.Author.Tests.{not-true, not-false}
use Rattle.image.specs.Sections.{text_entry_words, child_word, named_word}
use Rattle.tree.specs.Tree.{read_walk, all_seen}
use Rattle.tree.proofs.LoadWalk.{cleared-zero}
use Rattle.write_numbering.specs.Work.{tree_of}
use Rattle.write_numbering.proofs.WalkMarks.{InWords}
use Rattle.write_numbering.proofs.WorkWords.{read_all}
use Rattle.write_numbering.proofs.NumberLoop.{rest-kept, marks-right, numbers-right, numbers-rest}
use Rattle.write_numbering.proofs.number.Goals.{After-all_marked}
use Rattle.write_numbering.proofs.number.Goals as goal

-- whether every node is marked is whether every node was seen
answer : (c : After-all_marked) → let s = tree_of c.args.source.version c.args.nodes.now c.args.children.now c.args.named.now in
    c.all_marked.result ≡ all_seen s (read_walk s).seen
answer c = c.all_marked.ensures ∙ read_all _ _ _ c.walk.ensures _ c.node_count-count.ensures

in_words : (c : After-all_marked) → InWords (tree_of c.args.source.version c.args.nodes.now c.args.children.now c.args.named.now)
unfolding child_word named_word
in_words c =
    record {
      child = λ j. omega (arith, c.shared_slice_known-2-1.given j);
      named = λ j. omega (arith, c.shared_slice_known-3-1.given (j * text_entry_words + 2));
    }

pub clear-requires : goal.clear-requires
clear-requires c = omega (arith, c.node_count-count.ensures, c.requires.3)

pub walk-requires : goal.walk-requires
walk-requires c =
    record {
      fact = (
        c.requires.0,
        c.requires.1,
        c.node_count-count.ensures,
        omega (arith, c.clear.auto.work, c.requires.2, c.requires.3),
      );
      by_index = λ i h. ap (λ (l : List ℕ). get_or l i 0) c.clear.ensures ∙ cleared-zero _ _ i h;
    }

pub all_marked-requires : goal.all_marked-requires
all_marked-requires c =
    omega (arith, c.walk.auto.work, c.clear.auto.work, c.requires.3, c.node_count-count.ensures)

pub returns-then-not-all_marked : goal.returns-then-not-all_marked
returns-then-not-all_marked c =
    record {
      answer = sym (not-true _ c.if-not-all_marked.true-raw) ∙ answer (goal.at.returns-then-not-all_marked c).After-all_marked;
      numbers = λ e. absurd (false≢true e);
      rest = rest-kept _ _ _ c.walk.ensures _ c.node_count-count.ensures _ _ c.requires.2 c.clear.ensures;
    }

pub set_numbers-requires : goal.set_numbers-requires
set_numbers-requires c =
    let all = sym (answer (goal.at.set_numbers-requires c).After-all_marked) ∙ not-false _ c.if-not-all_marked.false-raw in
    record {
      marks = marks-right _ _ _ c.walk.ensures c.requires.0 c.requires.1 (in_words (goal.at.set_numbers-requires c).After-all_marked) all _ c.node_count-count.ensures;
      count_le_base = (
        omega (arith, c.requires.2, c.node_count-count.ensures),
        omega (arith, c.walk.auto.work, c.clear.auto.work, c.requires.3, c.node_count-count.ensures),
      );
    }

pub returns : goal.returns
returns c =
    let count = c.node_count-count.ensures in
    let set = c.set_numbers.ensures in
    let all = sym (answer (goal.at.returns c).After-all_marked) ∙ not-false _ c.if-not-all_marked.false-raw in
    let kept = rest-kept _ _ _ c.walk.ensures _ count _ _ c.requires.2 c.clear.ensures in
    record {
      answer = sym all;
      numbers = λ e. numbers-right _ _ _ c.walk.ensures c.requires.0 c.requires.1 (in_words (goal.at.returns c).After-all_marked) all _ count _ _ set;
      rest = numbers-rest _ _ count _ _ _ set ∙ kept;
    }
