-- `tree::push_named` meets its contract.
use mathlib.Core.Path.{sym, ◌∙◌}
use native.Mathlib.Omega.{arith}
use Rattle.image.proofs.Refused.{none-refused, refused-alike, some-refused}
use Rattle.words.proofs.Words.{length-words}
use Rattle.tree.proofs.Stack.{push_start, push_more, push_end, push_stop}
use Rattle.tree.proofs.Tests.{named_is}
use Rattle.tree.proofs.push_named.Goals as goal

pub loop-j-init : goal.loop-j-init
loop-j-init c = push_start _ _ _ _ _ _

pub named_rule-requires : goal.named_rule-requires
named_rule-requires c =
    let start = c in
    record {
      text_entry_size_in_bounds = omega (arith, length-words start.args.named.now);
      first_value = start.requires.start_value;
    }

pub returns-in_err-named_rule : goal.returns-in_err-named_rule
returns-in_err-named_rule c =
    rw (refused-alike _ _ _ c.in_err-named_rule.was c.from_residual.ensures.1)
    (push_stop _ _ _ _ _ _ _ _ c.loop-j.invariant _ c.loop-j-test.true (some-refused _ _ c.in_err-named_rule.was) (sym c.named_rule.ensures))

pub overflow_add-start : goal.overflow_add-start
overflow_add-start c = omega (arith, length-words c.args.named.now)

pub text_entry-entry-requires : goal.text_entry-entry-requires
text_entry-entry-requires c = omega (arith, length-words c.args.named.now)

pub loop-j-preserved : goal.loop-j-preserved
loop-j-preserved c =
    push_more _ _ _ _ _ _ _ _ c.loop-j.invariant _ _ c.loop-j-test.true c.requires.count_bound.1
    (named_is _ _ _ _ _ _ _ _ c.requires.start_value c.text_entry-entry.ensures) (sym c.named_rule.ensures ∙ (none-refused _ _ c.in_ok-named_rule.was)) (omega arith)

pub returns : goal.returns
returns c = push_end _ _ _ _ _ _ _ _ c.loop-j.invariant c.loop-j-test.false
