-- `load::load_view` meets its contract: checksum, work words, sections; then the words are cleared.
use mathlib.Core.Path.{refl, ap, sym, ◌∙◌}
use native.Mathlib.Omega.{arith}
use Rattle.image.proofs.OpenedHeader.{opens}
use Rattle.image.specs.Refusals.{refusal_in}
use Rattle.image.proofs.Refused.{refused-numbered, some-refused, none-refused}
use Rattle.load.proofs.Answers.{refused-load, accepted-load, left-alone_at, needed_is, sum_wrong, too_few, few_of, most_of, enough_of, sections_decide, words-after}
use Rattle.load.proofs.load_view.Goals as goal

pub word-requires : goal.word-requires
word-requires c = let o = opens _ c.requires.bytes_value in omega arith

pub returns-then-word-checksum : goal.returns-then-word-checksum
returns-then-word-checksum c =
    let at = c in
    let e = sum_wrong _ _ at.requires.bytes_value at.requires.view_value _ _ _ c.word.ensures c.checksum.ensures c.if-word-checksum.true in
    record {
      answer = refused-load _ _ _ e (λ q. omega arith);
      words = left-alone_at _ _ _ _ e refl;
    }

pub returns-then-work-needed : goal.returns-then-work-needed
returns-then-work-needed c =
    let at = c in
    let k = needed_is _ _ at.requires.bytes_value at.requires.view_value in
    let e =
    too_few _ _ at.requires.bytes_value at.requires.view_value _ _ _ c.word.ensures c.checksum.ensures c.if-word-checksum.false (few_of _ _ _ k c.if-work-needed.true) in
    record {
      answer = refused-load _ _ _ e (λ q. omega arith);
      words = left-alone_at _ _ _ _ e refl;
    }

pub sections_rule-kept-requires : goal.sections_rule-kept-requires
sections_rule-kept-requires c =
    let at = c in
    enough_of _ _ at.requires.bytes_value at.requires.view_value _ c.if-work-needed.false

pub returns-in_err-kept : goal.returns-in_err-kept
returns-in_err-kept c =
    let at = c in
    let word = c.word.ensures in
    let sum = c.checksum.ensures in
    let right = c.if-word-checksum.false in
    let k = needed_is _ _ at.requires.bytes_value at.requires.view_value in
    let enough = most_of _ _ _ k c.if-work-needed.false in
    let tested = c.sections_rule-kept.ensures in
    let e = sections_decide _ _ at.requires.bytes_value at.requires.view_value _ _ _ word sum right _ enough tested.answer in
    record {
      answer = refused-numbered _ _ _ c.in_err-kept.was c.from_residual.ensures.1
          ∙ refused-load _ _ _ (sym (ap refusal_in c.in_err-kept.was) ∙ e) (λ z. some-refused _ _ c.in_err-kept.was (ap refusal_in c.in_err-kept.was ∙ z));
      words = c.clear.ensures ∙ words-after _ _ at.requires.bytes_value at.requires.view_value _ _ _ word sum right _ _ _ k enough tested.rest;
    }

pub returns : goal.returns
returns c =
    let at = c in
    let word = c.word.ensures in
    let sum = c.checksum.ensures in
    let right = c.if-word-checksum.false in
    let k = needed_is _ _ at.requires.bytes_value at.requires.view_value in
    let enough = most_of _ _ _ k c.if-work-needed.false in
    let tested = c.sections_rule-kept.ensures in
    let e = sections_decide _ _ at.requires.bytes_value at.requires.view_value _ _ _ word sum right _ enough tested.answer in
    record {
      answer = accepted-load _ _ _ at.requires.view_value (sym (none-refused _ _ c.in_ok-kept.was) ∙ e);
      words = c.clear.ensures ∙ words-after _ _ at.requires.bytes_value at.requires.view_value _ _ _ word sum right _ _ _ k enough tested.rest;
    }
