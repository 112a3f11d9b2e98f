-- `index::index_rule` meets its contract. The invariant: no entry so far is refused, the words of their targets hold their numbers, and the words past the
use Prim.Native.Nat.{◌<◌, ◌/◌}
use mathlib.Core.Path.{refl, sym, ◌∙◌}
use mathlib.Core.List.{[]}
use native.Mathlib.Omega.{arith}
use lib.ListN.{length, length-set}
use lib.Seq.{drop-set-lt}
use Rattle.image.proofs.Refused.{none-refused, refused-alike, some-refused}
use Rattle.image.specs.Sections.{Sections, text_entry_size, node_count}
use Rattle.index.specs.Index.{index_entry_rule}
use Rattle.index.specs.Parts.{index_parts}
use Rattle.index.proofs.Readers.{index_run}
use Rattle.index.proofs.Extended.{climbs-like, target_below, none-filed, entry-filed}
use Rattle.laws.proofs.Chains.{first-broken, first_done}
use Rattle.laws.proofs.RuleRuns.{run_starts, run_goes}
use borrow.Author.Rules.{rules}
use Rattle.index.proofs.index_rule.Goals as goal

pub loop-j-init : goal.loop-j-init
loop-j-init c =
    let at = c.args in
    (search rules, run_starts (index_entry_rule (index_parts at.version at.nodes.now at.index.now at.strings.now)), refl, refl, none-filed _ _)

pub next_entry_rule-requires : goal.next_entry_rule-requires
next_entry_rule-requires c =
    let whole : Sections = index_parts c.args.version c.args.nodes.now c.args.index.now c.args.strings.now in
    let bare : Sections = index_parts c.args.version c.args.nodes.now [] [] in
    let at = c in
    record {
      text_entry_size_in_bounds = search rules;
      tested = record { climbs = climbs-like bare whole refl refl at.requires.all_climb; passed = c.loop-j.invariant.1 };
      filed = c.loop-j.invariant.4;
    }

pub returns-in_err-next_entry_rule : goal.returns-in_err-next_entry_rule
returns-in_err-next_entry_rule c =
    let whole : Sections = index_parts c.args.version c.args.nodes.now c.args.index.now c.args.strings.now in
    let at = c in
    let here = c.loop-j in
    record {
      answer = refused-alike _ _ _ c.in_err-next_entry_rule.was c.from_residual.ensures.1 ∙ first-broken (length at.args.index.now / text_entry_size) here.j _ (index_entry_rule whole) c.loop-j-test.true here.invariant.1 c.next_entry_rule.ensures (some-refused _ _ c.in_err-next_entry_rule.was)
          ∙ sym (index_run at.args.version at.args.nodes.now at.args.index.now at.args.strings.now);
      rest = here.invariant.3;
    }

pub bounds-work-entry : goal.bounds-work-entry
bounds-work-entry c =
    let bare : Sections = index_parts c.args.version c.args.nodes.now [] [] in
    let entry-below : c.text_entry-entry.result.value < node_count bare =
    let at = c.args in
    target_below at.version at.nodes.now at.index.now at.strings.now c.loop-j.j c.text_entry-entry.result
    (sym c.next_entry_rule.ensures ∙ (none-refused _ _ c.in_ok-next_entry_rule.was)) c.text_entry-entry.ensures in
    let low = entry-below in
    let here = c.loop-j.invariant.2 in
    let room = c.requires.nodes_in_bounds in
    omega arith

pub loop-j-preserved : goal.loop-j-preserved
loop-j-preserved c =
    let whole : Sections = index_parts c.args.version c.args.nodes.now c.args.index.now c.args.strings.now in
    let bare : Sections = index_parts c.args.version c.args.nodes.now [] [] in
    let entry-below : c.text_entry-entry.result.value < node_count bare =
    let at = c.args in
    target_below at.version at.nodes.now at.index.now at.strings.now c.loop-j.j c.text_entry-entry.result
    (sym c.next_entry_rule.ensures ∙ (none-refused _ _ c.in_ok-next_entry_rule.was)) c.text_entry-entry.ensures in
    let at = c in
    let here = c.loop-j in
    let passed = run_goes here.j _ (index_entry_rule whole) here.invariant.1 c.next_entry_rule.ensures (none-refused _ _ c.in_ok-next_entry_rule.was) in
    let low = entry-below in
    let room = at.requires.nodes_in_bounds in (
      search rules,
      passed,
      length-set here.work _ _ ∙ here.invariant.2,
      drop-set-lt (node_count bare) here.work c.text_entry-entry.result.value _ entry-below ∙ here.invariant.3,
      entry-filed at.args.version at.args.nodes.now at.args.index.now at.args.strings.now here.j passed here.work c.text_entry-entry.result c.text_entry-entry.ensures (omega (arith, here.invariant.2)) here.invariant.4,
    )

pub returns : goal.returns
returns c =
    let whole : Sections = index_parts c.args.version c.args.nodes.now c.args.index.now c.args.strings.now in
    let at = c in
    let here = c.loop-j in
    record {
      answer = first_done (length at.args.index.now / text_entry_size) here.j (index_entry_rule whole) here.invariant.0 c.loop-j-test.false here.invariant.1
          ∙ sym (index_run at.args.version at.args.nodes.now at.args.index.now at.args.strings.now);
      rest = here.invariant.3;
    }
