-- `load::index_of` meets its contract.
use mathlib.Core.Path.{◌∙◌}
use lib.ListN.{length}
use Rattle.image.proofs.Refused.{none-refused, refused-alike, some-refused}
use Rattle.load.proofs.Indexes.{index-climbs, index-room, index-rest, index-refused, index-passed}
use Rattle.load.proofs.index_of.Goals as goal

pub index_rule-requires : goal.index_rule-requires
index_rule-requires c =
    let start = c in
    let at = start.args in
    let pre = start.requires in
    let n = c.nodes_part-nodes.ensures in
    record {
      all_climb = index-climbs at.bytes.now at.view c.nodes_part-nodes.result.now n pre.view_value pre.view_value_2;
      nodes_in_bounds = index-room at.bytes.now at.view c.nodes_part-nodes.result.now n (length at.work.now) pre.view_in_bounds;
    }

pub returns-in_err-index_rule : goal.returns-in_err-index_rule
returns-in_err-index_rule c =
    let n = c.nodes_part-nodes.ensures in
    let e = c.index_rule.ensures in
    record {
      answer = refused-alike _ _ _ c.in_err-index_rule.was c.from_residual.ensures.1 ∙ index-refused _ _ _ _ _ n c.section_part-paths.ensures c.section_part-strings.ensures _ e.answer (some-refused _ _ c.in_err-index_rule.was);
      rest = index-rest _ _ _ n _ _ e.rest;
    }

pub returns : goal.returns
returns c =
    let n = c.nodes_part-nodes.ensures in
    let e = c.index_rule.ensures in
    record {
      answer = index-passed _ _ _ _ _ n c.section_part-paths.ensures c.section_part-strings.ensures _ e.answer _ _ _ (none-refused _ _ c.in_ok-index_rule.was) c.section_part-definitions.ensures
          c.section_part-items.ensures c.definitions_rule.ensures;
      rest = index-rest _ _ _ n _ _ e.rest;
    }
