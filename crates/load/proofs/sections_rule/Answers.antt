-- `load::sections_rule` meets its contract: records, tree, then index and definitions.
use mathlib.Core.Path.{refl, sym, ◌∙◌}
use Rattle.image.proofs.Refused.{none-refused, refused-alike, some-refused}
use Rattle.load.proofs.Rows.{records-refused, tree-refused, tree-passed}
use borrow.Author.Rules.{rules}
use Rattle.load.proofs.sections_rule.Goals as goal

pub returns-in_err-records_rule : goal.returns-in_err-records_rule
returns-in_err-records_rule c =
    record {
      answer = refused-alike _ _ _ c.in_err-records_rule.was c.from_residual.ensures.1 ∙ records-refused _ _ c.records_rule.ensures (some-refused _ _ c.in_err-records_rule.was);
      rest = refl;
    }

pub returns-in_err-tree_of : goal.returns-in_err-tree_of
returns-in_err-tree_of c =
    record {
      answer = refused-alike _ _ _ c.in_err-tree_of.was c.from_residual-in_err-tree_of.ensures.1 ∙ tree-refused _ _ c.records_rule.ensures (none-refused _ _ c.in_ok-records_rule.was) _
          c.tree_of.ensures.answer (some-refused _ _ c.in_err-tree_of.was);
      rest = c.tree_of.ensures.rest;
    }

pub index_of-requires : goal.index_of-requires
index_of-requires c =
    let tree = c.tree_of in
    let length = c.slice_known-2-1.given in
    record {
      view_value = sym c.records_rule.ensures ∙ (none-refused _ _ c.in_ok-records_rule.was);
      view_value_2 = sym tree.ensures.answer ∙ (none-refused _ _ c.in_ok-tree_of.was);
      view_in_bounds = search rules;
    }

pub returns : goal.returns
returns c =
    let tree = c.tree_of in
    let index = c.index_of in
    record {
      answer = tree-passed _ _ c.records_rule.ensures (none-refused _ _ c.in_ok-records_rule.was) _ tree.ensures.answer _ (none-refused _ _ c.in_ok-tree_of.was) index.ensures.answer;
      rest = index.ensures.rest ∙ tree.ensures.rest;
    }
