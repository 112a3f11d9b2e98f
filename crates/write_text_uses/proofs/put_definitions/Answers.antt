-- `write_text_uses::put_definitions` meets its contract.
use mathlib.Core.Path.{refl}
use Rattle.write_text_uses.specs.Uses.{all_definition_pairs}
use Rattle.write_text_uses.proofs.Puts.{going_start, going-room, going_next, going_end}
use borrow.Author.Rules.{rules}
use Rattle.write_text_uses.proofs.put_definitions.Goals as goal

pub loop-d-init : goal.loop-d-init
unfolding all_definition_pairs
loop-d-init c = going_start _ _ _ _ c.requires

pub put_definition-k-requires : goal.put_definition-k-requires
put_definition-k-requires c =
    record {
      definition_words_in_bounds = search rules;
      room = going-room _ _ _ _ _ _ _ c.loop-d.invariant c.loop-d-test.true;
    }

pub loop-d-preserved : goal.loop-d-preserved
loop-d-preserved c =
    let loop = c.loop-d in
    let test = c.loop-d-test in
    going_next _ _ _ _ _ _ _ loop.invariant _ _ _ test.true refl c.put_definition-k.ensures

pub returns : goal.returns
unfolding all_definition_pairs
returns c = going_end _ _ _ _ _ _ _ c.loop-d.invariant c.loop-d-test.false
