-- `records::list::items_rule` meets its contract.
use mathlib.Core.Path.{refl, sym, ◌∙◌}
use native.Mathlib.Numerals.{add-one}
use borrow.Author.Rules.{rules}
use Rattle.image.proofs.Refused.{none-refused, refused-alike, some-refused}
use Rattle.laws.specs.Refusal.{first_of}
use Rattle.laws.proofs.First.{first_next}
use Rattle.laws.proofs.Chains.{first-broken, first_done}
use Rattle.records.proofs.list.items_rule.Goals as goal

pub loop-j-init : goal.loop-j-init
unfolding first_of
loop-j-init c = (search rules, refl)

pub returns-in_err-item : goal.returns-in_err-item
returns-in_err-item c = refused-alike _ _ _ c.in_err-item.was c.from_residual.ensures.1 ∙ (first-broken _ _ _ _ (search rules) c.loop-j.invariant.1 c.item.ensures (some-refused _ _ c.in_err-item.was))

pub loop-j-preserved : goal.loop-j-preserved
loop-j-preserved c = (search rules, rw add-one (first_next _ _ c.loop-j.invariant.1 (sym c.item.ensures ∙ (none-refused _ _ c.in_ok-item.was))))

pub returns : goal.returns
returns c = first_done _ _ _ (search rules) (search rules) c.loop-j.invariant.1
