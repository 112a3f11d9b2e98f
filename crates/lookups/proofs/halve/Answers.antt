-- `lookups::halve` meets its contract. The loop's invariant: the range lo to hi is all that is left to search.
use mathlib.Core.Path.{refl, sym, ◌∙◌}
use native.Mathlib.Omega.{arith}
use Rattle.lookups.proofs.HalvingSearch.{search_start, search_above, search_below, search_here, search_end}
use Rattle.lookups.proofs.halve.Goals as goal

pub loop-lo-init : goal.loop-lo-init
loop-lo-init g c = (omega arith, λ t name told. search_start t name c.args.count)

pub loop-lo-preserved-in-Less : goal.loop-lo-preserved-in-Less
loop-lo-preserved-in-Less g c =
    let l = c.loop-lo in (
      l.invariant.0,
      λ t name told. search_above t name c.args.count l.lo l.hi _ refl c.loop-lo-test.true (l.invariant.1 t name told) (sym (told _ _ (omega arith) c.order.ensures) ∙ c.in-Less.is),
    )

pub returns-in-Equal : goal.returns-in-Equal
returns-in-Equal g c =
    let l = c.loop-lo in
    λ t name told. sym (search_here t name c.args.count l.lo l.hi _ refl c.loop-lo-test.true (l.invariant.1 t name told) (sym (told _ _ (omega arith) c.order.ensures) ∙ c.in-Equal.is))

pub loop-lo-preserved : goal.loop-lo-preserved
loop-lo-preserved g c =
    let l = c.loop-lo in (
      omega arith,
      λ t name told. search_below t name c.args.count l.lo l.hi _ refl c.loop-lo-test.true (l.invariant.1 t name told) (sym (told _ _ (omega arith) c.order.ensures) ∙ c.in-Greater.is),
    )

pub returns : goal.returns
returns g c =
    let l = c.loop-lo in
    λ t name told. sym (search_end t name c.args.count l.lo l.hi c.loop-lo-test.false (l.invariant.1 t name told))
