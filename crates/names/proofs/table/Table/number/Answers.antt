-- `names::table::Table::number` meets its contract: the text is compared with the only name that it may be.
use mathlib.Core.Path.{sym, ◌∙◌}
use mathlib.Core.Bool.{true≢false}
use native.Mathlib.Omega.{arith}
use Rattle.std.proofs.Math.Nat.{mod-lt}
use Rattle.std.proofs.lemmas.Bool.Decides.{Decides-eqb}
use Rattle.std.proofs.lemmas.Slice.Eq.{slice_eq-Decides}
use Rattle.names.proofs.Tables.{some_hash, sized_place, entry-below, number_yes, number_no}
use Rattle.names.proofs.table.Table.number.Goals as goal

pub nonzero_rem-number : goal.nonzero_rem-number
nonzero_rem-number g c = rw (← c.args.self.now.sized) (some_hash c.args.self.now)

pub bounds-self-hash : goal.bounds-self-hash
bounds-self-hash g c = mod-lt c.hash.result (rw (← c.args.self.now.sized) (some_hash c.args.self.now))

pub at-requires : goal.at-requires
at-requires g c = rw (sized_place c.args.self.now c.hash.result) (omega arith, entry-below c.args.self.now c.hash.result)

pub returns-then-eq : goal.returns-then-eq
returns-then-eq g c =
    let told = slice_eq-Decides Decides-eqb _ _ _ c.eq.ensures in
    let place = sized_place c.args.self.now c.hash.result in
    let name = rw place at c.at.ensures.bytes in
    rw place (number_yes c.args.self.now c.args.text.now c.hash.result c.hash.ensures (sym name ∙ told.0 c.if-eq.true))

pub returns-else-eq : goal.returns-else-eq
returns-else-eq g c =
    let told = slice_eq-Decides Decides-eqb _ _ _ c.eq.ensures in
    let name = rw (sized_place c.args.self.now c.hash.result) at c.at.ensures.bytes in
    number_no c.args.self.now c.args.text.now c.hash.result c.hash.ensures (λ e. true≢false (sym (told.1 (name ∙ e)) ∙ c.if-eq.false))
