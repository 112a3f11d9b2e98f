-- `write_text_keys::run_below` meets its contract.
use Prim.Native.Nat.{ℕ}
use mathlib.Core.Path.{◌≡◌, sym, ◌∙◌}
use mathlib.Core.List.{List}
use Rattle.std.specs.declared.cmp.Ordering.{Ordering}
use Rattle.std.specs.declared.cmp.Ordering.TheVariants.{Less, Equal, Greater}
use Rattle.write_text_keys.specs.Keys.{read_back, decided}
use Rattle.write_text_keys.proofs.Comparison.{by_order}
use Rattle.write_text_keys.proofs.NameRuns.{run_same, run_order}
use Rattle.write_text_keys.proofs.run_below.Goals as goal

pub returns-then-c-d : goal.returns-then-c-d
returns-then-c-d c =
    let at = c in
    let to = at.args in
    λ v nodes. run_same v nodes to.strings.now to.c to.d to.run at.requires.0 at.requires.1 at.requires.2 to.later c.if-c-d.true

pub returns-in-Less : goal.returns-in-Less
returns-in-Less c =
    let ordered : (o : Ordering) → c.compare-order.result ≡ o → let to = c.args in
    (v : ℕ) (nodes : List ℕ) → by_order o to.later ≡ decided (read_back to.run v nodes to.strings.now to.c) (read_back to.run v nodes to.strings.now to.d) to.later = λ o e v nodes.
    let at = c in
    let to = at.args in
    run_order v nodes to.strings.now to.c to.d to.run at.requires.0 at.requires.1 at.requires.2 to.later _ _ o (c.run_of.ensures v nodes) (c.run_of-2.ensures v nodes) (sym e ∙ c.compare-order.ensures) in
    ordered Less c.in-Less.is

pub returns-in-Equal : goal.returns-in-Equal
returns-in-Equal c =
    let ordered : (o : Ordering) → c.compare-order.result ≡ o → let to = c.args in
    (v : ℕ) (nodes : List ℕ) → by_order o to.later ≡ decided (read_back to.run v nodes to.strings.now to.c) (read_back to.run v nodes to.strings.now to.d) to.later = λ o e v nodes.
    let at = c in
    let to = at.args in
    run_order v nodes to.strings.now to.c to.d to.run at.requires.0 at.requires.1 at.requires.2 to.later _ _ o (c.run_of.ensures v nodes) (c.run_of-2.ensures v nodes) (sym e ∙ c.compare-order.ensures) in
    ordered Equal c.in-Equal.is

pub returns-in-Greater : goal.returns-in-Greater
returns-in-Greater c =
    let ordered : (o : Ordering) → c.compare-order.result ≡ o → let to = c.args in
    (v : ℕ) (nodes : List ℕ) → by_order o to.later ≡ decided (read_back to.run v nodes to.strings.now to.c) (read_back to.run v nodes to.strings.now to.d) to.later = λ o e v nodes.
    let at = c in
    let to = at.args in
    run_order v nodes to.strings.now to.c to.d to.run at.requires.0 at.requires.1 at.requires.2 to.later _ _ o (c.run_of.ensures v nodes) (c.run_of-2.ensures v nodes) (sym e ∙ c.compare-order.ensures) in
    ordered Greater c.in-Greater.is
