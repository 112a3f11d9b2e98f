-- `write_text_keys::run_of` meets its contract.
use native.Mathlib.Omega.{arith}
use mathlib.Core.Path.{refl}
use Rattle.write_text_keys.proofs.NameRuns.{in_name, run_part}
use Rattle.write_text_keys.proofs.run_of.Goals as goal

pub overflow_sub-result : goal.overflow_sub-result
overflow_sub-result c =
    let pre = c.requires in
    let g = in_name _ _ _ pre.0 pre.1 in
    omega (arith, g.left)

pub slice_bounds-result-end : goal.slice_bounds-result-end
slice_bounds-result-end c = (in_name _ _ _ c.requires.0 c.requires.1).inside

pub returns : goal.returns
returns c = λ v nodes. run_part _ _ v nodes _ _ c.requires.0 c.requires.1 refl
