-- `words::output::put_words` meets its contract.
use native.Mathlib.Omega.{arith}
use Rattle.words.proofs.FilledOutput.{put_start, put_next, put_end}
use Rattle.words.proofs.output.put_words.Goals as goal

pub loop-i-init : goal.loop-i-init
loop-i-init c = put_start _ _ _ c.requires

pub loop-i-preserved : goal.loop-i-preserved
loop-i-preserved c = put_next _ _ _ c.requires _ _ c.loop-i.invariant _ (omega arith) c.put_word.ensures

pub returns : goal.returns
returns c = put_end _ _ _ c.requires _ _ c.loop-i.invariant (omega arith)
