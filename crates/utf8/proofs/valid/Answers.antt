-- `utf8::valid` meets its contract.
use native.Mathlib.Omega.{arith}
use Rattle.utf8.specs.Utf8.{utf8}
use Rattle.utf8.proofs.Runs.{run_all}
use Rattle.utf8.proofs.Blocks.{ascii_run}
use Rattle.utf8.proofs.valid.Goals as goal

pub returns-then-a-s : goal.returns-then-a-s
unfolding utf8
returns-then-a-s c = run_all (ascii_run c.ascii_front-a.ensures) (omega arith)
