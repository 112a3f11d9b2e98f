-- `replay::compare::same_words` meets its contract: the words passed agree.
use Rattle.std.proofs.Common.{◌≡◌, ◌/◌, length}
use Rattle.replay.proofs.Comparing.{Agree}
use Rattle.replay.proofs.compare.same_words.Given as goal

abbrev pub invariant-loop-i : goal.invariant-loop-i
invariant-loop-i l = (length l.part / 4 ≡ length l.words) × Agree l.part l.words l.i
