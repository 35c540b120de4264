use Rattle.track_capture.specs.Appending.{Runs}
use Rattle.track_capture.proofs.run_at.Given as goal

abbrev pub invariant-loop-k : goal.invariant-loop-k
invariant-loop-k l = Runs l.input l.at (record { numbers = l.numbers; count = l.k })
