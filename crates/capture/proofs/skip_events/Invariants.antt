use Rattle.capture.proofs.SkipLaws.{Skipping}
use Rattle.capture.proofs.skip_events.Given as goal

abbrev pub invariant-loop-skipped : goal.invariant-loop-skipped
invariant-loop-skipped l = Skipping l.input l.n l.skipped l.used
