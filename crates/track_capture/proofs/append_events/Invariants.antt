use Prim.Native.Nat.{◌-◌}
use mathlib.Core.Path.{◌≡◌}
use lib.ListN.{length}
use Rattle.track_capture.specs.Appending.{Goes}
use Rattle.track_capture.proofs.append_events.Given as goal

abbrev pub invariant-loop-step : goal.invariant-loop-step
invariant-loop-step l = (length l.store ≡ length l.initial.store) × Goes l.initial.store l.store l.input 0 l.at l.taken

abbrev pub decreases-loop-step : goal.decreases-loop-step
decreases-loop-step l = length l.input - l.at
