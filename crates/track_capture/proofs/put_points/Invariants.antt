use Prim.Native.Nat.{◌+◌, ◌*◌}
use mathlib.Core.Path.{◌≡◌}
use lib.ListN.{length, drop}
use lib.Seq.{sets}
use Rattle.store.specs.Layout.{points}
use Rattle.capture.specs.Capture.{captured}
use Rattle.track_capture.proofs.CaptureLaws.{points_left}
use Rattle.track_capture.proofs.put_points.Given as goal

abbrev pub invariant-loop-k : goal.invariant-loop-k
invariant-loop-k l = (length l.out ≡ length l.initial.out) × (sets l.out (l.at + 4 * l.k) (points_left l.r l.n l.k) ≡ sets l.initial.out l.at (captured (points (drop 4 l.r) l.n)))
