use Prim.Native.Nat.{◌+◌, ◌≤◌}
use mathlib.Core.Path.{◌≡◌}
use lib.ListN.{length}
use Rattle.settled.specs.Run.{following}
use Rattle.settled.proofs.ByteLaws.{left}
use Rattle.settled.proofs.run_end.Given as goal

abbrev pub invariant-loop-k : goal.invariant-loop-k
invariant-loop-k l = (l.k ≤ length l.line) × (l.k + following (left l.w l.line l.plain l.k) ≡ l.from + following (left l.w l.line l.plain l.from))
