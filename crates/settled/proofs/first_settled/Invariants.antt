use Prim.Native.Nat.{◌+◌, ◌≤◌}
use mathlib.Core.Path.{◌≡◌}
use lib.ListN.{length}
use Rattle.settled.specs.Run.{before}
use Rattle.settled.proofs.ByteLaws.{left}
use Rattle.settled.proofs.first_settled.Given as goal

abbrev pub invariant-loop-k : goal.invariant-loop-k
invariant-loop-k l = (l.k ≤ length l.line) × (l.k + before (left l.w l.line l.plain l.k) ≡ before (left l.w l.line l.plain 0))
