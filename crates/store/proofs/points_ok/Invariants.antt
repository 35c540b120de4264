use Rattle.store.proofs.PointRuns.{points_in}
use lib.ListN.{drop}
use Prim.Native.Nat.{◌+◌, ◌*◌, ◌-◌, ◌≤◌}
use mathlib.Core.Bool.{◌&&◌}
use mathlib.Core.Path.{◌≡◌}
use Rattle.store.proofs.points_ok.Given as goal

abbrev pub invariant-loop-k : goal.invariant-loop-k
invariant-loop-k l = (l.k ≤ 7) × (points_in (drop 4 l.r) 7 ≡ (l.fine && points_in (drop (4 + 4 * l.k) l.r) (7 - l.k)))
