use Prim.Native.Nat.{◌+◌, ◌*◌, ◌-◌, ◌≤◌}
use mathlib.Core.Path.{◌≡◌}
use lib.ListN.{length, drop}
use lib.Seq.{sets}
use Rattle.store.specs.Layout.{points}
use Rattle.store.specs.Reads.{numbers}
use Rattle.store.proofs.put_points.Given as goal

abbrev pub invariant-loop-k : goal.invariant-loop-k
invariant-loop-k l = (l.k ≤ l.n) × (length l.out ≡ length l.initial.out) × (sets l.out (l.at + 3 * l.k) (numbers (points (drop (4 + 4 * l.k) l.r) (l.n - l.k))) ≡ sets l.initial.out l.at (numbers (points (drop 4 l.r) l.n)))
