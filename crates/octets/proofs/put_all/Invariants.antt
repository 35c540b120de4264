use Prim.Native.Nat.{◌+◌, ◌-◌, ◌≤◌, min}
use mathlib.Core.Path.{◌≡◌}
use lib.ListN.{length, drop}
use lib.Seq.{sets}
use Rattle.octets.proofs.put_all.Given as goal

abbrev pub invariant-loop-k : goal.invariant-loop-k
invariant-loop-k l = (l.k ≤ l.n) × (l.n ≡ min (length l.r) (length l.initial.s - l.at)) × (length l.s ≡ length l.initial.s) × (sets l.s (l.at + l.k) (drop l.k l.r) ≡ sets l.initial.s l.at l.r)
