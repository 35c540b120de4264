use Prim.Native.Nat.{◌-◌}
use Rattle.bulk.specs.Block.{parts}
use Rattle.bulk.specs.Hearing.{Hearing}
use Rattle.bulk.proofs.hear_all.Given as goal

abbrev pub invariant-loop-k : goal.invariant-loop-k
invariant-loop-k l = Hearing l.initial.t (parts l.initial.line l.initial.plain l.initial.distance) l.points 0 l.t (parts l.line l.plain l.distance) l.k

abbrev pub decreases-loop-k : goal.decreases-loop-k
decreases-loop-k l = l.n - l.k
