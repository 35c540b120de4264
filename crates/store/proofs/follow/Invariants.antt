use Prim.Native.Nat.{◌-◌}
use Rattle.store.proofs.Going.{Going}
use Rattle.store.proofs.follow.Given as goal

abbrev pub invariant-loop-i : goal.invariant-loop-i
invariant-loop-i l = Going l.s l.n l.t l.i l.k

abbrev pub decreases-loop-i : goal.decreases-loop-i
decreases-loop-i l = l.n - l.k
