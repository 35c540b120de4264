use mathlib.Core.Path.{◌≡◌}
use mathlib.Core.Bool.{true}
use Prim.Native.Nat.{◌-◌}
use Rattle.line.specs.Mode.{guarded, capacity}
use Rattle.bulk.specs.Block.{parts}
use Rattle.bulk.specs.Hearing.{Hearing, later_at}
use Rattle.bulk.proofs.hear_run.Given as goal

abbrev pub invariant-loop-k : goal.invariant-loop-k
invariant-loop-k l =
    Hearing l.s (parts l.initial.line l.initial.plain l.initial.distance) l.points l.from (later_at l.s l.x l.bits l.held l.count (l.k - l.from)) (parts l.line l.plain l.distance) l.k
    × (guarded l.s.mode ≡ true → l.held ≡ capacity l.s.mode)
