use Rattle.readings.proofs.LevelLaws.{Putting}
use Rattle.readings.proofs.put_units.Given as goal

abbrev pub invariant-loop-k : goal.invariant-loop-k
invariant-loop-k l = Putting l.levels l.initial.units l.units l.k
