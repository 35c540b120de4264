use Rattle.summing.proofs.SumLaws.{Counted}
use Rattle.summing.proofs.origins_in.Given as goal

abbrev pub invariant-loop-k : goal.invariant-loop-k
invariant-loop-k l = Counted l.r l.n l.origins l.k
