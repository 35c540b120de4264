use Rattle.settled.proofs.PutLaws.{Put}
use Rattle.settled.proofs.put_run.Given as goal

abbrev pub invariant-loop-p : goal.invariant-loop-p
invariant-loop-p l = Put l.w l.plain l.initial.out l.out l.at l.p-index
