use Rattle.training.specs.Ahead.{ahead}
use Rattle.sender.proofs.OpenLaws.{TrainingLeft}
use Rattle.sender.proofs.write_training.Given as goal

abbrev pub invariant-loop-i : goal.invariant-loop-i
invariant-loop-i l = TrainingLeft (ahead l.t l.mode l.role l.length) l.mode l.n l.initial.c l.initial.out l.c l.out l.i
