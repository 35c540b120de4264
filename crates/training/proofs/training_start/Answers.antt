use Rattle.training.proofs.CoderLaws.{same-coder}
use Rattle.training.proofs.AheadLaws.{state_short, state_long}
use Rattle.training.proofs.training_start.Goals as goal

pub returns-then-column_of-le2 : goal.returns-then-column_of-le2
returns-then-column_of-le2 c = same-coder (state_short _ _ c.column_of.ensures c.if-column_of-le2.true) c.start_register-line.ensures

pub returns-else-column_of-le2 : goal.returns-else-column_of-le2
returns-else-column_of-le2 c = same-coder (state_long _ _ c.column_of.ensures c.if-column_of-le2.false) c.start_register-line.ensures
