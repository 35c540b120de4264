use Rattle.training.proofs.TrainingLaws.{intervals_short, intervals_long}
use Rattle.training.proofs.interval_count.Goals as goal

pub returns-then-column_of-le2 : goal.returns-then-column_of-le2
returns-then-column_of-le2 c = search intervals_short

pub returns-else-column_of-le2 : goal.returns-else-column_of-le2
returns-else-column_of-le2 c = search intervals_long
