use Rattle.training.proofs.TrainingLaws.{dibit_first, dibit_later}
use Rattle.training.proofs.dibit_state.Goals as goal

pub returns-then-i-lt528 : goal.returns-then-i-lt528
returns-then-i-lt528 c = search dibit_first

pub returns-else-i-lt528 : goal.returns-else-i-lt528
returns-else-i-lt528 c = search dibit_later
