use Rattle.training.specs.Training.{reversals}
use Rattle.line.proofs.Tests.{tests}
use Rattle.training.proofs.reversal_count.Goals as goal

pub returns-then-choice-eq0 : goal.returns-then-choice-eq0
unfolding reversals
returns-then-choice-eq0 c = search tests

pub returns-else-choice-eq0 : goal.returns-else-choice-eq0
unfolding reversals
returns-else-choice-eq0 c = search tests
