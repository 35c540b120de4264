use Rattle.training.specs.Training.{changes}
use Rattle.line.proofs.Tests.{tests}
use Rattle.training.proofs.change_count.Goals as goal

pub returns-then-choice-eq0 : goal.returns-then-choice-eq0
unfolding changes
returns-then-choice-eq0 c = search tests

pub returns-else-choice-eq0 : goal.returns-else-choice-eq0
unfolding changes
returns-else-choice-eq0 c = search tests
