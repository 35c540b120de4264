use Rattle.sender.specs.Open.{length_ok}
use Rattle.line.proofs.ByMode.{mode_short, mode_long}
use Rattle.sender.proofs.length_ok.Goals as goal

pub returns-then-column_of-le2 : goal.returns-then-column_of-le2
unfolding length_ok
returns-then-column_of-le2 c = search mode_short

pub returns-else-column_of-le2 : goal.returns-else-column_of-le2
unfolding length_ok
returns-else-column_of-le2 c = search mode_long
