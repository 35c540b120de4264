use Rattle.line.specs.Mode.{is_mode}
use Rattle.line.proofs.Tests.{tests}
use Rattle.line.proofs.mode_ok.Goals as goal

pub returns : goal.returns
unfolding is_mode
returns c = search tests
