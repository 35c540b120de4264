use Rattle.sender.specs.Sender.{fields_ok}
use Rattle.sender.proofs.fields_ok.Goals as goal

pub returns : goal.returns
unfolding fields_ok
returns c = cc
