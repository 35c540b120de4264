use Rattle.lent_sender.specs.Sending.{sender_in}
use Rattle.lent_sender.proofs.load_sender.Goals as goal

pub returns : goal.returns
unfolding sender_in
returns c = cc
