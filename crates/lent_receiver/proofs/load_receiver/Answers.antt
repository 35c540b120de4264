use Rattle.lent_receiver.specs.Receiving.{receiver_in}
use Rattle.lent_receiver.proofs.load_receiver.Goals as goal

pub returns : goal.returns
unfolding receiver_in
returns c = cc
