use Rattle.receiver.specs.Receiver.{fresh_receiver}
use Rattle.listing.proofs.fresh_state.Goals as goal

pub fresh_register-requires : goal.fresh_register-requires
fresh_register-requires c = tt

pub returns : goal.returns
unfolding fresh_receiver
returns c = cc
