use Rattle.store.specs.Store.{head_ok}
use Rattle.store.proofs.head_ok.Goals as goal

pub returns : goal.returns
unfolding head_ok
returns c = cc
