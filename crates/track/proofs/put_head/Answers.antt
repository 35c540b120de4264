use Rattle.track.specs.Append.{made}
use Rattle.track.proofs.put_head.Goals as goal

pub returns : goal.returns
unfolding made
returns c = cc
