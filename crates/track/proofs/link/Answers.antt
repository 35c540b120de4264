use Rattle.track.proofs.link.Goals as goal

pub returns : goal.returns
returns c = cc
