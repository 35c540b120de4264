use Rattle.bulk.proofs.BlockLaws.{hearing_end}
use Rattle.bulk.proofs.hear_all.Goals as goal

pub returns : goal.returns
returns c = hearing_end _ _ _ 0 c.loop-k.t _ c.loop-k.k c.loop-k.invariant c.loop-k-test.false
