use Rattle.levels.proofs.ReachLaws.{reach_law}
use Rattle.levels.proofs.in_reach.Goals as goal

pub returns : goal.returns
returns c = reach_law c.args.v
