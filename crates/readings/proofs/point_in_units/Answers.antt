use Rattle.readings.proofs.ReadingLaws.{point_reached}
use Rattle.readings.proofs.point_in_units.Goals as goal

pub returns-then-in_reach : goal.returns-then-in_reach
returns-then-in_reach c = point_reached c.args.p _ _ c.in_reach.ensures c.in_reach-2.ensures _ _ c.if-in_reach.true c.nearest.ensures c.nearest-then-in_reach.ensures
