use mir.Facts.{to_z-of_z}
use Rattle.deciding.proofs.RingLaws.{below_law}
use Rattle.deciding.proofs.below.Goals as goal

pub returns : goal.returns
returns c = rw (to_z-of_z c.ranges.x) (below_law c.args.x c.one_if.result c.args.one c.one_if.ensures)
