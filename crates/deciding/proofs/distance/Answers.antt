use mir.Facts.{to_z-of_z}
use Rattle.deciding.proofs.DistanceLaws.{sent_law}
use Rattle.deciding.proofs.distance.Goals as goal

pub returns : goal.returns
returns c =
    sent_law c.args.mode c.args.s c.args.re c.args.im _ _ c.ranges.re c.ranges.im c.sent_point.ensures (rw (to_z-of_z c.ranges.re, to_z-of_z c.ranges.im) at c.squared_distance.ensures)
