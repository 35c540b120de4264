use mir.Facts.{to_z-of_z}
use Rattle.line.proofs.PointLaws.{coordinate_in_lem}
use Rattle.line.proofs.coordinate_ok.Goals as goal

pub returns : goal.returns
returns c = rw (to_z-of_z c.ranges.x) (coordinate_in_lem c.args.x)
