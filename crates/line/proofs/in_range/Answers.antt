use mir.Facts.{to_z-of_z}
use Rattle.line.specs.Point.{in_range}
use Rattle.line.proofs.in_range.Goals as goal

pub returns : goal.returns
unfolding in_range
returns c =
    let x = rw (to_z-of_z c.ranges.re) at c.coordinate_ok.ensures in
    let y = rw (to_z-of_z c.ranges.im) at c.coordinate_ok-2.ensures in
    cc (x, y)
