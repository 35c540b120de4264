use Rattle.line.specs.Point.{sent27, sent32, levels32}
use Rattle.line.proofs.PointLaws.{short_points, long_points}
use Rattle.line.proofs.constellation.Goals as goal

pub returns-then-column_of-le2 : goal.returns-then-column_of-le2
unfolding sent27
returns-then-column_of-le2 c = short_points _ _ c.column_of.ensures c.if-column_of-le2.true

pub returns : goal.returns
unfolding sent32 levels32
returns c = long_points _ _ c.column_of.ensures c.if-column_of-le2.false
