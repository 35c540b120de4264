use mir.Facts.{sfits_widen}
use Rattle.line.proofs.Signed.{back}
use Rattle.deciding.proofs.DistanceLaws.{between-fits, up_cast, up_is, down_fits, down_cast, down_is}
use Rattle.deciding.proofs.apart.Goals as goal

pub overflow_cast-d : goal.overflow_cast-d
overflow_cast-d c = rw (back _ c.ranges.x) (sfits_widen tt c.ranges.x)

pub overflow_cast-d-2 : goal.overflow_cast-d-2
overflow_cast-d-2 c = rw (back _ c.ranges.y) (sfits_widen tt c.ranges.y)

pub overflow_sub-d : goal.overflow_sub-d
overflow_sub-d c = between-fits _ _ c.ranges.x c.ranges.y

pub overflow_cast-result : goal.overflow_cast-result
overflow_cast-result c = up_cast _ _ c.ranges.x c.ranges.y c.if-d-ge0.true

pub overflow_sub-result : goal.overflow_sub-result
overflow_sub-result c = down_fits _ _ c.ranges.x c.ranges.y c.if-d-ge0.false

pub overflow_cast-result-else-d-ge0 : goal.overflow_cast-result-else-d-ge0
overflow_cast-result-else-d-ge0 c = down_cast _ _ c.ranges.x c.ranges.y c.if-d-ge0.false

pub returns-then-d-ge0 : goal.returns-then-d-ge0
returns-then-d-ge0 c = up_is _ _ c.ranges.x c.ranges.y

pub returns-else-d-ge0 : goal.returns-else-d-ge0
returns-else-d-ge0 c = down_is _ _ c.ranges.x c.ranges.y c.if-d-ge0.false
