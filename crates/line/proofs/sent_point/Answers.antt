use Rattle.line.specs.Point.{sent27, levels32, sent32, sent_point}
use Rattle.line.proofs.ByMode.{mode_short, mode_long}
use Rattle.line.proofs.sent_point.Goals as goal

pub returns-then-column_of-le2 : goal.returns-then-column_of-le2
unfolding sent27 levels32 sent32 sent_point
returns-then-column_of-le2 c = rw c.from-i.ensures (search mode_short)

pub returns-else-column_of-le2 : goal.returns-else-column_of-le2
unfolding sent27 levels32 sent32 sent_point
returns-else-column_of-le2 c = rw c.from-i.ensures (search mode_long)
