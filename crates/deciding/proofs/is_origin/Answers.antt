use mir.Facts.{to_z-of_z}
use Rattle.deciding.proofs.RingLaws.{origin_law}
use Rattle.deciding.proofs.is_origin.Goals as goal

pub returns : goal.returns
returns c = origin_law c.args.re c.args.im _ _ (rw (to_z-of_z c.ranges.re) at c.size.ensures.value) (rw (to_z-of_z c.ranges.im) at c.size-2.ensures.value)
