use mir.Facts.{to_z-of_z}
use Rattle.deciding.proofs.DistanceLaws.{sent_law}
use Rattle.bulk.proofs.BlockLaws.{has_place, hear_state, hear_origin}
use Rattle.bulk.proofs.hear.Goals as goal

pub lose-requires : goal.lose-requires
lose-requires c = has_place _ _ c.requires.1

pub returns-then-is_origin : goal.returns-then-is_origin
returns-then-is_origin c =
    hear_origin c.args.s c.args.re c.args.im c.requires.1 _ (rw (to_z-of_z c.ranges.re, to_z-of_z c.ranges.im) at c.is_origin.ensures) _ c.if-is_origin.true c.lose.ensures

pub take-requires : goal.take-requires
take-requires c = (c.requires.0, has_place _ _ c.requires.1)

pub returns : goal.returns
returns c =
    hear_state c.args.s c.args.re c.args.im c.requires.1 _ (rw (to_z-of_z c.ranges.re, to_z-of_z c.ranges.im) at c.is_origin.ensures) _ _ _ _ c.if-is_origin.false c.ring_of-ring.ensures
    (rw (to_z-of_z c.ranges.re, to_z-of_z c.ranges.im) at c.state_at-state.ensures)
    (sent_law c.args.s.mode _ c.args.re c.args.im _ _ c.ranges.re c.ranges.im c.sent_point-sent.ensures (rw (to_z-of_z c.ranges.re, to_z-of_z c.ranges.im) at c.squared_distance.ensures))
    c.take.ensures
