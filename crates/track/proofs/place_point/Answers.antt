use mathlib.Core.Path.{ap}
use native.Mathlib.Omega.{arith}
use mir.Facts.{to_z-of_z}
use lib.ListN.{length}
use Rattle.line.specs.Point.{at}
use Rattle.track.proofs.Places.{placed-grown, placed-linked}
use Rattle.track.proofs.place_point.Goals as goal

pub returns-then-held-lt7 : goal.returns-then-held-lt7
returns-then-held-lt7 c =
    placed-grown c.args.store.now _ c.args.e (at c.args.re c.args.im) c.if-held-lt7.true (rw (to_z-of_z c.ranges.re, to_z-of_z c.ranges.im) at c.grow.ensures)

pub overflow_add-new : goal.overflow_add-new
overflow_add-new c = omega (arith, c.requires.new_in c.if-held-lt7.false)

pub link-requires : goal.link-requires
link-requires c = (c.requires.last_in_lem, c.requires.new_in c.if-held-lt7.false, ap length c.point_record.ensures)

pub returns : goal.returns
returns c =
    placed-linked c.args.store.now _ _ c.args.e (at c.args.re c.args.im) c.if-held-lt7.false (rw (to_z-of_z c.ranges.re, to_z-of_z c.ranges.im) at c.point_record.ensures) c.link.ensures
