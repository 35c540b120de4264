use mir.Facts.{to_z-of_z}
use Rattle.track.proofs.Runs.{one_number, one_result}
use mathlib.Core.Path.{◌∙◌}
use Rattle.track.proofs.append_point.Goals as goal

pub returns : goal.returns
returns c =
    let e = rw (to_z-of_z c.ranges.re, to_z-of_z c.ranges.im) at c.append_points.ensures in
    (e.0 ∙ one_number c.args.store.now c.args.re c.args.im, e.1 ∙ one_result c.args.store.now c.args.re c.args.im)
