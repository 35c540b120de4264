use mathlib.Core.Path.{◌∙◌}
use mir.Facts.{to_z-of_z}
use Rattle.kerambiu.proofs.kerambiu_receive_point.Goals as goal

pub returns : goal.returns
returns c =
    let h = rw (to_z-of_z c.ranges.re, to_z-of_z c.ranges.im) at c.receive_point.ensures in
    (c.number_of.ensures ∙ h.0, h.1, h.2)
