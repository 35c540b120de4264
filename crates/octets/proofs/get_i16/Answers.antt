use Rattle.octets.proofs.Signs.{sfits_signed}
use Rattle.octets.specs.Number.{signed}
use mathlib.Core.Path.{ap}
use mir.Facts.{to_z-of_z}
use Rattle.octets.proofs.get_i16.Goals as goal

pub returns : goal.returns
returns c =
    rw (c.signed_of.ensures, to_z-of_z (sfits_signed c.get16.result c.get16.ensures.1)) (ap signed c.get16.ensures.0)
