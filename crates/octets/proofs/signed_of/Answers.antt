use native.Mathlib.Omega.{arith}
use mir.Facts.{to_z-of_z}
use Rattle.octets.proofs.Signs.{signed_is, sfits_signed}
use Rattle.octets.proofs.signed_of.Goals as goal

pub returns : goal.returns
returns c = rw (c.cast_signed.ensures, signed_is c.args.u) (to_z-of_z (sfits_signed c.args.u (omega arith)))
