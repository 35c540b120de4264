-- The worked values, by computation. Assumes nothing.
use mathlib.Core.Path.{refl}
use lib.Count.{count_trailing_zeros}
use lib.Ieee.{odd, of_fields, of_bits}
use Rattle.levels.specs.Levels.{is_finite, rounded, in_reach}
use Rattle.levels.specs.Laws.{Worked}

pub worked : Worked
unfolding of_bits of_fields odd count_trailing_zeros is_finite rounded in_reach
worked =
    record {
      most = (refl, refl);
      next_up = (refl, refl);
      half_unit = (refl, refl, refl);
      zeros = (refl, refl, refl);
      not_finite = (refl, refl, refl, refl);
      greatest = refl;
    }
