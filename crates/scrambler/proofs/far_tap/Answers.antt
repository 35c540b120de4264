use native.Mathlib.Omega.{arith}
use Rattle.line.proofs.ByMode.{column-low}
use Rattle.scrambler.proofs.WindowLaws.{tap_7, tap_23}
use Rattle.scrambler.proofs.far_tap.Goals as goal

pub returns-then-c-le2 : goal.returns-then-c-le2
returns-then-c-le2 c = record { value = tap_7 _ _ (column-low _ c.requires) c.if-c-le2.true; lower_bound = omega arith }

pub returns-else-c-le2 : goal.returns-else-c-le2
returns-else-c-le2 c = record { value = tap_23 _ _ (column-low _ c.requires) c.if-c-le2.false; lower_bound = omega arith }
