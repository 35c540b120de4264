use native.Mathlib.Omega.{arith}
use Rattle.line.proofs.ByMode.{column-low}
use Rattle.scrambler.proofs.WindowLaws.{tap_6, tap_18, tap_5}
use Rattle.scrambler.proofs.near_tap.Goals as goal

pub returns-then-c-le2 : goal.returns-then-c-le2
returns-then-c-le2 c = record { value = tap_6 _ _ _ (column-low _ c.requires) c.if-c-le2.true; lower_bound = omega arith }

pub returns-then-role-eq0 : goal.returns-then-role-eq0
returns-then-role-eq0 c = record { value = tap_18 _ _ _ (column-low _ c.requires) c.if-c-le2.false c.if-role-eq0.true; lower_bound = omega arith }

pub returns-else-role-eq0 : goal.returns-else-role-eq0
returns-else-role-eq0 c = record { value = tap_5 _ _ _ (column-low _ c.requires) c.if-c-le2.false c.if-role-eq0.false; lower_bound = omega arith }
