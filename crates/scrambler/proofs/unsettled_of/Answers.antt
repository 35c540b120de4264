use native.Mathlib.Omega.{arith}
use Rattle.line.proofs.ByMode.{width_range}
use Rattle.scrambler.proofs.unsettled_of.Goals as goal

pub returns : goal.returns
returns c = let r = width_range c.args.mode in record { value = omega arith; upper_bound = omega arith }
