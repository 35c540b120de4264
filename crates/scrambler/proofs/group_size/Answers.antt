use native.Mathlib.Omega.{arith}
use lib.Pow.{pow_mono}
use Rattle.scrambler.proofs.group_size.Goals as goal

pub returns-clause-upper_bound : goal.returns-clause-upper_bound
returns-clause-upper_bound c = omega (arith, pow_mono {i = c.from.result} {j = 4} (omega arith))
