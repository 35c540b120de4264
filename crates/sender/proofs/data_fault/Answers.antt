use native.Mathlib.Omega.{arith}
use Rattle.line.proofs.ByMode.{width_range}
use Rattle.sender.proofs.data_fault.Goals as goal

pub nonzero_div-input : goal.nonzero_div-input
nonzero_div-input c = omega (arith, width_range c.args.mode)

pub nonzero_rem-input : goal.nonzero_rem-input
nonzero_rem-input c = omega (arith, width_range c.args.mode)
