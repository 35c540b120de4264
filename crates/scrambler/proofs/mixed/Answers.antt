use native.Mathlib.Omega.{arith}
use Rattle.line.proofs.ByMode.{width_range}
use Rattle.scrambler.proofs.GroupLaws.{mixed_law}
use Rattle.scrambler.proofs.mixed.Goals as goal

pub overflow_sub-near : goal.overflow_sub-near
overflow_sub-near c = omega (arith, width_range c.args.c)

pub overflow_sub-far : goal.overflow_sub-far
overflow_sub-far c = omega (arith, width_range c.args.c)

pub overflow_shr-n-2 : goal.overflow_shr-n-2
overflow_shr-n-2 c = omega (arith, width_range c.args.c)

pub returns : goal.returns
returns c = record { value = mixed_law _ _ _ _ _ _ _ _ c.width_in-w.ensures c.near_tap.ensures.value c.far_tap.ensures.value c.low_bits.ensures.value; upper_bound = c.low_bits.ensures.upper_bound }
