use native.Mathlib.Nat.{mul-le-mul_left}
use native.Mathlib.Omega.{arith}
use Rattle.line.proofs.ByMode.{width_range, not-guarded}
use Rattle.scrambler.proofs.GroupLaws.{plain_full_law}
use Rattle.scrambler.proofs.next_bits.Goals as goal

pub group_size-requires : goal.group_size-requires
group_size-requires c = omega (arith, width_range c.args.c)

pub overflow_mul-n : goal.overflow_mul-n
overflow_mul-n c = omega (arith, mul-le-mul_left c.args.n c.group_size.ensures.upper_bound)

pub overflow_add-n : goal.overflow_add-n
overflow_add-n c = omega (arith, mul-le-mul_left c.args.n c.group_size.ensures.upper_bound)

pub returns : goal.returns
returns c =
    plain_full_law _ _ _ _ _ _ _ _ _ _ _ (not-guarded _ c.requires) c.width_in.ensures c.capacity_in.ensures c.low_bits-low.ensures.value c.group_size.ensures.value c.keep_bits-bits.ensures c.mixed.ensures.value
