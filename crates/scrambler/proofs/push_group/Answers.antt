use Prim.Native.Nat.{◌+◌}
use native.Mathlib.Nat.{mul-le-mul_left}
use native.Mathlib.Omega.{arith}
use Rattle.line.proofs.ByMode.{width_range, capacity_range, not-guarded}
use Rattle.scrambler.proofs.GroupLaws.{push_law, push_plain}
use Rattle.scrambler.proofs.push_group.Goals as goal

pub group_size-requires : goal.group_size-requires
group_size-requires c = omega (arith, width_range c.args.c)

pub overflow_mul-n : goal.overflow_mul-n
overflow_mul-n c = omega (arith, mul-le-mul_left c.args.h.bits c.group_size.ensures.upper_bound)

pub overflow_add-n : goal.overflow_add-n
overflow_add-n c = omega (arith, mul-le-mul_left c.args.h.bits c.group_size.ensures.upper_bound)

pub returns : goal.returns
returns c =
    push_plain c.args.c c.args.h c.args.g _ _ (not-guarded c.args.c c.requires)
    (push_law c.args.c c.args.h c.args.g _ _ _ _ _ c.min-more.result c.width_in-w.ensures c.capacity_in-full.ensures c.low_bits-low.ensures.value c.group_size.ensures.value c.keep_bits-bits.ensures (omega (arith, width_range c.args.c, capacity_range c.args.c)))
