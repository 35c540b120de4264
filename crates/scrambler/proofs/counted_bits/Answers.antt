use Prim.Native.Nat.{ℕ, ◌^◌, ◌%◌}
use mathlib.Core.Path.{ap, ◌∙◌}
use native.Mathlib.Nat.{mul-le-mul_left}
use native.Mathlib.Omega.{arith}
use Rattle.line.proofs.ByMode.{width_range}
use Rattle.scrambler.proofs.GroupLaws.{small_column, width-column, mixed_column, full_law}
use Rattle.scrambler.proofs.counted_bits.Goals as goal

pub low_bits-low-requires : goal.low_bits-low-requires
low_bits-low-requires c = small_column c.args.mode _ c.column_of-c.ensures

pub group_size-requires : goal.group_size-requires
group_size-requires c = omega (arith, width_range c.args.mode)

pub overflow_mul-n : goal.overflow_mul-n
overflow_mul-n c = omega (arith, mul-le-mul_left c.args.n c.group_size.ensures.upper_bound)

pub overflow_add-n : goal.overflow_add-n
overflow_add-n c = omega (arith, mul-le-mul_left c.args.n c.group_size.ensures.upper_bound)

pub mixed-requires : goal.mixed-requires
mixed-requires c = small_column c.args.mode _ c.column_of-c.ensures

pub returns : goal.returns
returns c =
    let l = c.low_bits-low.ensures.value ∙ ap (λ (w : ℕ). c.args.line % 2 ^ w) (width-column c.args.mode _ c.column_of-c.ensures) in
    full_law _ _ _ _ _ _ _ _ _ _ _ _ _ c.width_of.ensures c.capacity_of-full.ensures l c.group_size.ensures.value c.keep_of-bits.ensures (c.mixed.ensures.value ∙ mixed_column c.args.mode _ _ _ _ c.column_of-c.ensures) c.guard_of-g.ensures.inverted_value.0 c.guard_of-g.ensures.inverted_value.1
