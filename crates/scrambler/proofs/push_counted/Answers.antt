use Prim.Native.Nat.{ℕ, ◌+◌, ◌^◌, ◌%◌}
use mathlib.Core.Path.{refl, ap, ◌∙◌}
use native.Mathlib.Nat.{mul-le-mul_left}
use native.Mathlib.Omega.{arith}
use Rattle.line.proofs.ByMode.{width_range, capacity_range}
use Rattle.scrambler.proofs.GroupLaws.{small_column, width-column, push_law}
use Rattle.scrambler.proofs.push_counted.Goals as goal

pub low_bits-low-requires : goal.low_bits-low-requires
low_bits-low-requires c = small_column c.args.mode _ c.column_of.ensures

pub group_size-requires : goal.group_size-requires
group_size-requires c = omega (arith, width_range c.args.mode)

pub overflow_mul-n : goal.overflow_mul-n
overflow_mul-n c = omega (arith, mul-le-mul_left c.args.h.bits c.group_size.ensures.upper_bound)

pub overflow_add-n : goal.overflow_add-n
overflow_add-n c = omega (arith, mul-le-mul_left c.args.h.bits c.group_size.ensures.upper_bound)

pub returns : goal.returns
returns c =
    let l = c.low_bits-low.ensures.value ∙ ap (λ (w : ℕ). c.args.g % 2 ^ w) (width-column c.args.mode _ c.column_of.ensures) in
    let p = push_law c.args.mode c.args.h c.args.g _ _ _ _ _ c.min-more.result c.width_of-w.ensures c.capacity_of-full.ensures l c.group_size.ensures.value c.keep_of-bits.ensures (omega (arith, width_range c.args.mode, capacity_range c.args.mode)) in
    (p.0, p.1, refl)
