use mathlib.Core.Path.{◌∙◌}
use native.Mathlib.Omega.{arith}
use Rattle.line.proofs.ByMode.{width_range}
use Rattle.scrambler.proofs.GroupLaws.{small_column, mixed_column, all_small, descramble_law}
use Rattle.scrambler.proofs.descramble_group.Goals as goal

pub mixed-requires : goal.mixed-requires
mixed-requires c = small_column c.args.mode _ c.column_of.ensures

pub without_first-requires : goal.without_first-requires
without_first-requires c =
    (omega arith, omega (arith, width_range c.args.mode), all_small _ _ _ _ _ _ _ c.width_of-w.ensures (c.mixed.ensures.value ∙ mixed_column c.args.mode _ _ _ _ c.column_of.ensures) c.guard_of-g.ensures.inverted_value.0)

pub returns : goal.returns
returns c =
    descramble_law _ _ _ _ _ _ _ _ _ _ _ _ c.width_of-w.ensures c.capacity_of.ensures c.unsettled_bits-u.ensures (c.mixed.ensures.value ∙ mixed_column c.args.mode _ _ _ _ c.column_of.ensures) c.guard_of-g.ensures.inverted_value.0 c.without_first.ensures c.push_counted.ensures.0 c.push_counted.ensures.1 c.push_counted.ensures.2 c.guard_of-g.ensures.inverted_value.1
