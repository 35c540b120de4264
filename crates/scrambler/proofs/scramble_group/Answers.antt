use mathlib.Core.Path.{refl, ◌∙◌}
use Rattle.scrambler.proofs.GroupLaws.{small_column, mixed_column, scramble_law}
use Rattle.scrambler.proofs.scramble_group.Goals as goal

pub mixed-all-requires : goal.mixed-all-requires
mixed-all-requires c = small_column c.args.mode _ c.column_of.ensures

pub returns : goal.returns
returns c =
    scramble_law _ _ _ _ _ _ _ _ _ (c.mixed-all.ensures.value ∙ mixed_column c.args.mode _ _ _ _ c.column_of.ensures) c.guard_of-g.ensures.inverted_value.0 refl refl c.push_counted.ensures.0 c.push_counted.ensures.1 c.push_counted.ensures.2 c.guard_of-g.ensures.inverted_value.1
