use Prim.Native.Nat.{ℕ}
use mathlib.Core.Path.{refl, ap, ◌∙◌}
use Rattle.scrambler.specs.Register.{register}
use Rattle.scrambler.specs.Group.{scrambled}
use Rattle.scrambler.proofs.GroupLaws.{small_column, mixed_column, scramble_law}
use Rattle.scrambler.proofs.counted_line.Goals as goal

pub mixed-all-requires : goal.mixed-all-requires
mixed-all-requires c = small_column c.args.mode _ c.column_of-column.ensures

pub returns : goal.returns
returns c =
    scramble_law _ _ _ _ _ _ _ _ _ (c.mixed-all.ensures.value ∙ mixed_column c.args.mode _ _ _ _ c.column_of-column.ensures) c.guard_of-guarded.ensures.inverted_value.0 refl refl c.push_counted.ensures.0 c.push_counted.ensures.1 c.push_counted.ensures.2 c.guard_of-guarded.ensures.inverted_value.1
    ∙ ap (λ (k : ℕ). scrambled c.args.mode c.args.role (register c.args.n k c.args.count) c.args.plain) c.capacity_of-full.ensures
