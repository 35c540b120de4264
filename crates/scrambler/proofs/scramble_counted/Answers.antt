use Prim.Native.Nat.{ℕ}
use mathlib.Core.Path.{ap, ◌∙◌}
use Rattle.line.specs.Mode.{capacity}
use Rattle.scrambler.specs.Register.{register}
use Rattle.scrambler.specs.Group.{scrambled}
use Rattle.scrambler.proofs.scramble_counted.Goals as goal

pub returns : goal.returns
returns c =
    c.counted_line.ensures ∙ ap (λ (m : ℕ). scrambled m c.args.role (register c.args.n (capacity m) c.args.count) c.args.plain) c.guard_mode.ensures
