use Prim.Native.Nat.{ℕ}
use mathlib.Core.Path.{ap, ◌∙◌}
use Rattle.line.specs.Mode.{capacity}
use Rattle.scrambler.specs.Register.{register}
use Rattle.scrambler.specs.Group.{descrambled}
use Rattle.scrambler.proofs.descramble_counted.Goals as goal

pub returns : goal.returns
returns c =
    c.counted_bits.ensures ∙ ap (λ (m : ℕ). descrambled m c.args.role (register c.args.n (capacity m) c.args.count) c.args.line) c.guard_mode.ensures
