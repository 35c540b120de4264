use Prim.Native.Nat.{ℕ, ◌^◌, ◌%◌}
use mathlib.Core.Path.{ap}
use Rattle.line.proofs.ByMode.{column-low, not-guarded, kept_short, kept_long}
use Rattle.scrambler.proofs.keep_bits.Goals as goal

pub returns-then-c-le2 : goal.returns-then-c-le2
returns-then-c-le2 c = ap (λ (k : ℕ). c.args.x % 2 ^ k) (kept_short _ _ (column-low _ c.requires) c.if-c-le2.true (not-guarded _ c.requires))

pub returns-else-c-le2 : goal.returns-else-c-le2
returns-else-c-le2 c = ap (λ (k : ℕ). c.args.x % 2 ^ k) (kept_long _ _ (column-low _ c.requires) c.if-c-le2.false (not-guarded _ c.requires))
