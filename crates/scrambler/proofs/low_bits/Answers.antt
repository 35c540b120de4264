use Prim.Native.Nat.{ℕ, ◌^◌, ◌%◌}
use mathlib.Core.Path.{ap}
use native.Mathlib.Omega.{arith}
use Rattle.line.specs.Mode.{width}
use Rattle.line.proofs.ByMode.{column-low, mode_1, mode_2, mode_3, mode_4}
use borrow.Author.Rules.{rules}
use Rattle.scrambler.proofs.low_bits.Goals as goal

pub returns-then-c-le1 : goal.returns-then-c-le1
unfolding width
returns-then-c-le1 c = record { value = ap (λ (w : ℕ). c.args.x % 2 ^ w) (mode_1 2 3 2 4 c.args.c _ (column-low _ c.requires) c.if-c-le1.true); upper_bound = omega arith }

pub returns-then-c-eq2 : goal.returns-then-c-eq2
unfolding width
returns-then-c-eq2 c = record { value = ap (λ (w : ℕ). c.args.x % 2 ^ w) (mode_2 2 3 2 4 c.args.c _ (column-low _ c.requires) c.if-c-eq2.true); upper_bound = omega arith }

pub returns-then-c-eq3 : goal.returns-then-c-eq3
unfolding width
returns-then-c-eq3 c = record { value = ap (λ (w : ℕ). c.args.x % 2 ^ w) (mode_3 2 3 2 4 c.args.c _ (column-low _ c.requires) c.if-c-eq3.true); upper_bound = omega arith }

pub returns-else-c-eq3 : goal.returns-else-c-eq3
unfolding width
returns-else-c-eq3 c = record { value = ap (λ (w : ℕ). c.args.x % 2 ^ w) (mode_4 2 3 2 4 c.args.c _ (column-low _ c.requires) (search rules) c.if-c-eq2.false c.if-c-eq3.false); upper_bound = omega arith }
