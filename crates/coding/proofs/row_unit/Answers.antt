use Prim.Native.Nat.{ℕ}
use Rattle.line.proofs.ByMode.{column-low}
use Rattle.coding.specs.Rule.{row_unit}
use Rattle.coding.proofs.RowLaws.{below_4, from_4}
use Rattle.coding.proofs.row_unit.Goals as goal

pub returns-then-c-le3 : goal.returns-then-c-le3
unfolding row_unit
returns-then-c-le3 c = below_4 {A = ℕ} 1 4 c.args.c c.args.c (column-low c.args.c c.requires) c.if-c-le3.true

pub returns-else-c-le3 : goal.returns-else-c-le3
unfolding row_unit
returns-else-c-le3 c = from_4 {A = ℕ} 1 4 c.args.c c.args.c (column-low c.args.c c.requires) c.if-c-le3.false
