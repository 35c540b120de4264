use Rattle.line.specs.Mode.{is_role}
use mathlib.Core.Path.{ap}
use lib.Dec.{ltb}
use Rattle.line.proofs.ByMode.{mode_short, mode_long}
use Rattle.line.proofs.role_ok.Goals as goal

pub returns-then-column_of-le2 : goal.returns-then-column_of-le2
unfolding is_role
returns-then-column_of-le2 c = ap (ltb c.args.role) (mode_short 1 2 c.args.mode _ c.column_of.ensures c.if-column_of-le2.true)

pub returns-else-column_of-le2 : goal.returns-else-column_of-le2
unfolding is_role
returns-else-column_of-le2 c = ap (ltb c.args.role) (mode_long 1 2 c.args.mode _ c.column_of.ensures c.if-column_of-le2.false)
