use Rattle.training.specs.Training.{train32}
use Rattle.training.specs.Ahead.{ahead27, ahead}
use mathlib.Core.Path.{◌∙◌}
use Rattle.line.proofs.ByMode.{mode_short, mode_long}
use Rattle.training.proofs.train_interval.Goals as goal

pub returns-then-column_of-le2 : goal.returns-then-column_of-le2
unfolding ahead
returns-then-column_of-le2 c = c.train_v27.ensures ∙ mode_short _ (train32 c.args.mode c.args.role c.args.i c.args.c) c.args.mode _ c.column_of.ensures c.if-column_of-le2.true

pub returns-else-column_of-le2 : goal.returns-else-column_of-le2
unfolding ahead
returns-else-column_of-le2 c = c.train_v32.ensures ∙ mode_long (ahead27 _ c.args.mode c.args.role c.args.length c.args.i c.args.c) _ c.args.mode _ c.column_of.ensures c.if-column_of-le2.false
