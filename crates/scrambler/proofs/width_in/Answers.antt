use borrow.Author.Rules.{rules}
use Rattle.line.specs.Mode.{width}
use Rattle.line.proofs.ByMode.{column-low, mode_1, mode_2, mode_3, mode_4}
use Rattle.scrambler.proofs.width_in.Goals as goal

pub returns-then-c-le1 : goal.returns-then-c-le1
unfolding width
returns-then-c-le1 c = mode_1 2 3 2 4 c.args.c _ (column-low _ c.requires) c.if-c-le1.true

pub returns-then-c-eq2 : goal.returns-then-c-eq2
unfolding width
returns-then-c-eq2 c = mode_2 2 3 2 4 c.args.c _ (column-low _ c.requires) c.if-c-eq2.true

pub returns-then-c-eq3 : goal.returns-then-c-eq3
unfolding width
returns-then-c-eq3 c = mode_3 2 3 2 4 c.args.c _ (column-low _ c.requires) c.if-c-eq3.true

pub returns-else-c-eq3 : goal.returns-else-c-eq3
unfolding width
returns-else-c-eq3 c = mode_4 2 3 2 4 c.args.c _ (column-low _ c.requires) (search rules) c.if-c-eq2.false c.if-c-eq3.false
