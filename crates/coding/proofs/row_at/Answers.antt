use mathlib.Core.Path.{◌∙◌}
use Rattle.line.proofs.ByMode.{column-low, mode_1, mode_2}
use Rattle.coding.specs.Rows.{row_at}
use Rattle.coding.proofs.RowLaws.{in_unit_most, row_in_unit}
use borrow.Author.Rules.{rules}
use Rattle.coding.proofs.row_at.Goals as goal

pub overflow_mul-result : goal.overflow_mul-result
overflow_mul-result c = let h = in_unit_most _ _ _ c.row_unit.ensures c.row16.ensures.upper_bound in search rules

pub returns-then-c-le1 : goal.returns-then-c-le1
unfolding row_at
returns-then-c-le1 c =
    c.row4.ensures.value ∙ mode_1 _ _ _ _ c.args.c _ (column-low _ c.requires) c.if-c-le1.true

pub returns-then-c-eq2 : goal.returns-then-c-eq2
unfolding row_at
returns-then-c-eq2 c =
    c.row8.ensures.value ∙ mode_2 _ _ _ _ c.args.c _ (column-low _ c.requires) c.if-c-eq2.true

pub returns-else-c-eq2 : goal.returns-else-c-eq2
returns-else-c-eq2 c = search (column-low, row_in_unit)
