use mathlib.Core.Path.{◌∙◌}
use Rattle.line.proofs.ByMode.{column-most}
use Rattle.coding.proofs.CodeLaws.{group-column}
use Rattle.coding.proofs.group_of.Goals as goal

pub group_in-requires : goal.group_in-requires
group_in-requires c = rw c.column_of.ensures (column-most c.args.mode)

pub returns : goal.returns
returns c = c.group_in.ensures ∙ group-column _ _ _ _ c.column_of.ensures
