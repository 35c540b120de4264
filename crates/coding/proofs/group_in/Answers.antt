use Rattle.line.proofs.ByMode.{column-low}
use Rattle.coding.proofs.CodeLaws.{group_1, group_2, group_3, group_4}
use Rattle.coding.proofs.group_in.Goals as goal

pub returns-then-c-le1 : goal.returns-then-c-le1
returns-then-c-le1 c = search (column-low, group_1)

pub returns-then-c-eq2 : goal.returns-then-c-eq2
returns-then-c-eq2 c = search (column-low, group_2)

pub returns-then-c-eq3 : goal.returns-then-c-eq3
returns-then-c-eq3 c = search (column-low, group_3)

pub returns : goal.returns
returns c = search (column-low, group_4)
