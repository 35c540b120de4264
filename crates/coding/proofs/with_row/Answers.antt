use Rattle.line.proofs.ByMode.{column-low}
use Rattle.coding.proofs.RowLaws.{row_alone, row_and_low}
use Rattle.coding.proofs.with_row.Goals as goal

pub returns-then-c-le3 : goal.returns-then-c-le3
returns-then-c-le3 c = search (column-low, row_alone)

pub returns-else-c-le3 : goal.returns-else-c-le3
returns-else-c-le3 c = search (column-low, row_and_low)
