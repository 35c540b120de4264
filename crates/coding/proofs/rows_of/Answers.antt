use Rattle.line.proofs.ByMode.{column-most}
use Rattle.coding.proofs.RowLaws.{rows_column}
use Rattle.coding.proofs.rows_of.Goals as goal

pub rows_in-requires : goal.rows_in-requires
rows_in-requires c = rw c.column_of.ensures (column-most c.args.mode)

pub returns : goal.returns
returns c = rows_column _ _ c.column_of.ensures _ c.rows_in.ensures
