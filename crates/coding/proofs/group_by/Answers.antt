use Prim.Native.Nat.{ℕ}
use mathlib.Core.Path.{ap, ◌∙◌}
use lib.ListN.{get_or}
use Rattle.line.proofs.ByMode.{column-most}
use Rattle.coding.specs.Rows.{with_row}
use Rattle.coding.proofs.RowLaws.{index_column, with_column}
use Rattle.coding.proofs.group_by.Goals as goal

pub row_index-requires : goal.row_index-requires
row_index-requires c = rw c.column_of-c.ensures (column-most c.args.mode)

pub with_row-requires : goal.with_row-requires
with_row-requires c = rw c.column_of-c.ensures (column-most c.args.mode)

pub returns : goal.returns
returns c =
    c.with_row.ensures ∙ with_column _ _ c.column_of-c.ensures _ _
    ∙ ap (λ (i : ℕ). with_row c.args.mode (get_or c.args.rows.now i 0) c.args.s) (c.row_index.ensures.value ∙ index_column _ _ c.column_of-c.ensures _ _)
