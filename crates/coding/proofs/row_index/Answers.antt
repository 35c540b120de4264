use native.Mathlib.Omega.{arith}
use Rattle.line.specs.Mode.{quadrant}
use Rattle.line.proofs.ByMode.{column-low, mode_short, mode_long}
use Rattle.coding.specs.Code.{eighths}
use Rattle.coding.specs.Rows.{row_index}
use Rattle.coding.proofs.row_index.Goals as goal

pub returns-then-c-le2 : goal.returns-then-c-le2
unfolding row_index eighths quadrant
returns-then-c-le2 c = record { value = search (column-low, mode_short); upper_bound = omega arith }

pub returns-else-c-le2 : goal.returns-else-c-le2
unfolding row_index eighths quadrant
returns-else-c-le2 c = record { value = search (column-low, mode_long); upper_bound = omega arith }
