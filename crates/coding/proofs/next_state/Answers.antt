use mathlib.Core.Path.{◌∙◌}
use Rattle.coding.proofs.CodeLaws.{coded-column}
use Rattle.coding.proofs.next_state.Goals as goal

pub returns : goal.returns
returns c = c.coded_in.ensures ∙ coded-column _ _ _ _ c.column_of.ensures
