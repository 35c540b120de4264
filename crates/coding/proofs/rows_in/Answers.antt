use mathlib.Core.Path.{refl}
use Rattle.coding.proofs.RowLaws.{rows_one_by_one}
use borrow.Author.Rules.{rules}
use Rattle.coding.proofs.rows_in.Goals as goal

pub returns : goal.returns
returns c = rows_one_by_one _ _ refl (search rules)
