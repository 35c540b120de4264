use Rattle.coding.specs.Code.{changes4}
use Rattle.coding.proofs.CodeLaws.{row4_law}
use borrow.Author.Rules.{rules}
use Rattle.coding.proofs.row4.Goals as goal

pub returns : goal.returns
unfolding changes4
returns c =
    let answer = row4_law _ _ _ _ (search rules) c.row_if.ensures.value c.row_if-2.ensures.value c.row_if-3.ensures.value in
    record { value = answer.0; upper_bound = answer.1 }
