use Rattle.coding.specs.Code.{changes8}
use Rattle.coding.proofs.CodeLaws.{row8_law}
use borrow.Author.Rules.{rules}
use Rattle.coding.proofs.row8.Goals as goal

pub returns : goal.returns
unfolding changes8
returns c =
    let answer = row8_law _ _ _ _ _ _ _ _ (search rules) c.row_if.ensures.value c.row_if-2.ensures.value c.row_if-3.ensures.value
    c.row_if-4.ensures.value c.row_if-5.ensures.value c.row_if-6.ensures.value c.row_if-7.ensures.value in
    record { value = answer.0; upper_bound = answer.1 }
