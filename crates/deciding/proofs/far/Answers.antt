use Rattle.deciding.specs.Sizes.{far_of}
use Rattle.deciding.proofs.Bound.{square, double_square}
use Rattle.line.proofs.ByMode.{column-low, mode_1, mode_2, mode_3, mode_4}
use borrow.Author.Rules.{rules}
use Rattle.deciding.proofs.far.Goals as goal

pub overflow_mul-result : goal.overflow_mul-result
overflow_mul-result c = square 65536 tt (search rules)

pub overflow_mul-result-then-c-eq2 : goal.overflow_mul-result-then-c-eq2
overflow_mul-result-then-c-eq2 c = square 32768 tt (search rules)

pub overflow_mul-result-then-c-eq2-2 : goal.overflow_mul-result-then-c-eq2-2
overflow_mul-result-then-c-eq2-2 c = double_square 32768 tt (search rules)

pub returns-then-c-le1 : goal.returns-then-c-le1
unfolding far_of
returns-then-c-le1 c = search (column-low, mode_1)

pub returns-then-c-eq2 : goal.returns-then-c-eq2
unfolding far_of
returns-then-c-eq2 c = search (column-low, mode_2)

pub returns-then-c-eq3 : goal.returns-then-c-eq3
unfolding far_of
returns-then-c-eq3 c = search (column-low, mode_3)

pub returns-else-c-eq3 : goal.returns-else-c-eq3
unfolding far_of
returns-else-c-eq3 c = search (column-low, mode_4)
