use Rattle.deciding.specs.Sizes.{ring_of}
use Rattle.line.proofs.ByMode.{column-low, mode_1, mode_2, mode_3, mode_4}
use Rattle.deciding.proofs.ring_in.Goals as goal

pub returns-then-c-le1 : goal.returns-then-c-le1
unfolding ring_of
returns-then-c-le1 c = search (column-low, mode_1)

pub returns-then-c-eq2 : goal.returns-then-c-eq2
unfolding ring_of
returns-then-c-eq2 c = search (column-low, mode_2)

pub returns-then-c-eq3 : goal.returns-then-c-eq3
unfolding ring_of
returns-then-c-eq3 c = search (column-low, mode_3)

pub returns-else-c-eq3 : goal.returns-else-c-eq3
unfolding ring_of
returns-else-c-eq3 c = search (column-low, mode_4)
