use native.Mathlib.Omega.{arith}
use Rattle.sender.proofs.SendLaws.{bit_at, value_2, value_3, value_4}
use Rattle.sender.proofs.group_value.Goals as goal

pub overflow_mul-two : goal.overflow_mul-two
overflow_mul-two c = omega (arith, bit_at c.args.group.now 0 c.requires.2)

pub overflow_add-two : goal.overflow_add-two
overflow_add-two c = omega (arith, bit_at c.args.group.now 0 c.requires.2, bit_at c.args.group.now 1 c.requires.2)

pub returns-then-group-eq2 : goal.returns-then-group-eq2
returns-then-group-eq2 c = search value_2

pub overflow_mul-three : goal.overflow_mul-three
overflow_mul-three c = omega (arith, bit_at c.args.group.now 0 c.requires.2, bit_at c.args.group.now 1 c.requires.2)

pub overflow_add-three : goal.overflow_add-three
overflow_add-three c = omega (arith, bit_at c.args.group.now 0 c.requires.2, bit_at c.args.group.now 1 c.requires.2, bit_at c.args.group.now 2 c.requires.2)

pub returns-then-group-eq3 : goal.returns-then-group-eq3
returns-then-group-eq3 c = search value_3

pub overflow_mul-result : goal.overflow_mul-result
overflow_mul-result c = omega (arith, bit_at c.args.group.now 0 c.requires.2, bit_at c.args.group.now 1 c.requires.2, bit_at c.args.group.now 2 c.requires.2)

pub overflow_add-result : goal.overflow_add-result
overflow_add-result c = omega (arith, bit_at c.args.group.now 0 c.requires.2, bit_at c.args.group.now 1 c.requires.2, bit_at c.args.group.now 2 c.requires.2, bit_at c.args.group.now 3 c.requires.2)

pub returns : goal.returns
returns c = value_4 c.args.group.now (omega arith)
