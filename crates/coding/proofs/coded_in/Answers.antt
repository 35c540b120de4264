use native.Mathlib.Omega.{arith}
use Rattle.coding.proofs.CodeLaws.{near_column, coded_1, coded_2, coded_3, coded_4}
use Rattle.coding.proofs.coded_in.Goals as goal

pub returns-then-c-le1 : goal.returns-then-c-le1
returns-then-c-le1 c = coded_1 _ _ _ _ (near_column c.args.c) _ (omega arith) c.change4.ensures.value

pub returns-then-c-eq3 : goal.returns-then-c-eq3
returns-then-c-eq3 c = coded_3 _ _ _ _ (near_column c.args.c) _ (omega arith) c.change16.ensures.value

pub returns-then-c-eq2 : goal.returns-then-c-eq2
returns-then-c-eq2 c = coded_2 _ _ _ _ (near_column c.args.c) _ (omega arith) c.change8.ensures.value

pub returns : goal.returns
returns c = coded_4 _ _ _ _ (near_column c.args.c) _ (omega arith) (λ e. omega arith) (λ e. omega arith) c.change16-2.ensures.value
