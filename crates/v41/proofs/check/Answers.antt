use Rattle.std.proofs.lemmas.Result.{err_from_is_err_and}
use Rattle.v41.proofs.Answers.{of_bits_lem, check_refused, check_done}
use Rattle.v41.proofs.check.Goals as goal

pub returns-in_err-bits_fault-clause-value : goal.returns-in_err-bits_fault-clause-value
returns-in_err-bits_fault-clause-value c = let p = err_from_is_err_and c.from_residual.result c.from_residual.ensures.1 in rw (p.1, p.2) (check_refused c.args.input.now _ c.in_err-bits_fault.ensures).0

pub returns-in_err-bits_fault-clause-check_told : goal.returns-in_err-bits_fault-clause-check_told
returns-in_err-bits_fault-clause-check_told c = let p = err_from_is_err_and c.from_residual.result c.from_residual.ensures.1 in rw (p.1, p.2) (check_refused c.args.input.now _ c.in_err-bits_fault.ensures).1

pub divide-requires : goal.divide-requires
divide-requires c = of_bits_lem c.args.input.now c.in_ok-bits_fault.ensures

pub returns-clause-value : goal.returns-clause-value
returns-clause-value c = (check_done c.args.input.now c.in_ok-bits_fault.ensures _ c.divide.ensures.0).0

pub returns-clause-check_told : goal.returns-clause-check_told
returns-clause-check_told c = (check_done c.args.input.now c.in_ok-bits_fault.ensures _ c.divide.ensures.0).1
