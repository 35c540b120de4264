use Rattle.std.proofs.Common.{rules}
use Rattle.std.proofs.lemmas.Result.{err_from_is_err_and}
use Rattle.receiver.proofs.OutcomeLaws.{started_refused, made_refused, started_ready, made_ready}
use Rattle.receiver.proofs.fresh.Goals as goal

pub returns-in_err-mode_fault-clause-value : goal.returns-in_err-mode_fault-clause-value
returns-in_err-mode_fault-clause-value c = let p = err_from_is_err_and c.from_residual.result c.from_residual.ensures.1 in rw (p.1, p.2) (started_refused _ _ _ c.in_err-mode_fault.ensures)

pub returns-in_err-mode_fault-clause-made : goal.returns-in_err-mode_fault-clause-made
returns-in_err-mode_fault-clause-made c = search (made_refused, rules)

pub returns-clause-value : goal.returns-clause-value
returns-clause-value c = search (started_ready, rules)

pub returns-clause-made : goal.returns-clause-made
returns-clause-made c = search (made_ready, rules)
