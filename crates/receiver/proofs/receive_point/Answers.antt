use Rattle.std.proofs.lemmas.Result.{err_from_is_err_and}
use Rattle.line.specs.Point.{at}
use Rattle.receiver.specs.Receiver.{point}
use Rattle.receiver.proofs.OutcomeLaws.{told_of, outcome_fault, point_far, point_state, point_origin}
use borrow.Author.Rules.{rules}
use Rattle.receiver.proofs.receive_point.Goals as goal

pub returns-in_err-state_fault-clause-value : goal.returns-in_err-state_fault-clause-value
returns-in_err-state_fault-clause-value c = let p = err_from_is_err_and c.from_residual.result c.from_residual.ensures.1 in rw (p.1, p.2) (outcome_fault c.args.s (point (at c.args.re c.args.im)) _ c.in_err-state_fault.ensures)

pub returns-in_err-state_fault-clause-told : goal.returns-in_err-state_fault-clause-told
returns-in_err-state_fault-clause-told c = let p = err_from_is_err_and c.from_residual.result c.from_residual.ensures.1 in rw (p.1, p.2) (told_of _ _ _ (outcome_fault c.args.s (point (at c.args.re c.args.im)) _ c.in_err-state_fault.ensures))

pub returns-in-Some-clause-value : goal.returns-in-Some-clause-value
returns-in-Some-clause-value c = search (point_state, rules)

pub returns-in-Some-clause-told : goal.returns-in-Some-clause-told
returns-in-Some-clause-told c = told_of _ _ _ (search (point_state, rules))

pub returns-in-None-clause-value : goal.returns-in-None-clause-value
returns-in-None-clause-value c = search (point_origin, rules)

pub returns-in-None-clause-told : goal.returns-in-None-clause-told
returns-in-None-clause-told c = told_of _ _ _ (search (point_origin, rules))

pub returns-else-in_range-clause-value : goal.returns-else-in_range-clause-value
returns-else-in_range-clause-value c = search (point_far, rules)

pub returns-else-in_range-clause-told : goal.returns-else-in_range-clause-told
returns-else-in_range-clause-told c = told_of _ _ _ (search (point_far, rules))
