use Rattle.std.proofs.lemmas.Result.{err_from_is_err_and}
use Rattle.receiver.specs.Receiver.{gap}
use Rattle.receiver.proofs.OutcomeLaws.{told_of, outcome_fault, gap_none, gap_some}
use borrow.Author.Rules.{rules}
use Rattle.receiver.proofs.receive_gap.Goals as goal

pub returns-in_err-state_fault-clause-value : goal.returns-in_err-state_fault-clause-value
returns-in_err-state_fault-clause-value c = let p = err_from_is_err_and c.from_residual.result c.from_residual.ensures.1 in rw (p.1, p.2) (outcome_fault c.args.s (gap c.args.n) _ c.in_err-state_fault.ensures)

pub returns-in_err-state_fault-clause-told : goal.returns-in_err-state_fault-clause-told
returns-in_err-state_fault-clause-told c = let p = err_from_is_err_and c.from_residual.result c.from_residual.ensures.1 in rw (p.1, p.2) (told_of _ _ _ (outcome_fault c.args.s (gap c.args.n) _ c.in_err-state_fault.ensures))

pub returns-then-n-lt1-clause-value : goal.returns-then-n-lt1-clause-value
returns-then-n-lt1-clause-value c = search (gap_none, rules)

pub returns-then-n-lt1-clause-told : goal.returns-then-n-lt1-clause-told
returns-then-n-lt1-clause-told c = told_of _ _ _ (search (gap_none, rules))

pub returns-clause-value : goal.returns-clause-value
returns-clause-value c = search (gap_some, rules)

pub returns-clause-told : goal.returns-clause-told
returns-clause-told c = told_of _ _ _ (search (gap_some, rules))
