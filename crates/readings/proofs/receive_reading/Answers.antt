use borrow.Author.Rules.{rules}
use Rattle.std.proofs.lemmas.Result.{err_from_is_err_and}
use Rattle.readings.proofs.ReadingLaws.{received_state, received_refused, received_point, received_gap}
use Rattle.readings.proofs.receive_reading.Goals as goal

pub returns-in-Ok-Point : goal.returns-in-Ok-Point
returns-in-Ok-Point c =
    let answer = received_point c.args.s c.args.reading _ c.in_units.ensures _ _ (search rules) (c.receive_point.ensures.value, c.receive_point.ensures.told) in
    record { value = answer.0; told = answer.1 }

pub returns-in-Ok-Gap : goal.returns-in-Ok-Gap
returns-in-Ok-Gap c =
    let answer = received_gap c.args.s c.args.reading _ c.in_units.ensures _ _ (search rules) (c.receive_gap.ensures.value, c.receive_gap.ensures.told) in
    record { value = answer.0; told = answer.1 }

pub returns-in_err-state_fault-in-Err : goal.returns-in_err-state_fault-in-Err
returns-in_err-state_fault-in-Err c =
    let p = err_from_is_err_and c.from_residual.result c.from_residual.ensures.1 in
    let answer = received_state c.args.s c.args.reading _ c.in_units.ensures _ c.in_err-state_fault-in-Err.ensures in
    record { value = rw (p.1, p.2) answer.0; told = rw (p.1, p.2) answer.1 }

pub returns-in_ok-state_fault-in-Err : goal.returns-in_ok-state_fault-in-Err
returns-in_ok-state_fault-in-Err c =
    let answer = received_refused c.args.s c.args.reading _ c.in_units.ensures _ (search rules) c.in_ok-state_fault-in-Err.ensures in
    record { value = answer.0; told = answer.1 }
