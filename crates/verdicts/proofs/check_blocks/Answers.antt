use Rattle.std.proofs.lemmas.Result.{err_from_is_err_and}
use Rattle.verdicts.proofs.Calls.{lines_refused, lines_free, lines_done}
use Rattle.verdicts.proofs.check_blocks.Goals as goal

pub returns-in_err-lines_fault-clause-value : goal.returns-in_err-lines_fault-clause-value
returns-in_err-lines_fault-clause-value c = let p = err_from_is_err_and c.from_residual.result c.from_residual.ensures.1 in rw (p.1, p.2) (lines_refused c.args.size c.args.place _ c.args.out.now _ c.in_err-lines_fault.ensures).0

pub returns-in_err-lines_fault-clause-out_after : goal.returns-in_err-lines_fault-clause-out_after
returns-in_err-lines_fault-clause-out_after c = (lines_refused c.args.size c.args.place _ _ _ c.in_err-lines_fault.ensures).1.0

pub returns-in_err-lines_fault-clause-lines_told : goal.returns-in_err-lines_fault-clause-lines_told
returns-in_err-lines_fault-clause-lines_told c = let p = err_from_is_err_and c.from_residual.result c.from_residual.ensures.1 in rw (p.1, p.2) (lines_refused c.args.size c.args.place _ c.args.out.now _ c.in_err-lines_fault.ensures).1.1

pub put_lines-requires : goal.put_lines-requires
put_lines-requires c = lines_free c.args.size c.args.place c.args.input.now c.args.out.now c.in_ok-lines_fault.ensures

pub returns-clause-value : goal.returns-clause-value
returns-clause-value c = (lines_done c.args.size c.args.place _ c.args.out.now c.in_ok-lines_fault.ensures _ _ c.put_lines.ensures).0

pub returns-clause-out_after : goal.returns-clause-out_after
returns-clause-out_after c = (lines_done c.args.size c.args.place _ c.args.out.now c.in_ok-lines_fault.ensures _ _ c.put_lines.ensures).1.0

pub returns-clause-lines_told : goal.returns-clause-lines_told
returns-clause-lines_told c = (lines_done c.args.size c.args.place _ c.args.out.now c.in_ok-lines_fault.ensures _ _ c.put_lines.ensures).1.1
