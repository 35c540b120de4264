use native.Mathlib.Omega.{arith}
use mathlib.Core.Path.{refl}
use Rattle.std.proofs.lemmas.Result.{err_from_is_err_and}
use Rattle.settled.proofs.CallLaws.{answer_refused, end_there, part_most, part_fits, answer_found}
use Rattle.settled.proofs.settled_bits.Goals as goal

pub overflow_add-end : goal.overflow_add-end
overflow_add-end c = omega (arith, end_there c.args.mode c.args.line.now c.args.plain.now c.args.out.now _ c.in_ok-run.ensures _ refl)

pub slice_bounds-put_run-end : goal.slice_bounds-put_run-end
slice_bounds-put_run-end c = end_there c.args.mode c.args.line.now c.args.plain.now c.args.out.now _ c.in_ok-run.ensures _ refl

pub put_run-requires : goal.put_run-requires
put_run-requires c = (part_most c.args.mode c.args.line.now c.args.plain.now c.args.out.now _ c.in_ok-run.ensures _ refl _ c.width_of-w.ensures, part_fits c.args.mode c.args.line.now c.args.plain.now c.args.out.now _ c.in_ok-run.ensures _ refl _ c.width_of-w.ensures)

pub returns-in_err-run-clause-value : goal.returns-in_err-run-clause-value
returns-in_err-run-clause-value c = let p = err_from_is_err_and c.from_residual.result c.from_residual.ensures.1 in rw (p.1, p.2) (answer_refused c.args.mode c.args.line.now c.args.plain.now c.args.out.now _ c.in_err-run.ensures _ refl).0

pub returns-in_err-run-clause-out_after : goal.returns-in_err-run-clause-out_after
returns-in_err-run-clause-out_after c = (answer_refused c.args.mode c.args.line.now c.args.plain.now c.args.out.now _ c.in_err-run.ensures _ refl).1.0

pub returns-in_err-run-clause-told : goal.returns-in_err-run-clause-told
returns-in_err-run-clause-told c = let p = err_from_is_err_and c.from_residual.result c.from_residual.ensures.1 in rw (p.1, p.2) (answer_refused c.args.mode c.args.line.now c.args.plain.now c.args.out.now _ c.in_err-run.ensures _ refl).1.1

pub returns-clause-value : goal.returns-clause-value
returns-clause-value c = (answer_found c.args.mode c.args.line.now c.args.plain.now c.args.out.now _ c.in_ok-run.ensures _ refl _ c.width_of-w.ensures _ c.put_run.ensures).0

pub returns-clause-out_after : goal.returns-clause-out_after
returns-clause-out_after c = (answer_found c.args.mode c.args.line.now c.args.plain.now c.args.out.now _ c.in_ok-run.ensures _ refl _ c.width_of-w.ensures _ c.put_run.ensures).1.0

pub returns-clause-told : goal.returns-clause-told
returns-clause-told c = (answer_found c.args.mode c.args.line.now c.args.plain.now c.args.out.now _ c.in_ok-run.ensures _ refl _ c.width_of-w.ensures _ c.put_run.ensures).1.1
