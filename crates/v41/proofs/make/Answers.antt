use native.Mathlib.Omega.{arith}
use Rattle.std.proofs.lemmas.Result.{err_from_is_err_and}
use Rattle.v41.proofs.Answers.{refused_bits, refused_room, given_bits, given_room, make_done}
use Rattle.v41.proofs.make.Goals as goal

pub returns-in_err-bits_fault-clause-value : goal.returns-in_err-bits_fault-clause-value
returns-in_err-bits_fault-clause-value c = let p = err_from_is_err_and c.from_residual.result c.from_residual.ensures.1 in rw (p.1, p.2) (refused_bits c.args.input.now c.args.out.now _ c.in_err-bits_fault.ensures).0

pub returns-in_err-bits_fault-clause-out_after : goal.returns-in_err-bits_fault-clause-out_after
returns-in_err-bits_fault-clause-out_after c = (refused_bits c.args.input.now c.args.out.now _ c.in_err-bits_fault.ensures).1.0

pub returns-in_err-bits_fault-clause-make_told : goal.returns-in_err-bits_fault-clause-make_told
returns-in_err-bits_fault-clause-make_told c = let p = err_from_is_err_and c.from_residual.result c.from_residual.ensures.1 in rw (p.1, p.2) (refused_bits c.args.input.now c.args.out.now _ c.in_err-bits_fault.ensures).1.1

pub returns-in_err-need-clause-value : goal.returns-in_err-need-clause-value
returns-in_err-need-clause-value c = let p = err_from_is_err_and c.from_residual-in_err-need.result c.from_residual-in_err-need.ensures.1 in rw (p.1, p.2) (refused_room c.args.input.now c.args.out.now c.in_ok-bits_fault.ensures _ c.in_err-need.ensures).0

pub returns-in_err-need-clause-out_after : goal.returns-in_err-need-clause-out_after
returns-in_err-need-clause-out_after c = (refused_room c.args.input.now c.args.out.now c.in_ok-bits_fault.ensures _ c.in_err-need.ensures).1.0

pub returns-in_err-need-clause-make_told : goal.returns-in_err-need-clause-make_told
returns-in_err-need-clause-make_told c = let p = err_from_is_err_and c.from_residual-in_err-need.result c.from_residual-in_err-need.ensures.1 in rw (p.1, p.2) (refused_room c.args.input.now c.args.out.now c.in_ok-bits_fault.ensures _ c.in_err-need.ensures).1.1

pub divide-requires : goal.divide-requires
divide-requires c = given_bits c.args.input.now c.args.out.now c.in_ok-bits_fault.ensures c.in_ok-need.ensures

pub slice_bounds-put_bits-end : goal.slice_bounds-put_bits-end
slice_bounds-put_bits-end c = let h = given_room c.args.input.now c.args.out.now c.in_ok-bits_fault.ensures c.in_ok-need.ensures in omega arith

pub returns-clause-value : goal.returns-clause-value
returns-clause-value c = (make_done c.args.input.now c.args.out.now c.in_ok-bits_fault.ensures c.in_ok-need.ensures _ _ _ c.divide.ensures.0 c.shift_eight.ensures.0 c.shift_eight-r.ensures.0 _ _ c.put_all.ensures c.put_bits.ensures).0

pub returns-clause-out_after : goal.returns-clause-out_after
returns-clause-out_after c = (make_done c.args.input.now c.args.out.now c.in_ok-bits_fault.ensures c.in_ok-need.ensures _ _ _ c.divide.ensures.0 c.shift_eight.ensures.0 c.shift_eight-r.ensures.0 _ _ c.put_all.ensures c.put_bits.ensures).1.0

pub returns-clause-make_told : goal.returns-clause-make_told
returns-clause-make_told c = (make_done c.args.input.now c.args.out.now c.in_ok-bits_fault.ensures c.in_ok-need.ensures _ _ _ c.divide.ensures.0 c.shift_eight.ensures.0 c.shift_eight-r.ensures.0 _ _ c.put_all.ensures c.put_bits.ensures).1.1
