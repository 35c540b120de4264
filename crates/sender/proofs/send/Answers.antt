use native.Mathlib.Omega.{arith}
use lib.ListN.{length}
use mathlib.Core.Path.{sym, ◌∙◌}
use Rattle.std.proofs.lemmas.Result.{err_from_is_err_and}
use Rattle.sender.specs.Sender.{send_refusal, after_bits, bit_numbers, send_answer, send_numbers}
use Rattle.sender.proofs.RefusalLaws.{send_ok}
use Rattle.sender.proofs.StateLaws.{can_send, full_line, counted_mode}
use Rattle.line.proofs.Sets.{part_room}
use Rattle.sender.proofs.AnswerLaws.{call_refused, call_done}
use Rattle.sender.proofs.send.Goals as goal

pub returns-in_err-send_fault-clause-value : goal.returns-in_err-send_fault-clause-value
unfolding send_answer
returns-in_err-send_fault-clause-value c = let p = err_from_is_err_and c.from_residual.result c.from_residual.ensures.1 in rw (p.1, p.2) (call_refused (send_refusal c.args.s c.args.input.now (length c.args.out.now) c.args.offset) (after_bits c.args.s c.args.input.now) c.args.out.now c.args.offset (bit_numbers c.args.s c.args.input.now) _ c.in_err-send_fault.ensures).0

pub returns-in_err-send_fault-clause-out_after : goal.returns-in_err-send_fault-clause-out_after
unfolding send_numbers
returns-in_err-send_fault-clause-out_after c = (call_refused (send_refusal c.args.s c.args.input.now (length c.args.out.now) c.args.offset) (after_bits c.args.s c.args.input.now) c.args.out.now c.args.offset (bit_numbers c.args.s c.args.input.now) _ c.in_err-send_fault.ensures).1.0

pub returns-in_err-send_fault-clause-told : goal.returns-in_err-send_fault-clause-told
returns-in_err-send_fault-clause-told c = let p = err_from_is_err_and c.from_residual.result c.from_residual.ensures.1 in rw (p.1, p.2) (call_refused (send_refusal c.args.s c.args.input.now (length c.args.out.now) c.args.offset) (after_bits c.args.s c.args.input.now) c.args.out.now c.args.offset (bit_numbers c.args.s c.args.input.now) _ c.in_err-send_fault.ensures).1.1

pub offset_bounds-out-offset : goal.offset_bounds-out-offset
offset_bounds-out-offset c = omega (arith, (send_ok _ _ _ _ (sym c.in_ok-send_fault.ensures)).1.room)

pub slice_bounds-write_counted-count : goal.slice_bounds-write_counted-count
slice_bounds-write_counted-count c = omega (arith, (send_ok _ _ _ _ (sym c.in_ok-send_fault.ensures)).1.room)

pub slice_bounds-write_counted-start : goal.slice_bounds-write_counted-start
slice_bounds-write_counted-start c = let z = (send_ok _ _ _ _ (sym c.in_ok-send_fault.ensures)).1.room in omega arith

pub write_counted-t-requires : goal.write_counted-t-requires
write_counted-t-requires c = let k = send_ok _ _ _ _ (sym c.in_ok-send_fault.ensures) in let g = sym c.has_guard.ensures ∙ c.if-has_guard.true in (counted_mode _ k.0.mode g, (can_send _ k.0.fields).full, k.1.are_bits, part_room c.args.out.now _ _ k.1.room)

pub returns-then-has_guard-clause-value : goal.returns-then-has_guard-clause-value
unfolding send_answer
returns-then-has_guard-clause-value c = (call_done (send_refusal c.args.s c.args.input.now (length c.args.out.now) c.args.offset) (after_bits c.args.s c.args.input.now) c.args.out.now c.args.offset (bit_numbers c.args.s c.args.input.now) _ _ c.in_ok-send_fault.ensures (let z = (send_ok _ _ _ _ (sym c.in_ok-send_fault.ensures)).1.room in omega arith) c.write_counted-t.ensures.0 c.write_counted-t.ensures.1).0

pub returns-then-has_guard-clause-out_after : goal.returns-then-has_guard-clause-out_after
unfolding send_numbers
returns-then-has_guard-clause-out_after c = (call_done (send_refusal c.args.s c.args.input.now (length c.args.out.now) c.args.offset) (after_bits c.args.s c.args.input.now) c.args.out.now c.args.offset (bit_numbers c.args.s c.args.input.now) _ _ c.in_ok-send_fault.ensures (let z = (send_ok _ _ _ _ (sym c.in_ok-send_fault.ensures)).1.room in omega arith) c.write_counted-t.ensures.0 c.write_counted-t.ensures.1).1.0

pub returns-then-has_guard-clause-told : goal.returns-then-has_guard-clause-told
returns-then-has_guard-clause-told c = (call_done (send_refusal c.args.s c.args.input.now (length c.args.out.now) c.args.offset) (after_bits c.args.s c.args.input.now) c.args.out.now c.args.offset (bit_numbers c.args.s c.args.input.now) _ _ c.in_ok-send_fault.ensures (let z = (send_ok _ _ _ _ (sym c.in_ok-send_fault.ensures)).1.room in omega arith) c.write_counted-t.ensures.0 c.write_counted-t.ensures.1).1.1

pub offset_bounds-out-offset-2 : goal.offset_bounds-out-offset-2
offset_bounds-out-offset-2 c = omega (arith, (send_ok _ _ _ _ (sym c.in_ok-send_fault.ensures)).1.room)

pub slice_bounds-write_points-count : goal.slice_bounds-write_points-count
slice_bounds-write_points-count c = omega (arith, (send_ok _ _ _ _ (sym c.in_ok-send_fault.ensures)).1.room)

pub slice_bounds-write_points-start : goal.slice_bounds-write_points-start
slice_bounds-write_points-start c = let z = (send_ok _ _ _ _ (sym c.in_ok-send_fault.ensures)).1.room in omega arith

pub write_points-t-requires : goal.write_points-t-requires
write_points-t-requires c = let k = send_ok _ _ _ _ (sym c.in_ok-send_fault.ensures) in let g = sym c.has_guard.ensures ∙ c.if-has_guard.false in (g, full_line c.args.s k.0.fields g, k.1.are_bits, part_room c.args.out.now _ _ k.1.room)

pub returns-clause-value : goal.returns-clause-value
unfolding send_answer
returns-clause-value c = (call_done (send_refusal c.args.s c.args.input.now (length c.args.out.now) c.args.offset) (after_bits c.args.s c.args.input.now) c.args.out.now c.args.offset (bit_numbers c.args.s c.args.input.now) _ _ c.in_ok-send_fault.ensures (let z = (send_ok _ _ _ _ (sym c.in_ok-send_fault.ensures)).1.room in omega arith) c.write_points-t.ensures.0 c.write_points-t.ensures.1).0

pub returns-clause-out_after : goal.returns-clause-out_after
unfolding send_numbers
returns-clause-out_after c = (call_done (send_refusal c.args.s c.args.input.now (length c.args.out.now) c.args.offset) (after_bits c.args.s c.args.input.now) c.args.out.now c.args.offset (bit_numbers c.args.s c.args.input.now) _ _ c.in_ok-send_fault.ensures (let z = (send_ok _ _ _ _ (sym c.in_ok-send_fault.ensures)).1.room in omega arith) c.write_points-t.ensures.0 c.write_points-t.ensures.1).1.0

pub returns-clause-told : goal.returns-clause-told
returns-clause-told c = (call_done (send_refusal c.args.s c.args.input.now (length c.args.out.now) c.args.offset) (after_bits c.args.s c.args.input.now) c.args.out.now c.args.offset (bit_numbers c.args.s c.args.input.now) _ _ c.in_ok-send_fault.ensures (let z = (send_ok _ _ _ _ (sym c.in_ok-send_fault.ensures)).1.room in omega arith) c.write_points-t.ensures.0 c.write_points-t.ensures.1).1.1
