use native.Mathlib.Omega.{arith}
use lib.ListN.{length}
use mathlib.Core.Path.{sym}
use Rattle.std.proofs.lemmas.Result.{err_from_is_err_and}
use Rattle.sender.specs.Sender.{sender_of}
use Rattle.sender.specs.Open.{open_refusal, opened, training_numbers, open_answer, open_numbers}
use Rattle.sender.proofs.OpenLaws.{open_ok}
use Rattle.line.proofs.Sets.{part_room}
use Rattle.sender.proofs.AnswerLaws.{call_refused, call_done}
use Rattle.sender.proofs.open.Goals as goal

pub returns-in_err-open_refusal-clause-value : goal.returns-in_err-open_refusal-clause-value
unfolding open_answer
returns-in_err-open_refusal-clause-value c = let p = err_from_is_err_and c.from_residual.result c.from_residual.ensures.1 in rw (p.1, p.2) (call_refused (open_refusal c.args.mode c.args.role c.args.length (length c.args.out.now) c.args.offset) (opened c.args.mode c.args.role c.args.length) c.args.out.now c.args.offset (training_numbers c.args.mode c.args.role c.args.length) _ c.in_err-open_refusal.ensures).0

pub returns-in_err-open_refusal-clause-out_after : goal.returns-in_err-open_refusal-clause-out_after
unfolding open_numbers
returns-in_err-open_refusal-clause-out_after c = (call_refused (open_refusal c.args.mode c.args.role c.args.length (length c.args.out.now) c.args.offset) (opened c.args.mode c.args.role c.args.length) c.args.out.now c.args.offset (training_numbers c.args.mode c.args.role c.args.length) _ c.in_err-open_refusal.ensures).1.0

pub returns-in_err-open_refusal-clause-told : goal.returns-in_err-open_refusal-clause-told
returns-in_err-open_refusal-clause-told c = let p = err_from_is_err_and c.from_residual.result c.from_residual.ensures.1 in rw (p.1, p.2) (call_refused (open_refusal c.args.mode c.args.role c.args.length (length c.args.out.now) c.args.offset) (opened c.args.mode c.args.role c.args.length) c.args.out.now c.args.offset (training_numbers c.args.mode c.args.role c.args.length) _ c.in_err-open_refusal.ensures).1.1

pub offset_bounds-out-offset : goal.offset_bounds-out-offset
offset_bounds-out-offset c = omega (arith, (open_ok _ _ _ _ _ (sym c.in_ok-open_refusal.ensures)).room)

pub slice_bounds-write_training-count : goal.slice_bounds-write_training-count
slice_bounds-write_training-count c = omega (arith, (open_ok _ _ _ _ _ (sym c.in_ok-open_refusal.ensures)).room)

pub slice_bounds-write_training-start : goal.slice_bounds-write_training-start
slice_bounds-write_training-start c = let z = (open_ok _ _ _ _ _ (sym c.in_ok-open_refusal.ensures)).room in omega arith

pub write_training-c-requires : goal.write_training-c-requires
write_training-c-requires c = part_room c.args.out.now _ _ (open_ok _ _ _ _ _ (sym c.in_ok-open_refusal.ensures)).room

pub returns-clause-value : goal.returns-clause-value
unfolding open_answer opened
returns-clause-value c = (call_done (open_refusal c.args.mode c.args.role c.args.length (length c.args.out.now) c.args.offset) (opened c.args.mode c.args.role c.args.length) c.args.out.now c.args.offset (training_numbers c.args.mode c.args.role c.args.length) _ _ c.in_ok-open_refusal.ensures (let z = (open_ok _ _ _ _ _ (sym c.in_ok-open_refusal.ensures)).room in omega arith) (λ i. sender_of c.args.mode c.args.role (c.write_training-c.ensures.0 i)) c.write_training-c.ensures.1).0

pub returns-clause-out_after : goal.returns-clause-out_after
unfolding open_numbers opened
returns-clause-out_after c = (call_done (open_refusal c.args.mode c.args.role c.args.length (length c.args.out.now) c.args.offset) (opened c.args.mode c.args.role c.args.length) c.args.out.now c.args.offset (training_numbers c.args.mode c.args.role c.args.length) _ _ c.in_ok-open_refusal.ensures (let z = (open_ok _ _ _ _ _ (sym c.in_ok-open_refusal.ensures)).room in omega arith) (λ i. sender_of c.args.mode c.args.role (c.write_training-c.ensures.0 i)) c.write_training-c.ensures.1).1.0

pub returns-clause-told : goal.returns-clause-told
unfolding opened
returns-clause-told c = (call_done (open_refusal c.args.mode c.args.role c.args.length (length c.args.out.now) c.args.offset) (opened c.args.mode c.args.role c.args.length) c.args.out.now c.args.offset (training_numbers c.args.mode c.args.role c.args.length) _ _ c.in_ok-open_refusal.ensures (let z = (open_ok _ _ _ _ _ (sym c.in_ok-open_refusal.ensures)).room in omega arith) (λ i. sender_of c.args.mode c.args.role (c.write_training-c.ensures.0 i)) c.write_training-c.ensures.1).1.1
