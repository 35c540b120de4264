use Rattle.std.proofs.lemmas.Result.{err_from_is_err_and}
use Rattle.lent_receiver.proofs.Receivings.{fresh_short, fresh_done}
use Rattle.lent_receiver.proofs.fresh.Goals as goal

pub returns-then-state-lt16 : goal.returns-then-state-lt16
returns-then-state-lt16 c = fresh_short c.args.state.now c.args.mode c.args.role _ _ c.if-state-lt16.true c.mode_fault.ensures c.or_next.ensures

pub returns-in_err-s : goal.returns-in_err-s
returns-in_err-s c =
    let p = err_from_is_err_and c.from_residual.result c.from_residual.ensures.1 in
    rw (p.1, p.2) (fresh_done c.args.state.now c.args.mode c.args.role _ c.if-state-lt16.false (c.in_err-s.ensures.value, c.in_err-s.ensures.made))

pub returns : goal.returns
returns c = rw c.put_receiver.ensures (fresh_done c.args.state.now c.args.mode c.args.role _ c.if-state-lt16.false (c.in_ok-s.ensures.value, c.in_ok-s.ensures.made))
