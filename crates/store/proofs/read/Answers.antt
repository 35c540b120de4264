use native.Mathlib.Omega.{arith}
use Rattle.std.proofs.lemmas.Result.{err_from_is_err_and}
use Rattle.store.proofs.Views.{need_within}
use Rattle.store.proofs.Readings.{read_past, read_unread}
use Rattle.store.proofs.read.Goals as goal

pub returns-in_err-need : goal.returns-in_err-need
returns-in_err-need c = let p = err_from_is_err_and c.from_residual.result c.from_residual.ensures.1 in rw (p.1, p.2) (read_past c.args.store.now c.args.out.now c.args.offset _ c.in_err-need.ensures)

pub returns-in_err-track : goal.returns-in_err-track
returns-in_err-track c = let p = err_from_is_err_and c.from_residual-in_err-track.result c.from_residual-in_err-track.ensures.1 in rw (p.1, p.2) (read_unread c.args.store.now c.args.out.now c.args.offset _ (need_within _ _ 7 (omega arith) c.in_ok-need.ensures) c.in_err-track.ensures)
