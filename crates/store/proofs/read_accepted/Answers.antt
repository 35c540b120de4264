use native.Mathlib.Omega.{arith}
use Rattle.std.proofs.lemmas.Result.{err_from_is_err_and}
use Rattle.store.proofs.Views.{need_within}
use Rattle.store.proofs.Readings.{read_few, read_done}
use Rattle.store.proofs.read_accepted.Goals as goal

pub returns-in_err-need : goal.returns-in_err-need
returns-in_err-need c = let p = err_from_is_err_and c.from_residual.result c.from_residual.ensures.1 in rw (p.1, p.2) (read_few c.args.track.bytes.now c.args.out.now c.args.offset c.requires c.args.track.accepted _ _ c.count_events-count.ensures.0 c.in_err-need.ensures)

pub returns : goal.returns
returns c = read_done c.args.track.bytes.now c.args.out.now c.args.offset c.requires c.args.track.accepted _ _ c.count_events-count.ensures.0 (omega (arith, need_within _ _ 7 (omega arith) c.in_ok-need.ensures, c.count_events-count.ensures.0, c.requires)) c.put_chain.ensures
