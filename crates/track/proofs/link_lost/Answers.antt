use mathlib.Core.Path.{◌≡◌, sym, ap}
use native.Mathlib.Omega.{arith}
use lib.ListN.{length}
use Rattle.std.proofs.lemmas.Result.{err_from_is_err_and}
use Rattle.track.specs.Append.{lost_number}
use Rattle.track.proofs.Answers.{need_first, need_then, lost_seen, lost_reach, lost_linked, lost_refused}
use Rattle.track.proofs.link_lost.Goals as goal

pub returns-in_err-need : goal.returns-in_err-need
returns-in_err-need c = let p = err_from_is_err_and c.from_residual.result c.from_residual.ensures.1 in rw (p.1, p.2) (lost_refused c.args.store.now c.args.n _ (lost_seen c.args.store.now c.args.v c.args.n _ c.requires.0 c.requires.1 (need_first _ 16 _ _ c.in_err-need.ensures)))

pub returns-in_err-need-2 : goal.returns-in_err-need-2
returns-in_err-need-2 c = let p = err_from_is_err_and c.from_residual-in_err-need-2.result c.from_residual-in_err-need-2.ensures.1 in rw (p.1, p.2) (lost_refused c.args.store.now c.args.n _ (lost_seen c.args.store.now c.args.v c.args.n _ c.requires.0 c.requires.1 (need_then _ 16 _ _ (omega arith) c.in_ok-need.ensures c.in_err-need-2.ensures)))

pub link-requires : goal.link-requires
link-requires c =
    let n : 0 ≡ lost_number c.args.store.now c.args.n = lost_seen c.args.store.now c.args.v c.args.n _ c.requires.0 c.requires.1 (need_then _ 16 _ _ (omega arith) c.in_ok-need.ensures c.in_ok-need-2.ensures) in
    let f = lost_reach c.args.store.now c.args.v c.args.n c.requires.0 (sym n) in (f.0, f.1, ap length c.lost_record.ensures)

pub returns : goal.returns
returns c =
    let n : 0 ≡ lost_number c.args.store.now c.args.n = lost_seen c.args.store.now c.args.v c.args.n _ c.requires.0 c.requires.1 (need_then _ 16 _ _ (omega arith) c.in_ok-need.ensures c.in_ok-need-2.ensures) in
    (n, lost_linked c.args.store.now _ _ c.args.v _ c.args.n c.requires.0 (sym n) c.lost_record.ensures c.link.ensures c.put32.ensures)
