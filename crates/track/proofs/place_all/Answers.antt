use mathlib.Core.Path.{◌≡◌, sym}
use native.Mathlib.Omega.{arith}
use Rattle.std.proofs.lemmas.Result.{err_from_is_err_and}
use Rattle.track.specs.Points.{points_number}
use Rattle.track.proofs.Answers.{need_then}
use Rattle.track.proofs.Runs.{points_over, points_seen, points_free, points_done, points_refused}
use Rattle.track.proofs.place_all.Goals as goal

pub returns-in_err-need : goal.returns-in_err-need
returns-in_err-need c = let p = err_from_is_err_and c.from_residual.result c.from_residual.ensures.1 in rw (p.1, p.2) (points_over c.args.store.now c.args.points.now c.requires.1 c.args.v _ c.requires.0 c.requires.2 c.in_err-need.ensures)

pub returns-in_err-need-2 : goal.returns-in_err-need-2
returns-in_err-need-2 c = let p = err_from_is_err_and c.from_residual-in_err-need-2.result c.from_residual-in_err-need-2.ensures.1 in rw (p.1, p.2) (points_refused c.args.store.now c.args.points.now _ (points_seen c.args.store.now c.args.points.now c.requires.1 c.args.v c.room_for.result _ c.requires.0 c.requires.2 c.room_for.ensures (need_then _ 16 _ _ (omega arith) c.in_ok-need.ensures c.in_err-need-2.ensures)))

pub place_points-requires : goal.place_points-requires
place_points-requires c = (c.requires.0, points_free c.args.store.now c.args.points.now (sym (points_seen c.args.store.now c.args.points.now c.requires.1 c.args.v c.room_for.result _ c.requires.0 c.requires.2 c.room_for.ensures (need_then _ 16 _ _ (omega arith) c.in_ok-need.ensures c.in_ok-need-2.ensures))))

pub returns : goal.returns
returns c =
    let n : 0 ≡ points_number c.args.store.now c.args.points.now = points_seen c.args.store.now c.args.points.now c.requires.1 c.args.v c.room_for.result _ c.requires.0 c.requires.2 c.room_for.ensures (need_then _ 16 _ _ (omega arith) c.in_ok-need.ensures c.in_ok-need-2.ensures) in
    (n, points_done c.args.store.now _ c.args.points.now (sym n) c.place_points.ensures)
