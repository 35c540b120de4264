use mathlib.Core.Bool.{Bool}
use mathlib.Core.Path.{sym, ap, ◌∙◌}
use native.Mathlib.Omega.{arith}
use Rattle.std.proofs.lemmas.Result.{err_from_is_err_and}
use Rattle.line.specs.Refusal.{need}
use Rattle.line.proofs.RefusalLaws.{need-zero}
use Rattle.store.proofs.Views.{told_viewed}
use Rattle.track.proofs.Runs.{points-odd, even_of, points_out, points_unread}
use Rattle.track.proofs.append_points.Goals as goal

pub returns-in_err-need : goal.returns-in_err-need
returns-in_err-need c = let p = err_from_is_err_and c.from_residual.result c.from_residual.ensures.1 in rw (p.1, p.2) (points-odd c.args.store.now c.args.points.now _ c.in_err-need.ensures)

pub returns-in_err-need-2 : goal.returns-in_err-need-2
returns-in_err-need-2 c = let p = err_from_is_err_and c.from_residual-in_err-need-2.result c.from_residual-in_err-need-2.ensures.1 in rw (p.1, p.2) (points_out c.args.store.now c.args.points.now (even_of _ c.in_ok-need.ensures) _ (c.in_err-need-2.ensures ∙ ap (λ (b : Bool). need b 8 0) c.all_in_range.ensures))

pub returns-in_err-v : goal.returns-in_err-v
returns-in_err-v c = let p = err_from_is_err_and c.from_residual-in_err-v.result c.from_residual-in_err-v.ensures.1 in rw (p.1, p.2) (points_unread c.args.store.now c.args.points.now (even_of _ c.in_ok-need.ensures) _ (sym c.all_in_range.ensures ∙ (need-zero _ 8 0 (omega arith) (sym c.in_ok-need-2.ensures)).0) c.in_err-v.ensures.number)

pub place_all-requires : goal.place_all-requires
place_all-requires c = (told_viewed c.args.store.now _ c.in_ok-v.ensures, even_of _ c.in_ok-need.ensures, sym c.all_in_range.ensures ∙ (need-zero _ 8 0 (omega arith) (sym c.in_ok-need-2.ensures)).0)
