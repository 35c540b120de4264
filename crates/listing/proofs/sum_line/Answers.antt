use mathlib.Core.Path.{sym, ◌∙◌}
use native.Mathlib.Omega.{arith}
use lib.ListN.{length}
use Rattle.std.proofs.lemmas.Result.{err_from_is_err_and}
use Rattle.listing.proofs.LastLines.{writes_none, writes_line, line_need, sum_large, sum_small, sum_fits}
use Rattle.listing.proofs.sum_line.Goals as goal

pub returns-in_err-need : goal.returns-in_err-need
returns-in_err-need c =
    let p = err_from_is_err_and c.from_residual.result c.from_residual.ensures.1 in
    rw (p.1, p.2) (writes_none _ _ _ _ (sum_large c.args.v (length c.args.out.now) _ c.in_err-need.ensures))

pub returns-in_err-need-2 : goal.returns-in_err-need-2
returns-in_err-need-2 c =
    let p = err_from_is_err_and c.from_residual-in_err-need-2.result c.from_residual-in_err-need-2.ensures.1 in
    rw (p.1, p.2) (writes_none _ _ _ _ (c.in_err-need-2.ensures ∙ line_need (length c.args.out.now) ∙ sum_small c.args.v (length c.args.out.now) c.in_ok-need.ensures))

pub put_sums-requires : goal.put_sums-requires
put_sums-requires c = (omega arith, sum_fits c.args.v (length c.args.out.now) c.in_ok-need.ensures)

pub returns : goal.returns
returns c =
    writes_line _ _ _ (sym (c.in_ok-need-2.ensures ∙ line_need (length c.args.out.now) ∙ sum_small c.args.v (length c.args.out.now) c.in_ok-need.ensures)) c.put_sums.ensures
