use mathlib.Core.Path.{sym, ◌∙◌}
use lib.ListN.{length}
use Rattle.std.proofs.lemmas.Result.{err_from_is_err_and}
use Rattle.listing.proofs.LastLines.{writes_none, writes_line, line_need}
use Rattle.listing.proofs.refused_line.Goals as goal

pub returns-in_err-need : goal.returns-in_err-need
returns-in_err-need c = let p = err_from_is_err_and c.from_residual.result c.from_residual.ensures.1 in rw (p.1, p.2) (writes_none _ _ _ _ (c.in_err-need.ensures ∙ line_need (length c.args.out.now)))

pub returns : goal.returns
returns c = writes_line _ _ _ (sym (c.in_ok-need.ensures ∙ line_need (length c.args.out.now))) c.put_refused.ensures
