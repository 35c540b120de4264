use native.Mathlib.Omega.{arith}
use Rattle.std.proofs.lemmas.Result.{err_from_is_err_and}
use borrow.Author.Rules.{rules}
use Rattle.store.proofs.Views.{need_within, told_viewed}
use Rattle.track.proofs.Answers.{lost_none, lost_unread}
use Rattle.track.proofs.append_lost.Goals as goal

pub returns-in_err-need : goal.returns-in_err-need
returns-in_err-need c = let p = err_from_is_err_and c.from_residual.result c.from_residual.ensures.1 in rw (p.1, p.2) (lost_none c.args.store.now c.args.n _ c.in_err-need.ensures)

pub returns-in_err-v : goal.returns-in_err-v
returns-in_err-v c = let p = err_from_is_err_and c.from_residual-in_err-v.result c.from_residual-in_err-v.ensures.1 in rw (p.1, p.2) (lost_unread c.args.store.now c.args.n _ c.in_ok-need.ensures c.in_err-v.ensures.number)

pub link_lost-requires : goal.link_lost-requires
link_lost-requires c = (told_viewed c.args.store.now _ c.in_ok-v.ensures, need_within _ _ 9 (omega arith) c.in_ok-need.ensures, search rules)
